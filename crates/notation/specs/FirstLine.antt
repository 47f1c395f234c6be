-- A whole text, a byte at a time: its first line, and then its items.
-- Inner: `ReadingLaws` proves that `read` gives each text its one reading by `Grammar`.
use Rattle.std.specs.Prelude.{ℕ, suc, List, [], ◌∷◌, false, cond, eqb, length}
use Rattle.notation.specs.declared.Kind.{Kind}
use Rattle.notation.specs.declared.Kind.TheVariants.{Digit, Gap, Marked, Offer, Open, Close, Other}
use Rattle.notation.specs.Bytes.{space, line_feed, kind_of}
use Rattle.notation.specs.Grammar.{deepest}
use Rattle.notation.specs.Readings.{Reading, right, wrong}
use Rattle.notation.specs.Scan.{on_digit, between, Verdict, end, shut, fault, scan}

-- where a reading stands in the first line: before or in each of its numbers
pub data Place : Type 0 where
  before_n : Place
  in_n : ℕ → Place
  before_w : ℕ → Place
  in_w : ℕ → ℕ → Place
  before_initial : ℕ → ℕ → Place
  in_initial : ℕ → ℕ → ℕ → Place

-- what a byte does there
pub data Next : Type 0 where
  goes : Place → Next
  -- the items begin, after N, W and the initial number
  begins : ℕ → ℕ → ℕ → Next
  -- no text goes on so
  breaks : Next

-- before a number: its first digit
unfoldable pub starting : (ℕ → Place) → Kind → Next
starting f (Digit d) = goes (f d)
starting f Gap = breaks
starting f (Marked m) = breaks
starting f Offer = breaks
starting f Open = breaks
starting f Close = breaks
starting f Other = breaks

-- in a number that is v so far: one more digit, or the one byte that ends it
unfoldable pub inside : (ℕ → Place) → ℕ → (ℕ → Next) → ℕ → ℕ → Kind → Next
inside f stop out v b (Digit d) = on_digit v d (λ x. goes (f x)) breaks
inside f stop out v b Gap = cond (eqb b stop) (out v) breaks
inside f stop out v b (Marked m) = breaks
inside f stop out v b Offer = breaks
inside f stop out v b Open = breaks
inside f stop out v b Close = breaks
inside f stop out v b Other = breaks

-- 01: "N, W and an initial number, one space between, then a line feed"
unfoldable pub step : Place → ℕ → Next
step before_n b = starting in_n (kind_of b)
step (in_n n) b = inside in_n space (λ x. goes (before_w x)) n b (kind_of b)
step (before_w n) b = starting (in_w n) (kind_of b)
step (in_w n w) b = inside (in_w n) space (λ x. goes (before_initial n x)) w b (kind_of b)
step (before_initial n w) b = starting (in_initial n w) (kind_of b)
step (in_initial n w v) b = inside (in_initial n w) line_feed (begins n w) v b (kind_of b)

-- the items after a first line
unfoldable pub whole : ℕ → ℕ → ℕ → Verdict → Reading
whole n w v (end es) = right (record { n = n; w = w; initial = v; entries = es })
whole n w v (shut es l) = wrong 10 (suc (length l))
whole n w v (fault k left) = wrong k left

unfoldable pub proceed : (Place → Reading) → (ℕ → ℕ → ℕ → Reading) → ℕ → Next → Reading
proceed k items left (goes m) = k m
proceed k items left (begins n w v) = items n w v
proceed k items left breaks = wrong 10 left

-- the reading of a text from a place of its first line, where d groups may stand inside each other
unfoldable pub read_from : ℕ → List ℕ → Place → Reading
read_from d [] m = wrong 10 0
read_from d (b ∷ l) m = proceed (read_from d l) (λ n w v. whole n w v (scan l (between false) [] [] d)) (suc (length l)) (step m b)

-- the same after a byte that does x, with the text l behind it
abbrev pub past : ℕ → List ℕ → Next → Reading
past d l x = proceed (read_from d l) (λ n w v. whole n w v (scan l (between false) [] [] d)) (suc (length l)) x

-- the reading of a whole text
unfoldable pub read : List ℕ → Reading
read s = read_from deepest s before_n
