-- A line of a trace (docs/TRACE.md), read from its first byte on: what it says of its command is this (proofs/TracedLines).
use Rattle.std.specs.Prelude.{◌≡◌, ℕ, ◌+◌, List, Bool, ◌||◌, cond, eqb, drop, Option, Some, None, Result, Ok, Err}
use Rattle.std.specs.Result.{is_ok}
use Rattle.listing.specs.Quoted.{byte}
use Rattle.answers.specs.Shape.{largest}
use Rattle.answers.specs.Readers.{first, Read, number_in, spaced_number, Text, GivesNumber}
use Rattle.marking.specs.declared.NamedItem.{NamedItem}
use Rattle.marking.specs.declared.NamedItem.TheVariants.{X, Bank, Help, Half}
use Rattle.marking.specs.declared.Line.{Line}
use Rattle.marking.specs.Marks.{started_line}

-- an item that the bytes name, and the bytes after it
pub record ItemRead : Type 0 where
  pub item : NamedItem
  pub rest : List ℕ

-- a number and the bytes after it; where none stands, as in no line of a trace, one more than the largest
abbrev pub or_too_large : Read ℕ → ℕ × List ℕ
or_too_large (Ok p) = p
or_too_large (Err rest) = (largest + 1, rest)

abbrev pub number_at : List ℕ → ℕ × List ℕ
number_at bs = or_too_large (number_in bs)

abbrev pub spaced_at : List ℕ → ℕ × List ℕ
spaced_at bs = or_too_large (spaced_number bs)

-- a place of Bank or Help: a number, and the bracket behind it
unfoldable pub numbered : (ℕ → NamedItem) → List ℕ → ItemRead
numbered place bs = record { item = place (number_at bs).0; rest = drop 1 (number_at bs).1 }

-- behind a number and `][`, a number; behind that and `] `, `low` or `high`
abbrev pub word_in : List ℕ → ℕ × List ℕ
word_in bs = number_at (drop 2 (number_at bs).1)

abbrev pub which_half : List ℕ → List ℕ
which_half bs = drop 2 (word_in bs).1

unfoldable pub half_in : List ℕ → ItemRead
half_in bs =
    let high : Bool = eqb (first (which_half bs)) (byte "h") in
    record {
      item = Half high (number_at bs).0 (word_in bs).0;
      rest = drop (cond high 4 3) (which_half bs);
    }

-- ` X`, ` Bank[`, ` Help[`, ` BUF[`, told by the second letter
unfoldable pub item_in : List ℕ → ItemRead
item_in bs = cond (eqb (first (drop 2 bs)) (byte "a")) (numbered Bank (drop 6 bs))
    (cond (eqb (first (drop 2 bs)) (byte "e")) (numbered Help (drop 6 bs))
    (cond (eqb (first (drop 2 bs)) (byte "U")) (half_in (drop 5 bs))
    (record { item = X; rest = drop 2 bs })))

-- ` LL`, ` VL`, ` read`
unfoldable pub looks_in : List ℕ → Bool
looks_in bs =
    let letter : ℕ = first (drop 1 bs) in
    eqb letter (byte "L") || (eqb letter (byte "V") || eqb letter (byte "r"))

-- a line that is no command's
abbrev pub no_line : Option Line
no_line = None

-- the line of a step of process p, from its item on
abbrev pub stepped_in : ℕ → List ℕ → Line
stepped_in p bs = record {
  process = p;
  touched = Some (record { item = (item_in bs).item; looks = looks_in (item_in bs).rest });
}

-- the entry number, the process, and `start` or the number of the line
abbrev pub process_in : List ℕ → ℕ × List ℕ
process_in bs = spaced_at (number_at bs).1

unfoldable pub line_in : List ℕ → Option Line
line_in bs = cond (is_ok (number_in bs))
    (Some (cond (eqb (first (drop 1 (process_in bs).1)) (byte "s")) (started_line (process_in bs).0)
    (stepped_in (process_in bs).0 (spaced_at (process_in bs).1).1)))
    no_line

-- the same of what the code returns
abbrev pub GivesTooLarge : Result (ℕ × Text) Text → ℕ × Text → Type 0
GivesTooLarge r p = (g : Read ℕ) → GivesNumber r g → or_too_large g ≡ (p.0, p.1.now)

abbrev pub GivesItem : NamedItem × Text → ItemRead → Type 0
GivesItem p i = i ≡ record { item = p.0; rest = p.1.now }
