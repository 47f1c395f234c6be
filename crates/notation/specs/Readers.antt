-- What the readers promise, in terms of the bytes: each fixes the reply (proofs/Replies).
-- Inner: what the bytes are to the reading `scan` is said in Stretches and proved in ItemLaws and HeaderLaws.
use Rattle.std.specs.Prelude.{ℕ, ◌+◌, ◌*◌, ◌≤◌, ◌<◌, ◌≡◌, List, true, false, cond, length, get_or, take, Result, Ok, Err}
use Rattle.std.proofs.Math.Seq.{slice}
use Rattle.listing.specs.Decimal.{decimal}
use Rattle.notation.specs.declared.Kind.{Kind}
use Rattle.notation.specs.declared.Kind.TheVariants.{Digit, Gap, Marked, Offer, Open, Close, Other}
use Rattle.notation.specs.declared.Entry.TheVariants.{StartSc}
use Rattle.notation.specs.declared.Start.{Start}
use Rattle.notation.specs.declared.Start.TheVariants.{Single, Group}
use Rattle.notation.specs.declared.Follow.{Follow}
use Rattle.notation.specs.declared.Follow.TheVariants.{Item, Shut, End}
use Rattle.notation.specs.declared.First.{First}
use Rattle.notation.specs.Bytes.{space, line_feed, kind_of, entry_of, is_digit, is_gap}
use Rattle.notation.specs.Grammar.{largest, digit_ok, count_ok}
use Rattle.notation.specs.Written.{entry_written, count_written, first_written}

-- the digits from `at` to `next` lead a number from v to v'
pub data Counts (s : List ℕ) (at v : ℕ) : ℕ → ℕ → Type 0 where
  still : Counts s at v at v
  digit : {next v' d : ℕ} → Counts s at v next v' → next < length s → kind_of (get_or s next 0) ≡ Digit d → digit_ok v' d ≡ true → Counts s at v (next + 1) (v' * 10 + d)

-- all the digits from `at` on
pub record Numbered (s : List ℕ) (at v v' next : ℕ) : Type 0 where
  pub counts : Counts s at v next v'
  pub on : at ≤ next
  pub within : next ≤ length s
  pub small : v' ≤ largest
  pub stops : next < length s → is_digit (kind_of (get_or s next 0)) ≡ false

-- the digit at `next` may not stand there: the number is a zero, or it makes the number too large
pub record StrayDigit (s : List ℕ) (at v next : ℕ) : Type 0 where
  pub v' : ℕ
  pub d : ℕ
  pub counts : Counts s at v next v'
  pub here : next < length s
  pub is : kind_of (get_or s next 0) ≡ Digit d
  pub not : digit_ok v' d ≡ false

-- a number and the place after it, or the place of the byte (or of the text's end) that is in the way
abbrev pub Digits : Type 0
Digits = Result (ℕ × ℕ) ℕ

abbrev pub NumberSays : List ℕ → ℕ → ℕ → Digits → Type 0
NumberSays s at v (Ok (v', next)) = Numbered s at v v' next
NumberSays s at v (Err place) = StrayDigit s at v place

-- a number from its first digit on; CR 3: "its digits are the only ones for that value"
pub record Whole (s : List ℕ) (at v next : ℕ) : Type 0 where
  pub d : ℕ
  pub here : at < length s
  pub is : kind_of (get_or s at 0) ≡ Digit d
  pub numbered : Numbered s (at + 1) d v next
  pub only : slice at next s ≡ decimal v

-- no number stands there: the text ends, or the byte at a place is in the way
pub data NoneAt (s : List ℕ) (at : ℕ) : ℕ → Type 0 where
  ends : length s ≤ at → NoneAt s at (length s)
  other : at < length s → is_digit (kind_of (get_or s at 0)) ≡ false → NoneAt s at at
  strayed : {d place : ℕ} → at < length s → kind_of (get_or s at 0) ≡ Digit d → StrayDigit s (at + 1) d place → NoneAt s at place

abbrev pub NumberAtSays : List ℕ → ℕ → Digits → Type 0
NumberAtSays s at (Ok (v, next)) = Whole s at v next
NumberAtSays s at (Err place) = NoneAt s at place

-- a number of the first line and the one byte that ends it
pub record Ended (s : List ℕ) (at stop v next : ℕ) : Type 0 where
  pub place : ℕ
  pub number : Whole s at v place
  pub here : place < length s
  pub is : get_or s place 0 ≡ stop
  pub past : next ≡ place + 1

pub data NotEnded (s : List ℕ) (at stop : ℕ) : ℕ → Type 0 where
  none : {place : ℕ} → NoneAt s at place → NotEnded s at stop place
  ends : {v place : ℕ} → Whole s at v place → length s ≤ place → NotEnded s at stop (length s)
  other : {v place : ℕ} → Whole s at v place → place < length s → (get_or s place 0 ≡ stop → ⊥) → NotEnded s at stop place

abbrev pub FieldSays : List ℕ → ℕ → ℕ → Digits → Type 0
FieldSays s at stop (Ok (v, next)) = Ended s at stop v next
FieldSays s at stop (Err place) = NotEnded s at stop place

-- the first line, and where the items begin; CR 3: "a number read and written again gives the same digits"
pub record Headed (s : List ℕ) (n w v next : ℕ) : Type 0 where
  pub second : ℕ
  pub third : ℕ
  pub n_ends : Ended s 0 space n second
  pub w_ends : Ended s second space w third
  pub initial_ends : Ended s third line_feed v next
  pub again : take next s ≡ first_written n w v

pub data NotHeaded (s : List ℕ) : ℕ → Type 0 where
  no_n : {place : ℕ} → NotEnded s 0 space place → NotHeaded s place
  no_w : {n second place : ℕ} → Ended s 0 space n second → NotEnded s second space place → NotHeaded s place
  no_initial : {n w second third place : ℕ} → Ended s 0 space n second → Ended s second space w third → NotEnded s third line_feed place → NotHeaded s place

abbrev pub HeaderSays : List ℕ → Result First ℕ → Type 0
HeaderSays s (Ok f) = Headed s f.n f.w f.initial f.items
HeaderSays s (Err place) = NotHeaded s place

-- gaps from `at` to `next`
pub data Gapped (s : List ℕ) (at : ℕ) : ℕ → Type 0 where
  stay : Gapped s at at
  gap : {next : ℕ} → Gapped s at next → next < length s → kind_of (get_or s next 0) ≡ Gap → Gapped s at (next + 1)

-- all the gaps from `at` on
pub record Skipped (s : List ℕ) (at next : ℕ) : Type 0 where
  pub gaps : Gapped s at next
  pub on : at ≤ next
  pub within : next ≤ length s
  pub stops : next < length s → is_gap (kind_of (get_or s next 0)) ≡ false

-- an item begun and the place after it, or after its `(`; or the place in the way
abbrev pub Beginning : Type 0
Beginning = Result (Start × ℕ) ℕ

-- what follows an item, and the place from which it goes on; or the place in the way
abbrev pub Following : Type 0
Following = Result (Follow × ℕ) ℕ

-- what a number after the `s` of process p makes
abbrev pub offer_of : ℕ → Digits → Beginning
offer_of p (Ok (k, next)) = Ok (Single (StartSc p k), next)
offer_of p (Err place) = Err place

pub record Offered (s : List ℕ) (p at : ℕ) (r : Beginning) : Type 0 where
  pub number : Digits
  pub is : NumberAtSays s at number
  pub same : r ≡ offer_of p number

-- what the byte after an item's first number makes of it
abbrev pub Signed : List ℕ → ℕ → ℕ → Kind → Beginning → Type 0
Signed s v place (Digit d) r = r ≡ Err place
Signed s v place Gap r = r ≡ Err place
Signed s v place (Marked m) r = r ≡ Ok (Single (entry_of m v), place + 1)
Signed s v place Offer r = Offered s v (place + 1) r
Signed s v place Open r = r ≡ cond (count_ok v) (Ok (Group v, place + 1)) (Err place)
Signed s v place Close r = r ≡ Err place
Signed s v place Other r = r ≡ Err place

-- how an item begins
pub data Begins (s : List ℕ) (at : ℕ) : Beginning → Type 0 where
  none : {place : ℕ} → NoneAt s at place → Begins s at (Err place)
  ends : {v place : ℕ} → Whole s at v place → length s ≤ place → Begins s at (Err (length s))
  signed : {v place : ℕ} {k : Kind} {r : Beginning} → Whole s at v place → place < length s → kind_of (get_or s place 0) ≡ k → Signed s v place k r → Begins s at r

-- CR 3: "a number read and written again gives the same digits": an item's, and a group's count
abbrev pub WrittenAgain : List ℕ → ℕ → Beginning → Type 0
WrittenAgain s at (Ok (Single e, next)) = slice at next s ≡ entry_written e
WrittenAgain s at (Ok (Group n, next)) = slice at next s ≡ count_written n
WrittenAgain s at (Err place) = Unit {0}

pub record BeginSays (s : List ℕ) (at : ℕ) (r : Beginning) : Type 0 where
  pub begins : Begins s at r
  pub again : WrittenAgain s at r

-- what the byte behind an item and gaps makes
abbrev pub behind_of : ℕ → Kind → Following
behind_of next (Digit d) = Ok (Item, next)
behind_of next Gap = Err next
behind_of next (Marked m) = Err next
behind_of next Offer = Err next
behind_of next Open = Err next
behind_of next Close = Ok (Shut, next + 1)
behind_of next Other = Err next

pub data Behind (s : List ℕ) (next : ℕ) : Following → Type 0 where
  ends : length s ≤ next → Behind s next (Ok (End, next))
  byte : {k : Kind} {r : Following} → next < length s → kind_of (get_or s next 0) ≡ k → r ≡ behind_of next k → Behind s next r

pub record BehindGaps (s : List ℕ) (at : ℕ) (r : Following) : Type 0 where
  pub next : ℕ
  pub skipped : Skipped s at next
  pub behind : Behind s next r

-- what the byte right after an item makes
abbrev pub After : List ℕ → ℕ → Kind → Following → Type 0
After s at (Digit d) r = r ≡ Err at
After s at Gap r = BehindGaps s (at + 1) r
After s at (Marked m) r = r ≡ Err at
After s at Offer r = r ≡ Err at
After s at Open r = r ≡ Err at
After s at Close r = r ≡ Ok (Shut, at + 1)
After s at Other r = r ≡ Err at

-- what follows an item
pub data Follows (s : List ℕ) (at : ℕ) : Following → Type 0 where
  ends : length s ≤ at → Follows s at (Ok (End, at))
  byte : {k : Kind} {r : Following} → at < length s → kind_of (get_or s at 0) ≡ k → After s at k r → Follows s at r
