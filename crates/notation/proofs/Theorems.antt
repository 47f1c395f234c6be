-- The theorems about the notation: the grammar and the byte-at-a-time reading agree, each entry has one place, numbers
-- are written one way only, and every text that is not right has one fault at one place.
use Prim.Native.Nat.{ℕ, ◌+◌, ◌≤◌}
use mathlib.Core.Path.{◌≡◌, sym, ap, ◌∙◌}
use mathlib.Core.List.{List}
use mathlib.Core.Logic.{◌⊎◌}
use native.Mathlib.Omega.{arith}
use lib.ListN.{length}
use Rattle.listing.specs.Decimal.{decimal}
use Rattle.notation.specs.Grammar.{largest, Number, Item, FirstLine, Text, Said, item_bytes, first_bytes, bytes, says, places, deepest}
use Rattle.notation.specs.Written.{first_written, item_written, written, Standing}
use Rattle.notation.specs.FirstLine.{read}
use Rattle.notation.specs.Readings.{right, wrong}
use Rattle.notation.specs.Places.{locate_text}
use Rattle.notation.specs.Right.{Right, Tells, Fault}
use Rattle.notation.proofs.Agreement.{text_read}
use Rattle.notation.proofs.TextTrees.{text_given, right_same}
use Rattle.notation.proofs.PlacedTrees.{text_placed, text_even}
use Rattle.notation.proofs.NumberLaws.{number_only, digits_of}
use Rattle.notation.proofs.WrittenTrees.{first_line, item_bytes_is, text_bytes, text_stands}
use Rattle.notation.proofs.TextPlaces.{fault_placed, fault_left, same_place, same_fault, fault_wrong, decided}

-- every right text is read to what it says
pub right_is_read : (t : Text deepest) → read (bytes t) ≡ right (says t)
unfolding read
right_is_read t = text_read t

-- whatever is read to an end is a right text that says so
pub read_is_right : (s : List ℕ) (a : Said) → read s ≡ right a → Tells deepest s a
unfolding read
read_is_right s a h = text_given deepest s a h

-- a text says one thing
pub says_one_thing : (s : List ℕ) (a b : Said) → Tells deepest s a → Tells deepest s b → a ≡ b
says_one_thing s a b p q = right_same (sym (reads p) ∙ reads q)
  where
    reads : {c : Said} → Tells deepest s c → read s ≡ right c
    reads t = ap read (sym t.text) ∙ right_is_read t.tree ∙ ap right t.saying

-- a text has one place for each entry that it says, and its bytes alone fix them
pub place_for_each : (t : Text deepest) → length (places t) ≡ length (says t).entries
place_for_each t = text_even t

pub places_one_way : (t u : Text deepest) → bytes t ≡ bytes u → places t ≡ places u
places_one_way t u e = sym (text_placed t) ∙ ap (λ (s : List ℕ). locate_text s 0) e ∙ text_placed u

-- CR 3: the digits of a number are the only ones for its value, and every value has them
pub only_digits : (ds : List ℕ) (v : ℕ) → Number ds v → ds ≡ decimal v
only_digits ds v n = number_only n

pub digits_for_each : (v : ℕ) → v ≤ largest → Number (decimal v) v
digits_for_each v h = digits_of v h

-- CR 3: "a number read and written again gives the same digits": in the first line, in an item or a group, in a text
pub first_line_again : (f : FirstLine) → first_bytes f ≡ first_written f.n f.w f.initial
first_line_again f = first_line f

pub item_again : {d : ℕ} (i : Item d) → item_bytes i ≡ item_written i
item_again i = item_bytes_is i

pub text_again : (t : Text deepest) → bytes t ≡ written t
text_again t = text_bytes t

-- and so each entry that a text says, at its place
pub entries_again : (t : Text deepest) → Standing (bytes t) (places t) (says t).entries
entries_again t = text_stands t

-- a text that is not read to an end has a fault of the reading's number, at the first byte after which no text could be right
pub wrong_has_fault : (s : List ℕ) (k left : ℕ) → read s ≡ wrong k left → Fault s k
unfolding read
wrong_has_fault s k left h = fault_placed s k left h

-- then it is not right
pub fault_is_wrong : (s : List ℕ) (k : ℕ) → Fault s k → Right deepest s → ⊥
fault_is_wrong s k p = fault_wrong p

-- the fault of a text is one: one place, one number
pub one_place : (s : List ℕ) (j k : ℕ) (p : Fault s j) (q : Fault s k) → p.at ≡ q.at
one_place s j k p q = same_place p q

-- and its place is the reading's: so many bytes are left from it on
pub wrong_at_fault : (s : List ℕ) (j k left : ℕ) (p : Fault s j) → read s ≡ wrong k left → p.at + left ≡ length s
unfolding read
wrong_at_fault s j k left p h = omega (arith, same_place p (fault_placed s k left h), fault_left s k left h)

pub one_number : (s : List ℕ) (j k : ℕ) → Fault s j → Fault s k → j ≡ k
one_number s j k p q = same_fault p q

-- so every text is right, or has a fault 10, or has a fault 11, and no two of these
pub right_or_fault : (s : List ℕ) → Right deepest s ⊎ (Fault s 10 ⊎ Fault s 11)
right_or_fault s = decided s
