-- The theorems about the listing. 01's 744 bytes: where so many are left, an answer line fits, and behind it a last line still does.
use Prim.Native.Nat.{ℕ, ◌+◌, ◌≤◌, ◌<◌}
use mathlib.Core.Path.{◌≡◌}
use mathlib.Core.List.{List, ◌++◌}
use mathlib.Core.Bool.{Bool}
use native.Mathlib.Omega.{arith}
use lib.ListN.{length, get_or, take, drop}
use Rattle.listing.specs.Decimal.{decimal, tens}
use Rattle.listing.specs.Divisions.{divided, ReadyDigits}
use Rattle.listing.specs.Lines.{ll_line, truth_line, end_line, refused_line}
use Rattle.listing.specs.Writing.{Room, Wrote}
use Rattle.listing.proofs.DecimalLaws.{at_most}
use Rattle.listing.proofs.DivisionLaws.{ready_digits}
use Rattle.listing.proofs.Lengths.{ll_length, truth_length, end_length, refused_length}
use Rattle.listing.proofs.WritingLaws.{kept, stays, grows}

-- a number below 10 to the k has at most k digits
pub digits_of : (k n : ℕ) → 0 < k → n < tens k → length (decimal n) ≤ k
digits_of k n p h = at_most k n p h

-- CR 6: "after k divisions the last k digits stand ready and the rest of the number is left, down to nothing"
pub after_divisions : (n k : ℕ) → n < 18446744073709551616 → k ≤ length (decimal n) → ReadyDigits n k (divided k n)
after_divisions n k l h = ready_digits n l k h

-- an answer line of a text run, with its process, its count of own steps and what was answered
pub data Answer : List ℕ → Type 0 where
  ll : (p count : ℕ) (ws : List ℕ) → p < 16 → count ≤ 519 → length ws ≤ 64 → ((i : ℕ) → get_or ws i 0 ≤ 4294967295) → Answer (ll_line p count ws)
  truth : (p letter count : ℕ) (b : Bool) → p < 16 → count ≤ 519 → Answer (truth_line p letter count b)

-- a last line of a text run
pub data Last : List ℕ → Type 0 where
  end : (e : ℕ) → e ≤ 60000 → Last (end_line e)
  refused : (c e : ℕ) → c ≤ 15 → e ≤ 60000 → Last (refused_line c e)

pub answer_length : {a : List ℕ} → Answer a → length a ≤ 713
answer_length (ll p count ws h k l m) = ll_length p count ws h k l m
answer_length (truth p letter count b h k) = omega (arith, truth_length p letter count b h k)

pub last_length : {z : List ℕ} → Last z → length z ≤ 17
last_length (end e h) = omega (arith, end_length e h)
last_length (refused c e k h) = refused_length c e k h

-- an answer line and then a last line fit into 744 bytes
pub both_fit : {a z : List ℕ} → Answer a → Last z → length a + length z ≤ 744
both_fit p q = omega (arith, answer_length p, last_length q)

-- so with 744 bytes left there is room for the answer line
pub room_for_answer : {l a : List ℕ} {at : ℕ} → at + 744 ≤ length l → Answer a → Room l at a
room_for_answer h p = record { fits = omega (arith, answer_length p) }

-- and behind it for the last line
pub room_for_last : {l l' a z : List ℕ} {at next : ℕ} → at + 744 ≤ length l → Answer a → Wrote l at a l' next → Last z → Room l' next z
room_for_last h p w q = record { fits = omega (arith, w.place, kept w, both_fit p q) }

-- and for a last line alone
pub room_for_end : {l z : List ℕ} {at : ℕ} → at + 744 ≤ length l → Last z → Room l at z
room_for_end h q = record { fits = omega (arith, last_length q) }

-- the bytes before and behind what is written stay
pub others_stay : {l l' bs : List ℕ} {at next : ℕ} → Room l at bs → Wrote l at bs l' next → l' ≡ take at l ++ bs ++ drop next l
others_stay r w = stays r w

-- what is written stands behind what was written before it
pub listing_grows : {l l' bs : List ℕ} {at next : ℕ} → Room l at bs → Wrote l at bs l' next → take next l' ≡ take at l ++ bs
listing_grows r w = grows r w
