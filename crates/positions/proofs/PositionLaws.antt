-- Laws of the loop that looks at the bytes before a place.
use Prim.Native.Nat.{ℕ, ◌+◌, ◌≤◌, ◌<◌}
use mathlib.Core.Path.{◌≡◌, sym, ap, ◌∙◌}
use mathlib.Core.List.{List}
use mathlib.Core.Bool.{Bool, true, false, cond}
use native.Mathlib.Omega.{arith}
use native.Mathlib.Numerals.{add-one}
use lib.Dec.{eqb}
use lib.ListN.{length, drop, get_or}
use lib.Seq.{drop-cons, drop-length}
use Rattle.positions.specs.declared.Seen.{Seen}
use Rattle.positions.specs.Positions.{on_byte, seen_from, counted}

-- no count is above the bytes passed
pub record Passed (i : ℕ) (s : Seen) : Type 0 where
  pub feeds : s.feeds ≤ i
  pub since : s.since ≤ i
  pub spaces : s.spaces ≤ i

counted_most : (i n : ℕ) (t : Bool) → n ≤ i → counted n t ≤ i + 1
counted_most i n true h = omega arith
counted_most i n false h = omega arith

since_most : (i n : ℕ) (t : Bool) → n ≤ i → cond t 0 (n + 1) ≤ i + 1
since_most i n true h = omega arith
since_most i n false h = omega arith

pub passed_more : (i b : ℕ) (s : Seen) → Passed i s → Passed (i + 1) (on_byte b s)
unfolding on_byte
passed_more i b s p = record
    { feeds = counted_most i s.feeds (eqb b 10) p.feeds; since = since_most i s.since (eqb b 10) p.since; spaces = counted_most i s.spaces (eqb b 32) p.spaces }

-- what is left to look at, one byte further on
pub one_further : (bs : List ℕ) (i : ℕ) (s : Seen) → i < length bs → seen_from (drop i bs) s ≡ seen_from (drop (i + 1) bs) (on_byte (get_or bs i 0) s)
unfolding seen_from
one_further bs i s h = ap (λ (x : List ℕ). seen_from x s) (drop-cons bs i 0 h) ∙ ap (λ (k : ℕ). seen_from (drop k bs) (on_byte (get_or bs i 0) s)) (sym (add-one i))

-- nothing is left
pub all_seen : (bs : List ℕ) (i : ℕ) (s : Seen) → length bs ≡ i → seen_from (drop i bs) s ≡ s
unfolding seen_from
all_seen bs i s h = ap (λ (x : List ℕ). seen_from x s) (ap (λ (k : ℕ). drop k bs) (sym h) ∙ drop-length bs)
