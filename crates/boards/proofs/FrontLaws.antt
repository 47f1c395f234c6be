-- A file's records, cut into their bytes; their tests, as the library makes them.
use mathlib.Core.Path.{◌≡◌, refl, sym, ap, ap₂, subst, ◌∙◌}
use mathlib.Core.List.{List, [], ◌∷◌}
use mathlib.Core.Bool.{Bool, true, false, ◌&&◌}
use Prim.Native.Nat.{ℕ, zero, suc, ◌+◌, ◌*◌, ◌<◌}
use native.Mathlib.Omega.{arith}
use lib.Dec.{eqb, leb}
use lib.ListN.{length, get_or, take, drop}
use borrow.Author.Tests.{le-leb}
use lib.Seq.{get_or-drop}
use Rattle.std.proofs.lemmas.List.{get_or-take, take-take, drop-take}
use Rattle.std.specs.Simd.{first_chunks}
use Rattle.std.specs.List.{IsAllAdjacentAnswer}
use Rattle.boards.specs.Files.{BoardRecord, byte_at, number4, record_of, records_of, good_record, good_front, good_fronts, rising}
use Rattle.boards.specs.Places.{read, all_good, follows}

-- the number at a place is at the front of what is left from there
pub four_drop : (bs : List ℕ) (at i : ℕ) → number4 (drop at bs) i ≡ number4 bs (at + i)
four_drop bs at i = rw (get_or-drop at bs i 0, there 1, there 2, there 3) refl
  where
    there : (k : ℕ) → byte_at (drop at bs) (i + k) ≡ byte_at bs (at + i + k)
    there k = get_or-drop at bs (i + k) 0 ∙ ap (byte_at bs) (let e : at + (i + k) ≡ at + i + k = omega arith in e)

-- the twelve bytes at the front have the record there
module _ (bs : List ℕ) where
  byte : (i : ℕ) → i < 12 → byte_at (take 12 bs) i ≡ byte_at bs i
  byte i h = get_or-take 12 bs i 0 h

  front_record : record_of (take 12 bs) ≡ record_of bs
  front_record =
      rw (
        byte 0 (omega arith),
        byte 1 (omega arith),
        byte 2 (omega arith),
        byte 3 (omega arith),
        byte 4 (omega arith),
        byte 5 (omega arith),
        byte 6 (omega arith),
        byte 7 (omega arith),
        byte 8 (omega arith),
        byte 9 (omega arith),
      ) refl

  front_good : good_front (take 12 bs) ≡ good_front bs
  front_good =
      ap₂ (λ (r : BoardRecord) (b : Bool). good_record r && b) front_record
      (ap₂ (λ (x y : ℕ). eqb x 0 && eqb y 0) (byte 10 (omega arith)) (byte 11 (omega arith)))

pub read_chunks : (k : ℕ) (bs : List ℕ) → read (first_chunks 12 k bs) ≡ records_of k bs
unfolding records_of
read_chunks zero bs = refl
read_chunks (suc k) bs = ap₂ ◌∷◌ (front_record bs) (read_chunks k (drop 12 bs))

pub good_chunks : (k : ℕ) (bs : List ℕ) → all_good (first_chunks 12 k bs) ≡ good_fronts k bs
unfolding good_fronts
good_chunks zero bs = refl
good_chunks (suc k) bs = ap₂ ◌&&◌ (front_good bs) (good_chunks k (drop 12 bs))

pub so_many : (k : ℕ) (bs : List ℕ) → length (first_chunks 12 k bs) ≡ k
so_many zero bs = refl
so_many (suc k) bs = ap suc (so_many k (drop 12 bs))

-- bytes behind the chunks change nothing
pub chunks_taken : (k : ℕ) (bs : List ℕ) → first_chunks 12 k (take (k * 12) bs) ≡ first_chunks 12 k bs
chunks_taken zero bs = refl
chunks_taken (suc k) bs =
    let e : suc k * 12 ≡ 12 + k * 12 = omega arith in
    rw (e, take-take 12 (12 + k * 12) bs (omega arith), drop-take 12 (k * 12) bs) (ap (take 12 bs ∷◌) (chunks_taken k (drop 12 bs)))

pub and_last : (a : Bool) {b : Bool} → b ≡ false → (a && b) ≡ false
and_last true e = e
and_last false e = refl

-- what the library finds of each two neighbours, of the first two and then of the rest
module _ (r s : List ℕ) (rs : List (List ℕ)) where
  later : (t : Bool) (k : ℕ) (d : List ℕ) → t ≡ follows (get_or (r ∷ s ∷ rs) (suc k) d) (get_or (r ∷ s ∷ rs) (suc k + 1) d)
      → t ≡ follows (get_or (s ∷ rs) k d) (get_or (s ∷ rs) (k + 1) d)
  later t k d = subst (λ (j : ℕ). t ≡ follows (get_or (s ∷ rs) k d) (get_or (r ∷ s ∷ rs) j d)) (let e : suc k + 1 ≡ suc (k + 1) = omega arith in e)

  module _ (b : Bool) (rest : (t : Bool) → IsAllAdjacentAnswer (λ x y u. u ≡ follows x y) (s ∷ rs) t → t ≡ b) where
    fault : (k : ℕ) → k + 1 < suc (suc (length rs)) → ((d : List ℕ) → false ≡ follows (get_or (r ∷ s ∷ rs) k d) (get_or (r ∷ s ∷ rs) (k + 1) d))
        → false ≡ (follows r s && b)
    fault zero l h = ap (λ (a : Bool). a && b) (h [])
    fault (suc k) l h = sym (and_last (follows r s) (sym (rest false (k, omega (arith, l), λ d. later false k d (h d)))))

    both : (t : Bool) → IsAllAdjacentAnswer (λ x y u. u ≡ follows x y) (r ∷ s ∷ rs) t → t ≡ (follows r s && b)
    both true h = ap₂ ◌&&◌ (h 0 [] (omega arith)) (rest true (λ k d l. later true k d (h (suc k) d (omega (arith, l)))))
    both false h = fault h.0 h.1 h.2

-- the records after the first are good, and their ticks never fall
after_first : (r : List ℕ) (rs : List (List ℕ)) (t : Bool) → IsAllAdjacentAnswer (λ x y u. u ≡ follows x y) (r ∷ rs) t
    → t ≡ (all_good rs && rising (record_of r).tick (read rs))
unfolding rising
after_first r [] true h = refl
after_first r [] false h = absurd (omega (arith, h.1))
after_first r (s ∷ rs) t h =
    let part = both r s rs (all_good rs && rising (record_of s).tick (read rs)) (λ u m. after_first s rs u m) t h in
    part ∙ apart (good_front s) (all_good rs) (leb (record_of r).tick (record_of s).tick) (rising (record_of s).tick (read rs))
  where
    apart : (g a c d : Bool) → ((g && c) && (a && d)) ≡ ((g && a) && (c && d))
    apart true true c d = refl
    apart true false true d = refl
    apart true false false d = refl
    apart false a c d = refl

-- with the first, all are
pub neighbours : (rs : List (List ℕ)) (t : Bool) → (0 < length rs → good_front (get_or rs 0 []) ≡ true)
    → IsAllAdjacentAnswer (λ x y u. u ≡ follows x y) rs t → t ≡ (all_good rs && rising 0 (read rs))
unfolding rising
neighbours [] true f h = refl
neighbours [] false f h = absurd (omega (arith, h.1))
neighbours (r ∷ rs) t f h =
    after_first r rs t h
    ∙ sym (ap₂ (λ (a b : Bool). (a && all_good rs) && (b && rising (record_of r).tick (read rs))) (f (omega arith)) (le-leb 0 (record_of r).tick (omega arith)))
