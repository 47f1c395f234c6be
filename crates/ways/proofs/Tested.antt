-- A test that passes at every entry of a table and its place holds at each of them.
use mathlib.Core.Path.{◌≡◌, ◌∙◌, subst, sym}
use mathlib.Core.Bool.{Bool, true}
use mathlib.Core.List.{List, [], ◌∷◌}
use Prim.Native.Nat.{ℕ, zero, suc, ◌+◌, ◌<◌}
use native.Mathlib.Nat.{add-zero, zero-add, add-suc, suc-add, le_of_suc-le-suc, not-suc-le-zero}
use lib.ListN.{length, get_or}
use Rattle.laws.proofs.AndLaws.{left, right}
use Rattle.ways.specs.Table.{every_entry}

module _ {A : Type 0} (none : A) (f : ℕ → A → Bool) where
  from : (xs : List A) (i : ℕ) → every_entry f i xs ≡ true → (k : ℕ) → k < length xs → f (i + k) (get_or xs k none) ≡ true
  from [] i t k h = absurd (not-suc-le-zero h)
  from (x ∷ xs) i t zero h = subst (λ (m : ℕ). f m x ≡ true) (sym (add-zero i)) (left (f i x) (every_entry f (suc i) xs) t)
  from (x ∷ xs) i t (suc k) h =
      subst (λ (m : ℕ). f m (get_or xs k none) ≡ true) (suc-add i k ∙ sym (add-suc i k))
      (from xs (suc i) (right (f i x) (every_entry f (suc i) xs) t) k (le_of_suc-le-suc h))

  pub at : (xs : List A) → every_entry f 0 xs ≡ true → (k : ℕ) → k < length xs → f k (get_or xs k none) ≡ true
  at xs t k h = subst (λ (m : ℕ). f m (get_or xs k none) ≡ true) (zero-add k) (from xs 0 t k h)
