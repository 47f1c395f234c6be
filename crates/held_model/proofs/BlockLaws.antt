-- A run written over a list: the others stay.
use mathlib.Core.Path.{◌≡◌, refl, ap, ◌∙◌}
use mathlib.Core.Bool.{Bool, true, false}
use mathlib.Core.List.{List, [], ◌∷◌}
use Prim.Native.Nat.{ℕ, zero, suc, ◌+◌, ◌<◌, ◌≤◌}
use native.Mathlib.Omega.{arith}
use lib.Dec.{ltb}
use lib.ListN.{length, get_or, set, drop, length-set}
use lib.Seq.{sets, get_or-set_same, get_or-set_other, drop-set-lt}
use borrow.Author.Tests.{ltb-true, ltb-false}

module _ {A : Type 0} (d : A) where
  pub below : (l vs : List A) (a k : ℕ) → k < a → get_or (sets l a vs) k d ≡ get_or l k d
  below l [] a k h = refl
  below l (v ∷ vs) a k h = below (set l a v) vs (suc a) k (omega arith) ∙ get_or-set_other l a k v d (λ e. omega (arith, e))

  pub above : (l vs : List A) (a k : ℕ) → a + length vs ≤ k → get_or (sets l a vs) k d ≡ get_or l k d
  above l [] a k h = refl
  above l (v ∷ vs) a k h = above (set l a v) vs (suc a) k (omega arith) ∙ get_or-set_other l a k v d (λ e. omega (arith, e))

  -- number j of the run
  pub inside : (l vs : List A) (a j : ℕ) {k : ℕ} → k ≡ a + j → j < length vs → a + length vs ≤ length l → get_or (sets l a vs) k d ≡ get_or vs j d
  inside l [] a j e h m = absurd (omega arith)
  inside l (v ∷ vs) a zero {k} e h m =
      let same : k ≡ a = omega arith in
      below (set l a v) vs (suc a) k (omega arith) ∙ ap (λ (i : ℕ). get_or (set l a v) i d) same ∙ get_or-set_same l a v d (omega arith)
  inside l (v ∷ vs) a (suc j) {k} e h m = inside (set l a v) vs (suc a) j (omega arith) (omega arith) (omega (arith, m, length-set l a v))

-- numbers: one that is not of the run, and one of it
pub outside : (l vs : List ℕ) (a k : ℕ) → (a ≤ k → k < a + length vs → ⊥) → get_or (sets l a vs) k 0 ≡ get_or l k 0
outside l vs a k n = by (ltb k a) refl
  where
    by : (t : Bool) → ltb k a ≡ t → get_or (sets l a vs) k 0 ≡ get_or l k 0
    by true e = below 0 l vs a k (ltb-true k a e)
    by false e = let h : a ≤ k = ltb-false k a e in above 0 l vs a k (omega (arith, n h))

pub within : (l vs : List ℕ) (a j : ℕ) {k : ℕ} → k ≡ a + j → j < length vs → a + length vs ≤ length l → get_or (sets l a vs) k 0 ≡ get_or vs j 0
within l vs a j e h m = inside 0 l vs a j e h m

pub after : (l vs : List ℕ) (a n : ℕ) → a + length vs ≤ n → drop n (sets l a vs) ≡ drop n l
after l [] a n h = refl
after l (v ∷ vs) a n h = after (set l a v) vs (suc a) n (omega arith) ∙ drop-set-lt n l a v (omega arith)
