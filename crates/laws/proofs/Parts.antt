-- The first values of a function: the same as another's, and as a list.
use mathlib.Core.Path.{◌≡◌, refl, ap, ap₂, ◌∙◌}
use mathlib.Core.List.{List, [], ◌∷◌}
use Prim.Native.Nat.{ℕ, zero, suc, ◌≤◌, ◌<◌}
use native.Mathlib.Omega.{arith}
use lib.ListN.{length, get_or}
use Rattle.laws.proofs.Updates.{upd, upd_same, upd_other, Split, same, other, split}

abbrev pub SamePart : (ℕ → ℕ) → (ℕ → ℕ) → ℕ → Type 0
SamePart f g n = (w : ℕ) → w < n → f w ≡ g w

-- one value more
pub pre_put : (f g : ℕ → ℕ) (k v : ℕ) → SamePart f g k → v ≡ g k → SamePart (upd f k v) g (suc k)
pre_put f g k v d e w hw = go (split w k)
  where
    go : Split w k → upd f k v w ≡ g w
    go (same z) = rw z (upd_same f k v ∙ e)
    go (other n) = upd_other f k w v n ∙ d w (omega arith)

pub pre_all : (f g : ℕ → ℕ) (k m : ℕ) → k ≤ m → SamePart f g m → SamePart f g k
pre_all f g k m h d w hw = d w (omega arith)

pub pre_none : (f g : ℕ → ℕ) (k : ℕ) → k ≡ 0 → SamePart f g k
pre_none f g k e w hw = absurd (omega arith)

abbrev pub tab : ℕ → (ℕ → ℕ) → List ℕ
tab zero f = []
tab (suc n) f = f 0 ∷ tab n (λ k. f (suc k))

pub tab_ext : (n : ℕ) (f g : ℕ → ℕ) → SamePart f g n → tab n f ≡ tab n g
tab_ext zero f g e = refl
tab_ext (suc n) f g e = ap₂ ◌∷◌ (e 0 (omega arith)) (tab_ext n (λ k. f (suc k)) (λ k. g (suc k)) (λ k h. e (suc k) (omega arith)))

pub tab_list : (w : List ℕ) → tab (length w) (λ k. get_or w k 0) ≡ w
tab_list [] = refl
tab_list (x ∷ xs) = ap (x ∷◌) (tab_list xs)
