-- Facts about lists: a list written into another, a map, a row cut out.
use mathlib.Core.Path.{◌≡◌, refl, ap, ap₂, ◌∙◌}
use mathlib.Core.Bool.{Bool, true, ◌&&◌}
use mathlib.Core.List.{List, [], ◌∷◌, ◌++◌, map}
use Prim.Native.Nat.{ℕ, zero, suc, ◌+◌, ◌≤◌, ◌<◌}
use native.Mathlib.Nat.{add-zero}
use native.Mathlib.Omega.{arith}
use lib.ListN.{length, get_or, set, take, drop, replicate, length-set}
use lib.Seq.{get_or-set_same, get_or-set_other, sets, drop-cons}
use Rattle.llsc.specs.Rows.{every}
use Rattle.laws.proofs.Parts.{tab, tab_ext}

module _ {A : Type 0} where
  -- a list written into another from place a on: outside it, and in it
  pub sets_out : (ws m : List A) (a j : ℕ) (d : A) → (a ≤ j → j < a + length ws → ⊥) → get_or (sets m a ws) j d ≡ get_or m j d
  sets_out [] m a j d h = refl
  sets_out (w ∷ ws) m a j d h = sets_out ws (set m a w) (suc a) j d (λ x y. h (omega arith) (omega arith)) ∙ get_or-set_other m a j w d (λ e. h (omega arith) (omega arith))

  pub sets_in : (ws m : List A) (a k : ℕ) (d : A) → k < length ws → a + length ws ≤ length m → get_or (sets m a ws) (a + k) d ≡ get_or ws k d
  sets_in [] m a k d hk h = absurd (omega arith)
  sets_in (w ∷ ws) m a zero d hk h = rw (add-zero a) (sets_out ws (set m a w) (suc a) a d (λ x y. omega arith) ∙ get_or-set_same m a w d (omega arith))
  sets_in (w ∷ ws) m a (suc k) d hk h =
      ap (λ i. get_or (sets (set m a w) (suc a) ws) i d) (let z : a + suc k ≡ suc a + k = omega arith in z)
      ∙ sets_in ws (set m a w) (suc a) k d (omega arith) (let z = length-set m a w in omega arith)

  -- the same where it is written from the beginning
  pub sets_front : (ws m : List A) (k : ℕ) (d : A) → k < length ws → length ws ≤ length m → get_or (sets m 0 ws) k d ≡ get_or ws k d
  sets_front ws m k d hk h = ap (λ i. get_or (sets m 0 ws) i d) (let z : k ≡ 0 + k = omega arith in z) ∙ sets_in ws m 0 k d hk (omega arith)

  -- every element passes that is tried
  pub every_true : (f : A → Bool) (d : A) (xs : List A) → ((j : ℕ) → j < length xs → f (get_or xs j d) ≡ true) → every f xs ≡ true
  every_true f d [] h = refl
  every_true f d (x ∷ xs) h = ap₂ ◌&&◌ (h 0 (omega arith)) (every_true f d xs (λ j hj. h (suc j) (omega arith)))

-- a map, where there is an element
pub map_at : {A B : Type 0} (f : A → B) (xs : List A) (j : ℕ) (d : A) (e : B) → j < length xs → get_or (map f xs) j e ≡ f (get_or xs j d)
map_at f [] j d e h = absurd (omega arith)
map_at f (x ∷ xs) zero d e h = refl
map_at f (x ∷ xs) (suc j) d e h = map_at f xs j d e (omega arith)

pub map_append : {A B : Type 0} (f : A → B) (xs ys : List A) → map f (xs ++ ys) ≡ map f xs ++ map f ys
map_append f [] ys = refl
map_append f (x ∷ xs) ys = ap (f x ∷◌) (map_append f xs ys)

pub zeros : (n i : ℕ) → ◌≡◌ {A = ℕ} (get_or (replicate n 0) i 0) 0
zeros zero i = refl
zeros (suc n) zero = refl
zeros (suc n) (suc i) = zeros n i

-- W words of a list from place a on
pub cut_tab : (W a : ℕ) (m : List ℕ) → a + W ≤ length m → take W (drop a m) ≡ tab W (λ k. get_or m (a + k) 0)
cut_tab zero a m h = refl
cut_tab (suc W) a m h =
    rw (drop-cons m a 0 (omega arith))
    (ap₂ ◌∷◌ (ap (λ i. get_or m i 0) (let z : a ≡ a + 0 = omega arith in z))
    (cut_tab W (suc a) m (omega arith) ∙ tab_ext W _ _ (λ k hk. ap (λ i. get_or m i 0) (let z : suc a + k ≡ a + suc k = omega arith in z))))

-- a list of W words, told by its words
pub tab_whole : (W : ℕ) (v : List ℕ) → length v ≡ W → tab W (λ k. get_or v k 0) ≡ v
tab_whole zero [] e = refl
tab_whole zero (w ∷ v) e = absurd (omega arith)
tab_whole (suc W) [] e = absurd (omega arith)
tab_whole (suc W) (w ∷ v) e = ap (w ∷◌) (tab_whole W v (omega arith))
