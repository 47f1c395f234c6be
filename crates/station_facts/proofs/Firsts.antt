-- The first elements of a list, changed by their numbers.
use mathlib.Core.Path.{◌≡◌, refl, sym, ap, ap₂, ◌∙◌}
use mathlib.Core.List.{List, [], ◌∷◌}
use Prim.Native.Nat.{ℕ, zero, suc, ◌+◌, ◌≤◌, ◌<◌}
use native.Mathlib.Omega.{arith}
use lib.ListN.{length, get_or, set}
use Rattle.station.specs.StationSetUp.{firsts}

pub firsts_at : {A : Type 0} (f : ℕ → A → A) (a c : ℕ) (xs : List A) (i : ℕ) (d : A) → i < c → i < length xs → get_or (firsts f a c xs) i d ≡ f (a + i) (get_or xs i d)
firsts_at f a zero xs i d hc hl = absurd (omega arith)
firsts_at f a (suc c) [] i d hc hl = absurd (omega arith)
firsts_at f a (suc c) (x ∷ xs) zero d hc hl = ap (λ k. f k x) (let z : a ≡ a + 0 = omega arith in z)
firsts_at f a (suc c) (x ∷ xs) (suc i) d hc hl =
    firsts_at f (suc a) c xs i d (omega arith) (omega arith) ∙ ap (λ k. f k (get_or xs i d)) (let z : suc a + i ≡ a + suc i = omega arith in z)

pub firsts_length : {A : Type 0} (f : ℕ → A → A) (a c : ℕ) (xs : List A) → length (firsts f a c xs) ≡ length xs
firsts_length f a zero xs = refl
firsts_length f a (suc c) [] = refl
firsts_length f a (suc c) (x ∷ xs) = ap suc (firsts_length f (suc a) c xs)

-- an element that is not yet reached
pub firsts_later : {A : Type 0} (f : ℕ → A → A) (a c : ℕ) (xs : List A) (i : ℕ) (d : A) → c ≤ i → get_or (firsts f a c xs) i d ≡ get_or xs i d
firsts_later f a zero xs i d h = refl
firsts_later f a (suc c) [] i d h = refl
firsts_later f a (suc c) (x ∷ xs) zero d h = let z : ⊥ = omega arith in absurd z
firsts_later f a (suc c) (x ∷ xs) (suc i) d h = firsts_later f (suc a) c xs i d (omega arith)

-- past the end
pub firsts_out : {A : Type 0} (f : ℕ → A → A) (a c : ℕ) (xs : List A) (i : ℕ) (d : A) → length xs ≤ i → get_or (firsts f a c xs) i d ≡ get_or xs i d
firsts_out f a zero xs i d h = refl
firsts_out f a (suc c) [] i d h = refl
firsts_out f a (suc c) (x ∷ xs) zero d h = let z : ⊥ = omega arith in absurd z
firsts_out f a (suc c) (x ∷ xs) (suc i) d h = firsts_out f (suc a) c xs i d (omega arith)

-- functions that agree on the first numbers
pub firsts_same : {A : Type 0} (f g : ℕ → A → A) (a c : ℕ) (xs : List A) → ((i : ℕ) (x : A) → i < c → f (a + i) x ≡ g (a + i) x) → firsts f a c xs ≡ firsts g a c xs
firsts_same f g a zero xs h = refl
firsts_same f g a (suc c) [] h = refl
firsts_same {A} f g a (suc c) (x ∷ xs) h =
    ap₂ ◌∷◌ (ap (λ k. f k x) (here a) ∙ h 0 x (omega arith) ∙ ap (λ k. g k x) (sym (here a)))
    (firsts_same f g (suc a) c xs (λ i y l. ap (λ k. f k y) (next i) ∙ h (suc i) y (omega arith) ∙ ap (λ k. g k y) (sym (next i))))
  where
    here : (k : ℕ) → k ≡ k + 0
    here k = omega arith

    next : (i : ℕ) → suc a + i ≡ a + suc i
    next i = omega arith

-- one element more of a list that is gone through
firsts_step : {A : Type 0} (f : ℕ → A → A) (a c : ℕ) (xs : List A) (d : A) → c < length xs → firsts f a (suc c) xs ≡ set (firsts f a c xs) c (f (a + c) (get_or xs c d))
firsts_step f a c [] d h = let z : ⊥ = omega arith in absurd z
firsts_step f a zero (x ∷ xs) d h = ap (λ (k : ℕ). f k x ∷ xs) (let z : a ≡ a + 0 = omega arith in z)
firsts_step f a (suc c) (x ∷ xs) d h =
    ap (f a x ∷◌) (firsts_step f (suc a) c xs d (omega arith) ∙ ap (λ (k : ℕ). set (firsts f (suc a) c xs) c (f k (get_or xs c d))) (let z : suc a + c ≡ a + suc c = omega arith in z))

pub firsts_next : {A : Type 0} (f : ℕ → A → A) (c : ℕ) (xs : List A) (d : A) → c < length xs → set (firsts f 0 c xs) c (f c (get_or xs c d)) ≡ firsts f 0 (c + 1) xs
firsts_next f c xs d h =
    ap (λ (k : ℕ). set (firsts f 0 c xs) c (f k (get_or xs c d))) (let z : c ≡ 0 + c = omega arith in z) ∙ sym (firsts_step f 0 c xs d h)
    ∙ ap (λ (k : ℕ). firsts f 0 k xs) (let z : suc c ≡ c + 1 = omega arith in z)

-- the same where the element is read from the list that is made
pub firsts_one_more : {A : Type 0} (f : ℕ → A → A) (i : ℕ) (l : List A) (d : A) → i < length l → set (firsts f 0 i l) i (f i (get_or (firsts f 0 i l) i d)) ≡ firsts f 0 (i + 1) l
firsts_one_more {A} f i l d h = ap (λ (q : A). set (firsts f 0 i l) i (f i q)) (firsts_later f 0 i l i d (omega arith)) ∙ firsts_next f i l d h
