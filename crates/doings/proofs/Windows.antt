-- A window of a list, k elements from place a on: taken out and put back, and windows that do not overlap.
use mathlib.Core.Path.{◌≡◌, refl, sym, ap, ◌∙◌}
use mathlib.Core.List.{List, [], ◌∷◌, ◌++◌, append_assoc}
use Prim.Native.Nat.{ℕ, zero, suc, ◌+◌, ◌-◌, ◌≤◌, ◌<◌}
use native.Mathlib.Nat.{add-zero}
use native.Mathlib.Decide.{dec_lt}
use native.Mathlib.Omega.{arith}
use lib.ListN.{length, set, take, drop, length-set, length-drop}
use lib.Seq.{set-set, set_comm, set-get_or, sets, sets-eq, take-set-le, take-set-lt, drop-set-lt, drop-set-add, drop-cons, take_at, drop_at, length-take-le}

module _ {A : Type 0} where
  -- two stores
  pub set_sets : (ws vs : List A) (a b : ℕ) (u : A) → (b ≤ a → a < b + length vs → ⊥) → sets (set ws a u) b vs ≡ set (sets ws b vs) a u
  set_sets ws [] a b u h = refl
  set_sets ws (v ∷ vs) a b u h =
      ap (λ l. sets l (suc b) vs) (set_comm ws a b u v (λ e. h (omega arith) (omega arith)))
      ∙ set_sets (set ws b v) vs a (suc b) u (λ x y. h (omega arith) (omega arith))

  pub sets_comm : (ws us vs : List A) (a b : ℕ) → ((i : ℕ) → a ≤ i → i < a + length us → b ≤ i → i < b + length vs → ⊥) → sets (sets ws a us) b vs ≡ sets (sets ws b vs) a us
  sets_comm ws [] vs a b h = refl
  sets_comm ws (u ∷ us) vs a b h =
      sets_comm (set ws a u) us vs (suc a) b (λ i x y. h i (omega arith) (omega arith))
      ∙ ap (λ l. sets l (suc a) us) (set_sets ws vs a b u (h a (omega arith) (omega arith)))

  -- a window after a store outside it
  pub window_set : (ws : List A) (a k j : ℕ) (v : A) → (a ≤ j → j < a + k → ⊥) → take k (drop a (set ws j v)) ≡ take k (drop a ws)
  window_set ws a k j v h = go (dec_lt j a)
    where
      go : Dec (j < a) → take k (drop a (set ws j v)) ≡ take k (drop a ws)
      go (yes l) = ap (take k) (drop-set-lt a ws j v l)
      go (no l) =
          let z : j ≡ a + (j - a) = omega arith in
          let far : k ≤ j - a = omega_far (dec_lt j (a + k)) in
          ap (λ i. take k (drop a (set ws i v))) z ∙ ap (take k) (drop-set-add a ws (j - a) v) ∙ take-set-le k (drop a ws) (j - a) v far
        where
          omega_far : Dec (j < a + k) → k ≤ j - a
          omega_far (yes y) = absurd (h (omega arith) y)
          omega_far (no y) = omega arith

  pub window_sets : (ws vs : List A) (a k b : ℕ) → ((i : ℕ) → a ≤ i → i < a + k → b ≤ i → i < b + length vs → ⊥) → take k (drop a (sets ws b vs)) ≡ take k (drop a ws)
  window_sets ws [] a k b h = refl
  window_sets ws (v ∷ vs) a k b h =
      window_sets (set ws b v) vs a k (suc b) (λ i x y z w. h i x y (omega arith) (omega arith)) ∙ window_set ws a k b v (λ x y. h b x y (omega arith) (omega arith))

  -- after a store in it
  pub window_set_in : (ws : List A) (a k i : ℕ) (v : A) → i < k → take k (drop a (set ws (a + i) v)) ≡ set (take k (drop a ws)) i v
  window_set_in ws a k i v h = ap (take k) (drop-set-add a ws i v) ∙ take-set-lt k (drop a ws) i v h

  -- put back as it was; put and taken out
  pub sets_window : (d : A) (ws : List A) (a k : ℕ) → a + k ≤ length ws → sets ws a (take k (drop a ws)) ≡ ws
  sets_window d ws a zero h = refl
  sets_window d ws a (suc k) h =
      ap (λ l. sets ws a (take (suc k) l)) (drop-cons ws a d (omega arith))
      ∙ ap (λ l. sets l (suc a) (take k (drop (suc a) ws))) (set-get_or ws a d)
      ∙ sets_window d ws (suc a) k (omega arith)

  pub window_put : (ws vs : List A) (a k : ℕ) → length vs ≡ k → a + k ≤ length ws → take k (drop a (sets ws a vs)) ≡ vs
  window_put ws vs a k e h =
      let f : a + length vs ≤ length ws = omega arith in
      let rest = drop (a + length vs) ws in
      ap (λ l. take k (drop a l)) (sets-eq vs ws a f ∙ append_assoc (take a ws) vs rest)
      ∙ ap (take k) (drop_at (take a ws) (vs ++ rest) a (length-take-le a ws (omega arith)))
      ∙ take_at vs rest k e

  -- a store that is overwritten
  sets_over : (ws vs : List A) (a i : ℕ) (v : A) → i < length vs → sets (set ws (a + i) v) a vs ≡ sets ws a vs
  sets_over ws [] a i v h = absurd (omega arith)
  sets_over ws (x ∷ vs) a zero v h = rw (add-zero a) (ap (λ l. sets l (suc a) vs) (set-set ws a v x))
  sets_over ws (x ∷ vs) a (suc i) v h =
      ap (λ l. sets l (suc a) vs) (set_comm ws (a + suc i) a v x (λ e. omega arith))
      ∙ ap (λ j. sets (set (set ws a x) j v) (suc a) vs) (let z : a + suc i ≡ suc a + i = omega arith in z)
      ∙ sets_over (set ws a x) vs (suc a) i v (omega arith)

  pub window_long : (ws : List A) (a k : ℕ) → a + k ≤ length ws → length (take k (drop a ws)) ≡ k
  window_long ws a k h = length-take-le k (drop a ws) (let y = length-drop a ws in omega arith)

  -- one element of a window stored
  pub sets_window_set : (d : A) (ws : List A) (a k i : ℕ) (v : A) → i < k → a + k ≤ length ws → sets ws a (set (take k (drop a ws)) i v) ≡ set ws (a + i) v
  sets_window_set d ws a k i v hi h =
      sym (sets_over ws (set (take k (drop a ws)) i v) a i v (let x = length-set (take k (drop a ws)) i v in let y = window_long ws a k h in omega arith))
      ∙ ap (sets (set ws (a + i) v) a) (sym (window_set_in ws a k i v hi))
      ∙ sets_window d (set ws (a + i) v) a k (let x = length-set ws (a + i) v in omega arith)
