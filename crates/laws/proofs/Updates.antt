-- Choice by a Bool, update of a function at a place, and the two facts of each.
use mathlib.Core.Path.{◌≡◌, refl, sym, ap, ◌∙◌}
use mathlib.Core.Bool.{Bool, true, false, cond}
use Prim.Native.Nat.{ℕ, ◌<◌}
use lib.Dec.{eqb}
use borrow.Author.Tests.{eqb-true, eq-eqb}
use native.Mathlib.Decide.{ℕ_discrete}
use native.Mathlib.Omega.{arith}

-- a proof by cases of a test: the motive is written, the two cases carry the equation
pub by_test {ℓ ℓ'} : {A : Type ℓ} (P : A → Type ℓ') (b : Bool) {x y : A} → (b ≡ true → P x) → (b ≡ false → P y) → P (cond b x y)
by_test P true f g = f refl
by_test P false f g = g refl

-- one test for two choices
pub by_test₂ : {A B : Type 0} (P : A → B → Type 0) (b : Bool) {x y : A} {u v : B} → (b ≡ true → P x u) → (b ≡ false → P y v) → P (cond b x y) (cond b u v)
by_test₂ P true f g = f refl
by_test₂ P false f g = g refl

module _ {ℓ} {A : Type ℓ} where
  unfoldable pub upd : (ℕ → A) → ℕ → A → ℕ → A
  upd f i a j = cond (eqb j i) a (f j)

  pub ifb_eq : (i j : ℕ) (x y : A) → i ≡ j → cond (eqb i j) x y ≡ x
  ifb_eq i j x y e = ap (λ b. cond b x y) (eq-eqb i j e)

  pub upd_same : (f : ℕ → A) (i : ℕ) (a : A) → upd f i a i ≡ a
  unfolding upd
  upd_same f i a = ifb_eq i i a (f i) refl

  go_other : (b : Bool) (x y : A) → (b ≡ true → ⊥) → cond b x y ≡ y
  go_other true x y h = absurd (h refl)
  go_other false x y h = refl

  pub ifb_ne : (i j : ℕ) (x y : A) → (i ≡ j → ⊥) → cond (eqb i j) x y ≡ y
  ifb_ne i j x y h = go_other (eqb i j) x y (λ e. h (eqb-true i j e))

  pub upd_other : (f : ℕ → A) (i j : ℕ) (a : A) → (j ≡ i → ⊥) → upd f i a j ≡ f j
  unfolding upd
  upd_other f i j a h = ifb_ne j i a (f j) h

pub data Split (i j : ℕ) : Type 0 where
  same : i ≡ j → Split i j
  other : (i ≡ j → ⊥) → Split i j

pub split : (i j : ℕ) → Split i j
split i j = go (ℕ_discrete i j)
  where
    go : Dec (i ≡ j) → Split i j
    go (yes e) = same e
    go (no h) = other h

pub contra : {b : Bool} → b ≡ true → b ≡ false → ⊥
contra {b} p q = let z : ◌≡◌ {A = ℕ} 0 1 = cc in omega arith

pub is_false : (b : Bool) → (b ≡ true → ⊥) → b ≡ false
is_false true h = absurd (h refl)
is_false false h = refl

pub is_true : (b : Bool) → (b ≡ false → ⊥) → b ≡ true
is_true true h = refl
is_true false h = absurd (h refl)

-- two places change places
unfoldable pub tr : ℕ → ℕ → ℕ → ℕ
tr a b x = cond (eqb x a) b (cond (eqb x b) a x)

pub tr_l : (a b : ℕ) → tr a b a ≡ b
unfolding tr
tr_l a b = ifb_eq a a b _ refl

pub tr_o : (a b x : ℕ) → (x ≡ a → ⊥) → (x ≡ b → ⊥) → tr a b x ≡ x
unfolding tr
tr_o a b x na nb = ifb_ne x a b _ na ∙ ifb_ne x b a x nb

pub tr_r : (a b : ℕ) → tr a b b ≡ a
unfolding tr
tr_r a b = go (split b a)
  where
    go : Split b a → cond (eqb b a) b (cond (eqb b b) a b) ≡ a
    go (same e) = ifb_eq b a b _ e ∙ e
    go (other n) = ifb_ne b a b _ n ∙ ifb_eq b b a b refl

pub data Tr (a b x : ℕ) : Type 0 where
  left : x ≡ a → tr a b x ≡ b → Tr a b x
  right : x ≡ b → tr a b x ≡ a → Tr a b x
  off : (x ≡ a → ⊥) → (x ≡ b → ⊥) → tr a b x ≡ x → Tr a b x

pub tr_of : (a b x : ℕ) → Tr a b x
tr_of a b x = go (split x a) (split x b)
  where
    go : Split x a → Split x b → Tr a b x
    go (same e) v = left e (rw e (tr_l a b))
    go (other n) (same e) = right e (rw e (tr_r a b))
    go (other n) (other k) = off n k (tr_o a b x n k)

pub tr_tr : (a b x : ℕ) → tr a b (tr a b x) ≡ x
tr_tr a b x = go (tr_of a b x)
  where
    go : Tr a b x → tr a b (tr a b x) ≡ x
    go (left e f) = rw f (tr_r a b ∙ sym e)
    go (right e f) = rw f (tr_l a b ∙ sym e)
    go (off n k f) = rw f f

pub tr_lt : (a b x n : ℕ) → a < n → b < n → x < n → tr a b x < n
tr_lt a b x n ha hb hx = go (tr_of a b x)
  where
    go : Tr a b x → tr a b x < n
    go (left e f) = omega arith
    go (right e f) = omega arith
    go (off _ k f) = omega arith

module _ {A : Type 0} where
  unfoldable pub swap : (ℕ → A) → ℕ → ℕ → ℕ → A
  swap h a b x = h (tr a b x)

  pub swap_l : (h : ℕ → A) (a b : ℕ) → swap h a b a ≡ h b
  unfolding swap
  swap_l h a b = rw tr_l

  pub swap_r : (h : ℕ → A) (a b : ℕ) → swap h a b b ≡ h a
  unfolding swap
  swap_r h a b = rw tr_r

  pub swap_o : (h : ℕ → A) (a b x : ℕ) → (x ≡ a → ⊥) → (x ≡ b → ⊥) → swap h a b x ≡ h x
  unfolding swap
  swap_o h a b x na nb = rw (tr_o a b x na nb)

  pub swap_inj : (h : ℕ → A) (a b n : ℕ) → a < n → b < n → ((i j : ℕ) → i < n → j < n → h i ≡ h j → i ≡ j)
      → (i j : ℕ) → i < n → j < n → swap h a b i ≡ swap h a b j → i ≡ j
  unfolding swap
  swap_inj h a b n ha hb holders_differ i j hi hj e =
      sym (tr_tr a b i) ∙ ap (tr a b) (holders_differ (tr a b i) (tr a b j) (tr_lt a b i n ha hb hi) (tr_lt a b j n ha hb hj) e) ∙ tr_tr a b j
