-- The pigeonhole principle: an injection of the numbers below n into themselves hits each of them.
use mathlib.Core.Path.{◌≡◌, sym, ap, ◌∙◌}
use Prim.Native.Nat.{ℕ, zero, suc, ◌<◌}
use native.Mathlib.Omega.{arith}
use Rattle.laws.proofs.Updates.{Split, same, other, split, tr, tr_tr, Tr, left, right, off, tr_of}

-- below n, and different below n are different values
pub record Injection (n : ℕ) (f : ℕ → ℕ) : Type 0 where
  pub below : (i : ℕ) → i < n → f i < n
  pub holders_differ : (i j : ℕ) → i < n → j < n → f i ≡ f j → i ≡ j

-- with the values x and n changed for each other, a value below n + 1 that is not x comes below n
tr_below : (n x y : ℕ) → x < suc n → y < suc n → (y ≡ x → ⊥) → tr x n y < n
tr_below n x y hx hy ne = go (tr_of x n y)
  where
    go : Tr x n y → tr x n y < n
    go (left e _) = absurd (ne e)
    go (right e f) = omega (arith, ne)
    go (off _ k f) = omega arith

tr_inj : (a b x y : ℕ) → tr a b x ≡ tr a b y → x ≡ y
tr_inj a b x y e = sym (tr_tr a b x) ∙ ap (tr a b) e ∙ tr_tr a b y

-- the same injection, its value at n changed for n
smaller : (n : ℕ) (f : ℕ → ℕ) → Injection (suc n) f → Injection n (λ i. tr (f n) n (f i))
smaller n f g = record {
  below = λ i hi. tr_below n (f n) (f i) (g.below n (omega arith)) (g.below i (omega arith)) (λ e. let z = g.holders_differ i n (omega arith) (omega arith) e in omega arith);
  holders_differ = λ i j hi hj e. g.holders_differ i j (omega arith) (omega arith) (tr_inj (f n) n (f i) (f j) e);
}

-- the last place has the value, or the smaller injection hits the value it was changed for
hit : (n : ℕ) (f : ℕ → ℕ) → Injection (suc n) f → (b : ℕ) → b < suc n → ((c : ℕ) → c < n → (i : ℕ) × (i < n) × (tr (f n) n (f i) ≡ c)) → Split b (f n)
    → (i : ℕ) × (i < suc n) × (f i ≡ b)
hit n f g b hb below (same e) = (n, omega arith, sym e)
hit n f g b hb below (other ne) =
    let z = below (tr (f n) n b) (tr_below n (f n) b (g.below n (omega arith)) hb ne) in
    (z.0, omega arith, tr_inj (f n) n (f z.0) b z.2)

pub pigeonhole : (n : ℕ) (f : ℕ → ℕ) → Injection n f → (b : ℕ) → b < n → (i : ℕ) × (i < n) × (f i ≡ b)
pigeonhole zero f g b hb = absurd (omega arith)
pigeonhole (suc n) f g b hb = hit n f g b hb (λ c hc. pigeonhole n (λ i. tr (f n) n (f i)) (smaller n f g) c hc) (split b (f n))
