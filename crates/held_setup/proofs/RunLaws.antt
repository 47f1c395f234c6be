-- Runs written one after another.
use mathlib.Core.Path.{◌≡◌, refl, sym, ap, ◌∙◌}
use mathlib.Core.List.{List, [], ◌∷◌, ◌++◌}
use mathlib.Core.Bool.{Bool, true, false}
use Prim.Native.Nat.{ℕ, zero, suc, ◌+◌, ◌-◌, ◌*◌, ◌<◌, ◌≤◌}
use native.Mathlib.Nat.{mul-le-mul_left, mul-suc}
use native.Mathlib.Omega.{arith}
use lib.Dec.{ltb}
use lib.ListN.{length, get_or, length-append, get_or-append}
use Rattle.std.proofs.lemmas.List.{get_or-append_right}
use lib.Seq.{sets}
use borrow.Author.Tests.{ltb-true, ltb-false}
use Rattle.laws.proofs.ListLaws.{sets_append}
use Rattle.held_setup.specs.Setting.{runs, bank_run, holding_run}

module _ (f : ℕ → List ℕ) (c : ℕ) (width : (i : ℕ) → length (f i) ≡ c) where
  pub runs_length : (k : ℕ) → length (runs f k) ≡ c * k
  runs_length zero = let z : 0 ≡ c * 0 = omega arith in z
  runs_length (suc k) = length-append (runs f k) (f k) ∙ (let z : length (runs f k) + length (f k) ≡ c * suc k = omega (arith, runs_length k, width k) in z)

  -- one more
  next : (l : List ℕ) (at k : ℕ) → sets (sets l at (runs f k)) (at + c * k) (f k) ≡ sets l at (runs f (k + 1))
  next l at k =
      ap (λ (i : ℕ). sets (sets l at (runs f k)) (at + i) (f k)) (sym (runs_length k)) ∙ sym (sets_append l at (runs f k) (f k))
      ∙ ap (λ (i : ℕ). sets l at (runs f i)) (let z : suc k ≡ k + 1 = omega arith in z)

  -- number e of run i
  pub runs_at : (k i e : ℕ) {m : ℕ} → i < k → e < c → m ≡ c * i + e → get_or (runs f k) m 0 ≡ get_or (f i) e 0
  runs_at zero i e h b z = absurd (omega arith)
  runs_at (suc k) i e {m} h b z = by (ltb i k) refl (λ l. runs_at k i e l b z)
    where
      by : (t : Bool) → ltb i k ≡ t → (i < k → get_or (runs f k) m 0 ≡ get_or (f i) e 0) → get_or (runs f k ++ f k) m 0 ≡ get_or (f i) e 0
      by true t r =
          let l : i < k = ltb-true i k t in
          let few : c * suc i ≤ c * k = mul-le-mul_left c (omega (arith, l)) in
          let many : c * suc i ≡ c * i + c = mul-suc c i in
          get_or-append (runs f k) (f k) 0 m (omega (arith, z, b, few, many, runs_length k)) ∙ r l
      by false t r =
          let same : i ≡ k = let q : k ≤ i = ltb-false i k t in omega (arith, q, h) in
          let len : length (runs f k) ≡ c * i = runs_length k ∙ ap (λ (x : ℕ). c * x) (sym same) in
          get_or-append_right (runs f k) (f k) (c * i) m 0 len (omega (arith, z))
          ∙ ap (λ (x : ℕ). get_or (f k) x 0) (let y : m - c * i ≡ e = omega (arith, z) in y) ∙ ap (λ (x : ℕ). get_or (f x) e 0) (sym same)

pub bank_next : (l : List ℕ) (at k : ℕ) → sets (sets l at (runs bank_run k)) (at + 2 * k) (k ∷ 0 ∷ []) ≡ sets l at (runs bank_run (k + 1))
bank_next l at k = next bank_run 2 (λ i. refl) l at k

pub holding_next : (l : List ℕ) (at m k : ℕ) → sets (sets l at (runs (holding_run m) k)) (at + 4 * k) ((m + k) ∷ 0 ∷ 0 ∷ 0 ∷ []) ≡ sets l at (runs (holding_run m) (k + 1))
holding_next l at m k = next (holding_run m) 4 (λ i. refl) l at k
