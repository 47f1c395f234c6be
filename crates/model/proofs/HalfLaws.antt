-- The halves of a word: set, kept, and joined.
use mathlib.Core.Path.{◌≡◌, refl}
use mathlib.Core.Bool.{Bool, true, false, cond}
use Prim.Native.Nat.{ℕ, ◌+◌, ◌*◌, ◌/◌, ◌%◌, ◌≤◌}
use native.Mathlib.Omega.{arith}
use lib.Dec.{eqb}
use borrow.Author.Tests.{eq-eqb, ne_eqb, eqb-true, eqb-false}
use Rattle.model.specs.Words.{word_of, half_values, half, with_half}

-- the half of a word and a word with one half set, by whether it is the low half
abbrev half_by : Bool → ℕ → ℕ
half_by low v = cond low (v % half_values) (v / half_values)

abbrev with_half_by : Bool → ℕ → ℕ → ℕ
with_half_by low u v = cond low (v / half_values * half_values + u % half_values) (u / half_values * half_values + v % half_values)

-- a half set: the half itself, and the other half of the word
pub half_set : (k u v : ℕ) → half k (with_half k u v) ≡ half k u
half_set k u v = go (eqb (k % 2) 0)
  where
    go : (low : Bool) → half_by low (with_half_by low u v) ≡ half_by low u
    go true = omega arith
    go false = omega arith

pub half_kept : (j k u v : ℕ) → word_of j ≡ word_of k → (j ≡ k → ⊥) → half j (with_half k u v) ≡ half j v
half_kept j k u v e ne = go (eqb (j % 2) 0) (eqb (k % 2) 0) refl refl
  where
    go : (a b : Bool) → eqb (j % 2) 0 ≡ a → eqb (k % 2) 0 ≡ b → half_by a (with_half_by b u v) ≡ half_by a v
    go true false x y = omega arith
    go false true x y = omega arith
    go true true x y = absurd (ne (let p = eqb-true (j % 2) 0 x in let q = eqb-true (k % 2) 0 y in omega arith))
    go false false x y = absurd (ne (let p = eqb-false (j % 2) 0 x in let q = eqb-false (k % 2) 0 y in omega arith))

pub half_zero : (k : ℕ) → half k 0 ≡ 0
half_zero k = go (eqb (k % 2) 0)
  where
    go : (low : Bool) → half_by low 0 ≡ 0
    go true = refl
    go false = refl

-- with empty high halves all stays small
pub with_half_small : (k u v : ℕ) → u ≤ 4294967295 → v ≤ 4294967295 → with_half k u v ≤ 4294967295
with_half_small k u v h i = go (eqb (k % 2) 0)
  where
    go : (low : Bool) → with_half_by low u v ≤ 4294967295
    go true = omega arith
    go false = omega arith

pub half_small : (k v : ℕ) → v ≤ 4294967295 → half k v ≤ 4294967295
half_small k v h = go (eqb (k % 2) 0)
  where
    go : (low : Bool) → half_by low v ≤ 4294967295
    go true = omega arith
    go false = omega arith

-- halves joined are the word
pub halves_joined : (k v : ℕ) → half (2 * k) v + half (2 * k + 1) v * half_values ≡ v
halves_joined k v = rw (eq-eqb (2 * k % 2) 0 (omega arith), ne_eqb ((2 * k + 1) % 2) 0 (λ e. omega arith)) (omega arith)
