-- "`!` is steps until the call answers, at least one": a step, and where it did not answer, the same again.
use mathlib.Core.Path.{◌≡◌, refl, ap}
use mathlib.Core.Bool.{Bool, true, false, not, cond, ◌&&◌}
use Prim.Native.Nat.{ℕ, suc, ◌+◌, ◌-◌}
use native.Mathlib.Omega.{arith}
use lib.Dec.{eqb}
use borrow.Author.Tests.{eqb-true}
use Rattle.notation.specs.declared.Entry.TheVariants.{Step}
use Rattle.text_runs.specs.Machines.{Machine}
use Rattle.text_runs.specs.TextRun.{Progress, most_entries, single, unanswered, steps, finish}
use Rattle.text_runs.proofs.SingleEntries.{single_made, single_stays}

module _ (M : Machine) where
  pub busy_after : (p : ℕ) (s : Progress M) → unanswered M p s ≡ true → (s.stop ≡ 0) × (M.idle s.memory p ≡ false)
  busy_after p s e = by (eqb s.stop 0) refl (M.idle s.memory p) refl e
    where
      by : (a : Bool) → eqb s.stop 0 ≡ a → (b : Bool) → M.idle s.memory p ≡ b → (a && not b) ≡ true
          → (s.stop ≡ 0) × (M.idle s.memory p ≡ false)
      by true x false y h = (eqb-true s.stop 0 x, y)
      by true x true y h = absurd (let zero_one : ◌≡◌ {A = ℕ} 0 1 = ap (λ (t : Bool). cond t 1 0) h in let w : ⊥ = omega arith in w)
      by false x b y h = absurd (let zero_one : ◌≡◌ {A = ℕ} 0 1 = ap (λ (t : Bool). cond t 1 0) h in let w : ⊥ = omega arith in w)

  -- a step, and where it did not answer, the same again
  pub until_answered : (p : ℕ) (s : Progress M)
      → finish M p s ≡ cond (unanswered M p (single M (Step p) s)) (finish M p (single M (Step p) s)) (single M (Step p) s)
  unfolding steps
  until_answered p s = by (unanswered M p (single M (Step p) s)) refl
    where
      by : (a : Bool) → unanswered M p (single M (Step p) s) ≡ a
          → cond a (steps M (most_entries - s.entries) p (single M (Step p) s)) (single M (Step p) s) ≡ cond a (finish M p (single M (Step p) s)) (single M (Step p) s)
      by false e = refl
      by true e =
          let goes = (busy_after p (single M (Step p) s) e).0 in
          let made = single_made M (Step p) s (single_stays M (Step p) s goes) goes in
          let one : (single M (Step p) s).entries ≡ s.entries + 1 = ap (λ (t : Progress M). t.entries) made.is in
          ap (λ (k : ℕ). steps M k p (single M (Step p) s)) (let left : most_entries - s.entries ≡ suc (most_entries - (single M (Step p) s).entries) = omega (arith, one, made.fewer) in left)
