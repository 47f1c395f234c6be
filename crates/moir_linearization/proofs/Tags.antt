-- Tags: a version's number modulo M, the tag before and the tag after.
use mathlib.Core.Path.{◌≡◌, sym, ap, ◌∙◌}
use Prim.Native.Nat.{ℕ, suc, ◌+◌, ◌-◌, ◌%◌, ◌<◌}
use native.Mathlib.Nat.{mod-lt, mod-eq_of_lt, suc-mod, mod-add-mod, add-mod_right}
use native.Mathlib.Omega.{arith}
use Rattle.laws.proofs.Residues.{suc_mod_ne}
use Rattle.moir_linearization.proofs.GhostMachine.{prev}

module _ (M : ℕ) (two : 1 < M) where
  -- the tag before the next version's is this version's
  pub prev_next : (v : ℕ) → prev M (suc v % M) ≡ v % M
  unfolding prev
  prev_next v = mod-add-mod (suc v) M (M - 1) ∙ ap (◌% M) (let z : suc v + (M - 1) ≡ v + M = omega arith in z) ∙ add-mod_right v M

  -- the tag after the tag before
  pub next_prev : (v : ℕ) → suc (prev M (v % M)) % M ≡ v % M
  unfolding prev
  next_prev v =
      sym (suc-mod (v % M + (M - 1)) M) ∙ ap (◌% M) (let z : suc (v % M + (M - 1)) ≡ v % M + M = omega arith in z) ∙ add-mod_right (v % M) M
      ∙ mod-eq_of_lt (mod-lt v {m = M} (omega arith))

  pub prev_ne : (v : ℕ) → prev M (v % M) ≡ v % M → ⊥
  prev_ne v e = suc_mod_ne M v two (suc-mod v M ∙ ap (λ t. suc t % M) (sym e) ∙ next_prev v)

  -- equal tags before are equal tags
  pub prev_inj : (v w : ℕ) → prev M (v % M) ≡ prev M (w % M) → v % M ≡ w % M
  prev_inj v w e = sym (next_prev v) ∙ ap (λ t. suc t % M) e ∙ next_prev w

  -- a tag that is the one before another's
  pub next_of : (v w : ℕ) → v % M ≡ prev M (w % M) → suc v % M ≡ w % M
  next_of v w e = suc-mod v M ∙ ap (λ t. suc t % M) e ∙ next_prev w
