-- The set-up: the invariants hold, and the log is empty.
use mathlib.Core.Path.{◌≡◌, refl, sym, ◌∙◌}
use mathlib.Core.Bool.{true, false, cond}
use mathlib.Core.List.{[]}
use Prim.Native.Nat.{ℕ, ◌+◌, ◌*◌, ◌<◌}
use native.Mathlib.Nat.{zero-mod}
use native.Mathlib.Omega.{arith}
use lib.Dec.{eqb}
use Rattle.model.specs.Points.{idle}
use Rattle.laws.proofs.Updates.{ifb_eq, ifb_ne, Split, same, other, split, contra}
use Rattle.laws.proofs.Parts.{SamePart}
use Rattle.linearization.proofs.Invariants.{ProcessClauses, SharedClauses, Invariant}
use Rattle.linearization.proofs.WordLists.{words_of}
use Rattle.linearization.proofs.GhostRuns.{loc0, sh0, setup}
use Rattle.linearization.proofs.GhostLog.{Good, LoggedAt}

module _ (N W : ℕ) (v : ℕ → ℕ) where
  kept : (j : ℕ) → Split j 0 → j ≡ cond (eqb j 0) 0 j
  kept j (same e) = e ∙ sym (ifb_eq j 0 0 j e)
  kept j (other ne) = sym (ifb_ne j 0 0 j ne)

  all : SharedClauses N W 1 (sh0 N W v)
  all = record {
    x_seq = sym (zero-mod (2 * N));
    x_buf = refl;
    last_success_past = omega arith;
    successes_past = λ j x. omega arith;
    holders_differ = λ i j a b e. e;
    kept = λ j hj. kept j (split j 0);
    recent_held = λ i a b. let z : i ≡ 0 = omega arith in rw z (sym (zero-mod (2 * N)));
    recent_values = λ i a b w hw. refl;
  }

  no : false ≡ true → ⊥
  no x = contra x refl

  each : (q : ℕ) → ProcessClauses N W 1 idle (sh0 N W v) q (loc0 N W q)
  each q =
      let a = sym (zero-mod (2 * N)) in
      let b : false ≡ true → ◌≡◌ {A = ℕ} 0 0 = λ x. refl in
      let c : false ≡ true → ◌≡◌ {A = ℕ} 0 0 → false ≡ true = λ x y. x in
      let d : false ≡ true → SamePart ((sh0 N W v).buf (2 * N + q)) v W = λ x. absurd (no x) in
      search arith

  empty : LoggedAt N W (words_of W v) 1 (setup N W v) []
  empty = record { sorted = tt; served = tt; link = λ q. refl; words = refl; count = refl; old = λ m i a b c d. (refl, omega arith); top = tt }

  pub setup_inv : 0 < N → Invariant N W 1 (setup N W v)
  setup_inv h_n = record { all = all; each = λ q hq. each q }

  pub setup_good : 0 < N → Good N W (words_of W v) 1 (setup N W v) []
  setup_good h_n = record { inv = setup_inv h_n; logged = empty }
