-- Every answered call brings its true count of own steps, and one of its kind's numbers.
use mathlib.Core.Path.{refl}
use mathlib.Core.List.{List, [], ◌∷◌, map}
use Prim.Native.Nat.{ℕ, suc, ◌<◌}
use lib.Dec.{ltb}
use borrow.Author.Tests.{ltb-true, ltb-false}
use Rattle.model.specs.Sizes.{halves}
use Rattle.model.specs.Points.{Point, idle, line1, line2, line3, line4, line5, line6, line7, line7copy, line8, line9}
use Rattle.model.specs.Points.{line10, line11, line12, line12valid, line13, line14, line14valid, line15, line17, line18}
use Rattle.model.specs.Points.{line19, line23}
use Rattle.llsc.specs.History.{Call}
use Rattle.llsc.specs.Linearizable.{All, Timed}
use Rattle.model.specs.Linearizable.{Counted}
use Rattle.laws.proofs.Updates.{by_test}
use Rattle.linearization.proofs.GhostMachine.{State}
use Rattle.linearization.proofs.Invariants.{ProcessClauses, Invariant}
use Rattle.serving.proofs.Sorting.{all_append}
use Rattle.linearization.proofs.WordLists.{words_of}
use Rattle.linearization.proofs.GhostRuns.{Cmd, exec, call_at, call_f, calls_f, setup}
use Rattle.linearization.proofs.InvariantRuns.{exec_inv}
use Rattle.linearization.proofs.GhostSetUp.{setup_inv}
use Rattle.linearization.proofs.Counts.{ProcessCount, AllCounts, ll_answer, sc_answer, vl_answer, exec_counts, setup_counts}

abbrev pub CallCounted : ℕ → Timed → Type 0
CallCounted w t = Counted w t.call

-- what holds of the calls of timed calls holds of the calls
pub all_calls : (P : Call → Type 0) (ts : List Timed) → All (λ (t : Timed). P t.call) ts → All P (map (λ (t : Timed). t.call) ts)
all_calls P [] a = tt
all_calls P (t ∷ ts) a = (a.0, all_calls P ts a.1)

module _ (N w : ℕ) (h_w : 0 < halves w) where
  abbrev W : ℕ
  W = halves w

  at_point : (n p : ℕ) (s : State) (y : Point) → ProcessClauses N W n y s.sh p (s.loc p) → ProcessCount N W h_w y (s.sh.flag p) (s.loc p) → All (CallCounted w) (call_at N W y n p s)
  at_point n p s idle m c = tt
  at_point n p s line1 m c = tt
  at_point n p s line2 m c = tt
  at_point n p s line3 m c = tt
  at_point n p s line4 m c = tt
  at_point n p s line5 m c = tt
  at_point n p s line6 m c = tt
  at_point n p s line7 m c = tt
  at_point n p s line7copy m c = tt
  at_point n p s line8 m c = tt
  at_point n p s line9 m c = tt
  at_point n p s line10 m c = tt
  at_point n p s line11 m c =
      by_test (All (CallCounted w)) (ltb (suc (s.loc p).word) W) (λ _. tt)
      (λ e. (record { true_count = refl; own_steps = ll_answer N w h_w n s.sh p (s.loc p) (ltb-false _ _ e) m c }, tt))
  at_point n p s line12 m c = tt
  at_point n p s line12valid m c = tt
  at_point n p s line13 m c = tt
  at_point n p s line14 m c = tt
  at_point n p s line14valid m c = tt
  at_point n p s line15 m c = tt
  at_point n p s line17 m c = tt
  at_point n p s line18 m c = tt
  at_point n p s line19 m c = (record { true_count = refl; own_steps = sc_answer N w h_w (words_of W (s.loc p).offered) (s.sh.flag p) (s.loc p) c }, tt)
  at_point n p s line23 m c = (record { true_count = refl; own_steps = vl_answer N w h_w (s.sh.flag p) (s.loc p) c }, tt)

  by_command : (n : ℕ) (s : State) → Invariant N W n s → AllCounts N W h_w s → (c : Cmd) → All (CallCounted w) (call_f N W n c s)
  unfolding call_f
  by_command n s i k (Cmd.LL p) = tt
  by_command n s i k (Cmd.VL p) = tt
  by_command n s i k (Cmd.SC p w) = tt
  by_command n s i k (Cmd.go p) =
      by_test (All (CallCounted w)) (ltb p N) (λ e. let hp = ltb-true p N e in at_point n p s (s.loc p).point (i.each p hp) (k.each p hp)) (λ _. tt)

  calls_counted : (n : ℕ) (cs : List Cmd) (s : State) → Invariant N W n s → AllCounts N W h_w s → All (CallCounted w) (calls_f N W n cs s)
  unfolding calls_f
  calls_counted n [] s i k = tt
  calls_counted n (c ∷ cs) s i k =
      all_append (CallCounted w) (call_f N W n c s) (calls_f N W (suc n) cs (exec N W n c s)) (by_command n s i k c)
      (calls_counted (suc n) cs (exec N W n c s) (exec_inv N W h_w n s c i) (exec_counts N W h_w n s c i k))

  pub run_counted : 0 < N → (v : ℕ → ℕ) (cs : List Cmd) → All (CallCounted w) (calls_f N W 1 cs (setup N W v))
  run_counted h_n v cs = calls_counted 1 cs (setup N W v) (setup_inv N W v h_n) (setup_counts N W h_w v)
