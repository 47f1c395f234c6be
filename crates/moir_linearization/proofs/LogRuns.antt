-- Every command keeps the invariants and the log, within the bound; the calls take effect inside their calls.
use mathlib.Core.Path.{◌≡◌, refl, subst}
use mathlib.Core.Bool.{Bool, true, cond}
use mathlib.Core.List.{List, [], ◌∷◌, ◌++◌}
use Prim.Native.Nat.{ℕ, suc, ◌≤◌, ◌<◌}
use native.Mathlib.Omega.{arith}
use lib.Dec.{ltb, eqb}
use borrow.Author.Tests.{ltb-true}
use Rattle.llsc.specs.Object.{fresh}
use Rattle.llsc.specs.Linearizable.{All, Timed, sort_into}
use Rattle.laws.proofs.Updates.{by_test, by_test₂}
use Rattle.serving.proofs.Serving.{Served}
use Rattle.serving.proofs.Sorting.{all_map, sort_into_append}
use Rattle.laws.proofs.Parts.{tab}
use Rattle.moir_model.specs.Points.{Point, idle, ll10, ll2, ll4, ll5, ll6, ll7, sc14, sc17, sc19, sc2, sc4, sc5, sc6, sc7, vl13}
use Rattle.moir_linearization.proofs.PointRanges.{copying}
use Rattle.moir_linearization.proofs.GhostMachine.{State, begin, eq_pair}
use Rattle.moir_linearization.proofs.GhostRuns.{Cmd, WLL, VL, SC, go, exec, starts, started, BoundedAt, BoundedRun, Effect, effect_at, effect_of}
use Rattle.moir_linearization.proofs.GhostRuns.{effects, latest_step, is_step, set_up}
use Rattle.moir_linearization.proofs.Frame.{frame}
use Rattle.moir_linearization.proofs.Numbers.{ProcessNumbers}
use Rattle.moir_linearization.proofs.InvariantRuns.{Invariant, exec_inv, setup_inv, by_starts}
use Rattle.moir_linearization.proofs.ServedLog.{LogAll, LogEach, log_later, Mine}
use Rattle.moir_linearization.proofs.Filling.{fill_all, fill_all_append}
use Rattle.moir_linearization.proofs.LogSteps.{Logged, step_log}

-- takes effect after the command that starts it, and not after its last step
abbrev pub InCall : Effect → Type 0
InCall e = (e.call.start < e.at) × (e.at ≤ e.call.end)

pub all_append : {A : Type 0} (P : A → Type 0) (ss ts : List A) → All P ss → All P ts → All P (ss ++ ts)
all_append P [] ts a b = b
all_append P (s ∷ ss) ts a b = (a.0, all_append P ss ts a.1 b)

module _ (N M W : ℕ) where
  -- the last step is not before the present one
  last_step : (p n : ℕ) (cs : List Cmd) (s : State) (d : ℕ) → d ≤ n → d ≤ latest_step N M W p n cs s d
  unfolding latest_step
  last_step p n [] s d h = omega arith
  last_step p n (c ∷ cs) s d h =
      by_test (λ x. d ≤ x) (copying (s.loc p).point)
      (λ _. let b : d ≤ cond (is_step p c) n d = by_test (λ x. d ≤ x) (is_step p c) (λ _. h) (λ _. omega arith) in
      let t : cond (is_step p c) n d ≤ suc n = by_test (λ x. x ≤ suc n) (is_step p c) (λ _. omega arith) (λ _. omega arith) in
      let z = last_step p (suc n) cs (exec N M W n c s) (cond (is_step p c) n d) t in omega arith)
      (λ _. omega arith)

  pub record Good (v0 : List ℕ) (n : ℕ) (s : State) (log : List Timed) : Type 0 where
    pub inv : Invariant N M W n s
    pub logged : Logged N M W v0 log n s

  module _ (h_w : 0 < W) (v0 : List ℕ) (n : ℕ) (s : State) (log : List Timed) (g : Good v0 n s log) where
    -- nothing changes
    tick : Logged N M W v0 log (suc n) s
    tick = record { all = log_later W v0 log n _ g.logged.all; each = λ q. go (s.loc q).point q (g.logged.each q) }
      where
        go : (y : Point) (q : ℕ) → LogEach W v0 log n y s.sh q (s.loc q) → LogEach W v0 log (suc n) y s.sh q (s.loc q)
        go y q a = search

    -- a start
    module _ (p : ℕ) (v : ℕ) (w : ℕ → ℕ) (e : (s.loc p).point ≡ idle) where
      abbrev begun : Point → Type 0
      begun y = Logged N M W v0 log (suc n) (started N M W n p y v w s)

      own : LogEach W v0 log n idle s.sh p (s.loc p)
      own = subst (λ y. LogEach W v0 log n y s.sh p (s.loc p)) e (g.logged.each p)

      begun_by : (y : Point) → LogEach W v0 log (suc n) y s.sh p (begin y n v w (s.loc p)) → begun y
      begun_by y me = frame (LogAll W v0 log) (LogEach W v0 log) n s p s.sh _ g.logged tick.all me (λ q ne a. same (s.loc q).point q a)
        where
          same : (y : Point) (q : ℕ) → LogEach W v0 log n y s.sh q (s.loc q) → LogEach W v0 log (suc n) y s.sh q (s.loc q)
          same y q a = search

      begun_wll : begun ll10
      begun_wll = begun_by ll10 (let o = own in let z : All (Mine p n) log = all_map (λ t. t.moment < n) (Mine p n)
          (λ t x _. omega arith) log g.logged.all.low in search)

      begun_vl : begun vl13
      begun_vl = begun_by vl13 (let o = own in search)

      begun_sc : begun sc14
      begun_sc = begun_by sc14 (let o = own in search)

    by_start : (p : ℕ) (y : Point) (v : ℕ) (w : ℕ → ℕ) (f ok : Bool)
        → ((s.loc p).point ≡ idle → Logged N M W v0 log (suc n) (started N M W n p y v w s))
        → Logged N M W v0 log (suc n) (starts N M W n p y v w f ok s)
    by_start p y v w f ok g = by_starts N M W (Logged N M W v0 log (suc n)) n p y v w f ok s tick (λ _ _ i _. g i)

    exec_log : (c : Cmd) (cs : List Cmd) → BoundedAt N M W n c s
        → Logged N M W v0 (sort_into (fill_all v0 (effect_of N M W n c cs s) log) log) (suc n) (exec N M W n c s)
    unfolding exec effect_of
    exec_log (WLL p) cs b = by_start p ll10 _ _ true true (begun_wll p _ _)
    exec_log (VL p) cs b = by_start p vl13 _ _ true (s.loc p).mark (begun_vl p _ _)
    exec_log (SC p w f) cs b = by_start p sc14 _ w f (s.loc p).mark (begun_sc p _ _)
    exec_log (go p) cs b =
        by_test₂ (λ u es. Logged N M W v0 (sort_into (fill_all v0 es log) log) (suc n) u) (ltb p N)
        (λ e. step_log N M W v0 n h_w s p log g.inv.numbers g.inv.contents g.logged _ (b (ltb-true _ _ e))) (λ _. tick)

    pub exec_good : (c : Cmd) (cs : List Cmd) → BoundedAt N M W n c s → Good v0 (suc n) (exec N M W n c s)
        (sort_into (fill_all v0 (effect_of N M W n c cs s) log) log)
    exec_good c cs b = record { inv = exec_inv N M W h_w n s c b g.inv; logged = exec_log c cs b }

    -- the moment of each call
    step_in_call : (p e : ℕ) → n ≤ e → (y : Point) → ProcessNumbers M W n y s.sh p (s.loc p) → All InCall (effect_at W y n e p s)
    step_in_call p e he idle a = tt
    step_in_call p e he ll10 a = tt
    step_in_call p e he ll2 a = tt
    step_in_call p e he ll4 a = tt
    step_in_call p e he ll5 a = tt
    step_in_call p e he ll6 a = tt
    step_in_call p e he ll7 a =
        by_test (All InCall) (eq_pair s.sh.tag s.sh.pid (s.loc p).x_tag (s.loc p).x_pid)
        (λ _. by_test (All InCall) (ltb (suc (s.loc p).word) W) (λ _. tt)
        (λ _. ((a.start_past, omega arith), tt))) (λ _. ((a.ll_in_call, let z = a.key_past in omega arith), tt))
    step_in_call p e he sc14 a = by_test (All InCall) (eqb s.sh.tag (s.loc p).keep) (λ _. tt) (λ _. ((a.start_past, omega arith), tt))
    step_in_call p e he sc17 a = tt
    step_in_call p e he sc19 a = by_test (All InCall)
        (eq_pair s.sh.tag s.sh.pid (s.loc p).old_tag (s.loc p).old_pid) (λ _. ((a.start_past, he), tt))
        (λ _. ((a.start_past, omega arith), tt))
    step_in_call p e he sc2 a = tt
    step_in_call p e he sc4 a = tt
    step_in_call p e he sc5 a = tt
    step_in_call p e he sc6 a = tt
    step_in_call p e he sc7 a = tt
    step_in_call p e he vl13 a = ((a.start_past, omega arith), tt)

    pub exec_in_call : (c : Cmd) (cs : List Cmd) → All InCall (effect_of N M W n c cs s)
    unfolding effect_of
    exec_in_call (WLL p) cs = tt
    exec_in_call (VL p) cs = tt
    exec_in_call (SC p w f) cs = tt
    exec_in_call (go p) cs = by_test (All InCall) (ltb p N)
        (λ _. step_in_call p _ (last_step p (suc n) cs _ n (omega arith)) (s.loc p).point
        (g.inv.numbers.each p)) (λ _. tt)

  -- the log after a list of commands
  pub run_served : 0 < W → (v0 : List ℕ) (n : ℕ) (cs : List Cmd) (s : State) (log : List Timed) → Good v0 n s log
      → BoundedRun N M W n cs s → Served (fresh v0) (sort_into (fill_all v0 (effects N M W n cs s) log) log)
  unfolding effects
  run_served h_w v0 n [] s log g b = g.logged.all.served
  run_served h_w v0 n (c ∷ cs) s log g b =
      rw (fill_all_append v0 (effect_of N M W n c cs s) (effects N M W (suc n) cs (exec N M W n c s)) log)
      (rw (sort_into_append (fill_all v0 (effect_of N M W n c cs s) log)
      (fill_all v0 (effects N M W (suc n) cs (exec N M W n c s))
      (sort_into (fill_all v0 (effect_of N M W n c cs s) log) log)) log)
      (run_served h_w v0 (suc n) cs (exec N M W n c s) (sort_into (fill_all v0 (effect_of N M W n c cs s) log) log) (exec_good h_w v0 n s log g c cs b.0) b.1))

  pub run_in_call : 0 < W → (v0 : List ℕ) (n : ℕ) (cs : List Cmd) (s : State) (log : List Timed) → Good v0 n s log
      → BoundedRun N M W n cs s → All InCall (effects N M W n cs s)
  unfolding effects
  run_in_call h_w v0 n [] s log g b = tt
  run_in_call h_w v0 n (c ∷ cs) s log g b =
      all_append InCall (effect_of N M W n c cs s) (effects N M W (suc n) cs (exec N M W n c s)) (exec_in_call h_w v0 n s log g c cs)
      (run_in_call h_w v0 (suc n) cs (exec N M W n c s) (sort_into (fill_all v0 (effect_of N M W n c cs s) log) log) (exec_good h_w v0 n s log g c cs b.0) b.1)

  pub setup_good : (v : ℕ → ℕ) → Good (tab W v) 1 (set_up v) []
  setup_good v = record {
    inv = setup_inv N M W v;
    logged = record {
      all = record { sorted = tt; served = tt; words = refl; count = refl; lag = λ m hm. absurd (omega arith); low = tt };
      each = λ q. record { linked_current = λ _. refl; current_linked = λ x _. x; calls_past = tt };
    };
  }
