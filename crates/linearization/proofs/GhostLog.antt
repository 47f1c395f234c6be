-- Every command keeps the invariants and the log, and answers within the call.
use mathlib.Core.Path.{◌≡◌, refl, ap, ◌∙◌}
use mathlib.Core.Bool.{Bool, true, false, cond}
use mathlib.Core.List.{List, [], ◌∷◌}
use Prim.Native.Nat.{ℕ, suc, ◌+◌, ◌%◌, ◌<◌}
use native.Mathlib.Omega.{arith}
use lib.Dec.{ltb, eqb}
use borrow.Author.Tests.{ltb-true}
use Rattle.model.specs.Points.{Point, idle, line1, line2, line3, line4, line5, line6, line7, line7copy, line8, line9}
use Rattle.model.specs.Points.{line10, line11, line12, line12valid, line13, line14, line14valid, line15, line17, line18}
use Rattle.model.specs.Points.{line19, line23}
use Rattle.llsc.specs.Answers.{ll_words, sc_truth, vl_truth}
use Rattle.llsc.specs.Object.{Object, fresh}
use Rattle.llsc.specs.Linearizable.{All, Timed, insert, sort_into}
use Rattle.laws.proofs.Updates.{by_test, by_test₂}
use Rattle.linearization.proofs.GhostMachine.{Local, Shared, State, step, step_at}
use Rattle.linearization.proofs.Invariants.{ProcessClauses, Invariant}
use Rattle.linearization.proofs.InvariantRuns.{exec_inv}
use Rattle.linearization.proofs.WordLists.{words_of, words_of_ext}
use Rattle.serving.proofs.Serving.{feeds, after, successes}
use Rattle.linearization.proofs.ServedLog.{Logged, log_tick, log_same, log_success, log_ll}
use Rattle.serving.proofs.Moments.{Within}
use Rattle.linearization.proofs.GhostRuns.{Cmd, LL, VL, SC, go, starts, exec, ll_call, sc_call, vl_call, call_at, call_f}
use Rattle.linearization.proofs.PointFacts.{is_idle}

module _ (N W : ℕ) where
  abbrev pub LoggedAt : List ℕ → ℕ → State → List Timed → Type 0
  LoggedAt v0 n s log = Logged W v0 n s.sh.successes s.sh.values s.sh.won_at s.sh.served_link s.sh.last_moment log

  -- before command number n
  pub record Good (v0 : List ℕ) (n : ℕ) (s : State) (log : List Timed) : Type 0 where
    pub inv : Invariant N W n s
    pub logged : LoggedAt v0 n s log

  module _ (h_w : 0 < W) (v0 : List ℕ) (n : ℕ) (s : State) (log : List Timed) (z : Good v0 n s log) where
    abbrev h : Shared
    h = s.sh

    abbrev fin : Object
    fin = after (fresh v0) log

    abbrev same : State → Type 0
    same u = LoggedAt v0 (suc n) u log

    tick : same s
    tick = log_tick z.inv.all.successes_past z.logged

    module _ (p : ℕ) (hp : p < N) where
      abbrev l : Local
      l = s.loc p

      linked : h.served_link p ≡ l.link_x → fin.link p ≡ l.link_x
      linked e = z.logged.link p ∙ e

      step_log : (y : Point) → ProcessClauses N W n y h p l → LoggedAt v0 (suc n) (step_at N W y n p s) (sort_into (call_at N W y n p s) log)
      unfolding step_at
      step_log idle m = tick
      step_log line1 m = tick
      step_log line2 m = tick
      step_log line3 m = tick
      step_log line4 m = by_test same (h.flag p) (λ e. tick) (λ e. tick)
      step_log line5 m = tick
      step_log line6 m = tick
      step_log line7 m = by_test same l.link_x (λ e. tick) (λ e. tick)
      step_log line7copy m = tick
      step_log line8 m = by_test same (h.flag p) (λ e. tick) (λ e. tick)
      step_log line9 m = by_test same (l.link_help p) (λ e. tick) (λ e. tick)
      step_log line10 m = tick
      step_log line11 m =
          by_test₂ (λ u ts. LoggedAt v0 (suc n) u (sort_into ts log)) (ltb (suc l.word) W) (λ e. tick)
          (λ e. log_ll z.inv.all.successes_past z.logged p (ll_call N W n p s) refl refl l.version (h.start p)
          (ap ll_words (words_of_ext W l.returned (h.values l.version) m.answer_value)) m.moment_past m.version_made m.moment_in_life.one
          m.moment_in_life.two m.last_before_start m.moment_after_start l.link_x m.linked_answer m.current_answer)
      step_log line12 m = by_test same (eqb (h.bank l.copy_seq) l.copy_buf) (λ e. tick) (λ e. tick)
      step_log line12valid m = by_test same l.link_x (λ e. tick) (λ e. tick)
      step_log line13 m = by_test same (l.link_bank l.copy_seq) (λ e. tick) (λ e. tick)
      step_log line14 m = by_test same (h.flag (l.copy_seq % N)) (λ e. tick) (λ e. tick)
      step_log line14valid m = by_test same l.link_x (λ e. tick) (λ e. tick)
      step_log line15 m = by_test same (l.link_help (l.copy_seq % N)) (λ e. tick) (λ e. tick)
      step_log line17 m = tick
      step_log line18 m = tick
      step_log line19 m =
          let feeds_sc : (b : Bool) → l.link_x ≡ b → feeds (sc_call N W n p s) fin ≡ cond b (fresh (words_of W l.offered)) fin =
          λ b e. ap (λ b. cond b (fresh (words_of W l.offered)) fin) (linked m.served_link_is ∙ e) in
          let succeeds : (b : Bool) → l.link_x ≡ b → successes fin (sc_call N W n p s ∷ []) ≡ cond b 1 0 + 0 = λ b e. ap (λ b. cond b 1 0 + 0) (linked m.served_link_is ∙ e) in
          by_test (λ u. LoggedAt v0 (suc n) u (insert (sc_call N W n p s) log)) l.link_x
          (λ e. log_success z.inv.all.successes_past z.logged p (sc_call N W n p s) refl refl m.last_past (ap sc_truth (linked m.served_link_is))
          l.offered (feeds_sc true e) (succeeds true e))
          (λ e. log_same z.inv.all.successes_past z.logged p (sc_call N W n p s) refl refl m.last_past (ap sc_truth (linked m.served_link_is))
          l.link_x m.served_link_is (feeds_sc false e) (succeeds false e))
      step_log line23 m =
          log_same z.inv.all.successes_past z.logged p (vl_call N W n p s) refl refl m.last_past (ap vl_truth (linked m.served_link_is)) l.link_x m.served_link_is refl refl

      step_within : (y : Point) → ProcessClauses N W n y h p l → All Within (call_at N W y n p s)
      step_within idle m = tt
      step_within line1 m = tt
      step_within line2 m = tt
      step_within line3 m = tt
      step_within line4 m = tt
      step_within line5 m = tt
      step_within line6 m = tt
      step_within line7 m = tt
      step_within line7copy m = tt
      step_within line8 m = tt
      step_within line9 m = tt
      step_within line10 m = tt
      step_within line11 m = by_test (All Within) (ltb (suc l.word) W) (λ e. tt) (λ e. ((m.moment_after_start, let k = m.moment_past in omega arith), tt))
      step_within line12 m = tt
      step_within line12valid m = tt
      step_within line13 m = tt
      step_within line14 m = tt
      step_within line14valid m = tt
      step_within line15 m = tt
      step_within line17 m = tt
      step_within line18 m = tt
      step_within line19 m = ((m.start_past, omega arith), tt)
      step_within line23 m = ((m.start_past, omega arith), tt)

    started_log : (p : ℕ) (y : Point) (w : ℕ → ℕ) (ok : Bool) → LoggedAt v0 (suc n) (starts N W n p y w ok s) log
    started_log p y w ok = by_test same (ltb p N) (λ _. by_test same (is_idle (s.loc p).point) (λ _. by_test same ok (λ _. tick) (λ _. tick)) (λ _. tick)) (λ _. tick)

    exec_log : (c : Cmd) → LoggedAt v0 (suc n) (exec N W n c s) (sort_into (call_f N W n c s) log)
    unfolding exec call_f step
    exec_log (LL p) = started_log p line1 (s.loc p).offered true
    exec_log (VL p) = started_log p line23 (s.loc p).offered (s.loc p).answered
    exec_log (SC p w) = started_log p line12 w (s.loc p).answered
    exec_log (go p) =
        by_test₂ (λ u ts. LoggedAt v0 (suc n) u (sort_into ts log)) (ltb p N) (λ e. let hp = ltb-true p N e in step_log p hp (s.loc p).point (z.inv.each p hp)) (λ e. tick)

    pub exec_good : (c : Cmd) → Good v0 (suc n) (exec N W n c s) (sort_into (call_f N W n c s) log)
    exec_good c = record { inv = exec_inv N W h_w n s c z.inv; logged = exec_log c }

    pub exec_within : (c : Cmd) → All Within (call_f N W n c s)
    unfolding call_f
    exec_within (LL p) = tt
    exec_within (VL p) = tt
    exec_within (SC p w) = tt
    exec_within (go p) = by_test (All Within) (ltb p N) (λ e. step_within p (ltb-true _ _ e) (s.loc p).point (z.inv.each p (ltb-true _ _ e))) (λ e. tt)
