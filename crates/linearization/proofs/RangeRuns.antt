-- Every number is in its range after the set-up, and stays there at each command.
use Prim.Native.Nat.{ℕ, ◌<◌}
use native.Mathlib.Omega.{arith}
use Rattle.laws.proofs.Updates.{upd, upd_same, upd_other, Split, same, other, split}
use Rattle.linearization.proofs.GhostMachine.{State, begin, step}
use Rattle.model.specs.Points.{Point}
use Rattle.linearization.proofs.Ranges.{ProcessRanges, InRanges, range_step}
use Rattle.linearization.proofs.GhostRuns.{Cmd, exec, setup}
use Rattle.linearization.proofs.InvariantRuns.{started, by_command}

module _ (N W : ℕ) where
  -- a start sets the word place, and changes no other number that has a range
  start_range : (n p : ℕ) (y : Point) (w : ℕ → ℕ) (s : State) → 0 < W → p < N → InRanges N W s → InRanges N W (started N W n p y w s)
  start_range n p y w s h_w hp i = record { all = let a = i.all in search; each = λ q hq. go q hq (split q p) }
    where
      go : (q : ℕ) → q < N → Split q p → ProcessRanges N W (upd (λ r. s.loc r) p (begin y w (s.loc p)) q)
      go q hq (same e) = rw e (rw (upd_same (λ r. s.loc r) p (begin y w (s.loc p))) (let a = i.each p hp in search))
      go q hq (other ne) = rw (upd_other (λ r. s.loc r) p q (begin y w (s.loc p)) ne) (i.each q hq)

  pub exec_range : 0 < W → (n : ℕ) (s : State) (c : Cmd) → InRanges N W s → InRanges N W (exec N W n c s)
  unfolding step
  exec_range h_w n s c i = by_command N W (InRanges N W) n s i (λ p y w _ hp _. start_range n p y w s h_w hp i) (λ p hp. range_step N W s p n hp h_w i (s.loc p).point) c

  pub setup_range : 0 < N → 0 < W → (v : ℕ → ℕ) → InRanges N W (setup N W v)
  setup_range h_n h_w v = record {
    all = record { xbuf = omega arith; xseq = omega arith; bank = λ j hj. omega arith; help_buf = λ j hj. omega arith };
    each = λ q hq. record { word = h_w; my = omega arith; copy_buf = omega arith; b = omega arith; c = omega arith; d = omega arith; e = omega arith; copy_seq = omega arith };
  }
