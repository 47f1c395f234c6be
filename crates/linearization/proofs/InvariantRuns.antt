-- The state after a list of commands, without the log; what every command keeps; and that it keeps the invariants.
use mathlib.Core.Path.{◌≡◌, subst}
use mathlib.Core.Bool.{Bool, true}
use mathlib.Core.List.{List, [], ◌∷◌}
use Prim.Native.Nat.{ℕ, suc, ◌<◌}
use lib.Dec.{ltb}
use borrow.Author.Tests.{ltb-true}
use Rattle.laws.proofs.Updates.{by_test}
use Rattle.linearization.proofs.GhostMachine.{State, noisy, w_start, begin, step}
use Rattle.model.specs.Points.{Point, idle, line1, line12, line23}
use Rattle.linearization.proofs.Invariants.{ProcessClauses, Invariant, later, later_g, noisy_inv}
use Rattle.linearization.proofs.Starts.{others_start, all_start, own_ll, own_sc, own_vl}
use Rattle.linearization.proofs.Preservation.{step_inv}
use Rattle.linearization.proofs.GhostRuns
use Rattle.linearization.proofs.GhostRuns.{Cmd, starts, exec}
use Rattle.linearization.proofs.PointFacts.{is_idle, idle_is}

-- the number of the command after a list that begins with number n
abbrev pub number_after : ℕ → List Cmd → ℕ
number_after n [] = n
number_after n (c ∷ cs) = number_after (suc n) cs

-- the first line of a call and the offer area after its start; off is the area before it
pub data First (off : ℕ → ℕ) : Point → (ℕ → ℕ) → Type 0 where
  ll : First off line1 off
  vl : First off line23 off
  sc : (w : ℕ → ℕ) → First off line12 w

module _ (N W : ℕ) where
  -- the state after a list
  abbrev pub execs : ℕ → List Cmd → State → State
  execs n [] s = s
  execs n (c ∷ cs) s = execs (suc n) cs (exec N W n c s)

  -- what every command keeps holds after every list
  pub along : (P : ℕ → State → Type 0) → ((n : ℕ) (s : State) (c : Cmd) → P n s → P (suc n) (exec N W n c s))
      → (n : ℕ) (cs : List Cmd) (s : State) → P n s → P (number_after n cs) (execs n cs s)
  along P keeps n [] s a = a
  along P keeps n (c ∷ cs) s a = along P keeps (suc n) cs _ (keeps n s c a)

  abbrev pub started : ℕ → ℕ → Point → (ℕ → ℕ) → State → State
  started n p y w s = noisy s p (w_start p n s.sh) (λ l. l) (begin y w (s.loc p))

  -- a command is refused and changes nothing, or starts a call of an idle process, or is a step
  module _ (P : State → Type 0) (n : ℕ) (s : State) (refused : P s)
      (begun : (p : ℕ) (y : Point) (w : ℕ → ℕ) → First (s.loc p).offered y w → p < N → (s.loc p).point ≡ idle → P (started n p y w s))
      (stepped : (p : ℕ) → p < N → P (step N W n p s)) where
    by_start : (p : ℕ) (y : Point) (w : ℕ → ℕ) (ok : Bool) → First (s.loc p).offered y w → P (starts N W n p y w ok s)
    by_start p y w ok f =
        by_test P (ltb p N)
        (λ a. by_test P (is_idle (s.loc p).point) (λ b. by_test P ok (λ _. begun p y w f (ltb-true _ _ a) (idle_is _ b)) (λ _. refused)) (λ _. refused))
        (λ _. refused)

    pub by_command : (c : Cmd) → P (exec N W n c s)
    unfolding exec
    by_command (GhostRuns.Cmd.LL p) = by_start p line1 _ true ll
    by_command (GhostRuns.Cmd.VL p) = by_start p line23 _ (s.loc p).answered vl
    by_command (GhostRuns.Cmd.SC p w) = by_start p line12 w (s.loc p).answered (sc w)
    by_command (GhostRuns.Cmd.go p) = by_test P (ltb p N) (λ e. stepped p (ltb-true _ _ e)) (λ _. refused)

  pub exec_inv : 0 < W → (n : ℕ) (s : State) (c : Cmd) → Invariant N W n s → Invariant N W (suc n) (exec N W n c s)
  exec_inv h_w n s c i = by_command (Invariant N W (suc n)) n s refused begun (λ p hp. step_inv N W n h_w s p hp i) c
    where
      refused : Invariant N W (suc n) s
      refused = record { all = later_g N W n _ i.all; each = λ q hq. later N W n _ _ _ _ (i.each q hq) }

      own : (p : ℕ) (y : Point) (w : ℕ → ℕ) → First (s.loc p).offered y w → ProcessClauses N W n idle s.sh p (s.loc p)
          → ProcessClauses N W (suc n) y (w_start p n s.sh) p (begin y w (s.loc p))
      own p y w ll m = own_ll N W n _ p m.asks_not _ m
      own p y w vl m = own_vl N W n _ p m.asks_not _ m
      own p y w (sc v) m = own_sc N W n _ p m.asks_not _ v m

      begun : (p : ℕ) (y : Point) (w : ℕ → ℕ) → First (s.loc p).offered y w → p < N → (s.loc p).point ≡ idle → Invariant N W (suc n) (started n p y w s)
      begun p y w f hp e =
          let m : ProcessClauses N W n idle s.sh p (s.loc p) = subst (λ y. ProcessClauses N W n y s.sh p (s.loc p)) e (i.each p hp) in
          noisy_inv N W n s p _ (λ l. l) _ i (all_start N W n _ p m.asks_not i.all) (own p y w f m) (λ q hq ne k. others_start N W n _ p m.asks_not q _ _ ne k)
      -- so the invariants hold after every list of commands, from any state that has them
