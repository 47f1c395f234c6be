-- The commands of the ghost machine: when they start a call, make a step, or change nothing.
use mathlib.Core.Path.{◌≡◌, refl, ap, ◌∙◌}
use mathlib.Core.Bool.{Bool, true, false, cond}
use mathlib.Core.List.{List, []}
use Prim.Native.Nat.{ℕ, ◌≤◌, ◌<◌}
use native.Mathlib.Omega.{arith}
use lib.Dec.{eqb}
use borrow.Author.Tests.{eq-eqb, lt-ltb, le-ltb}
use lib.ListN.{length}
use Rattle.llsc.specs.declared.Order.{Order}
use Rattle.llsc.specs.declared.Order.TheVariants.{StartLl, StartSc, StartVl, Step}
use Rattle.model.specs.Sizes.{halves}
use Rattle.model.specs.Points.{Point, line1, line12, line23}
use Rattle.llsc.specs.Rows.{is_start, needs_ll, brings_value}
use Rattle.linearization.proofs.PointFacts
use Rattle.laws.proofs.Updates.{by_test, contra}
use Rattle.linearization.proofs.GhostMachine
use Rattle.linearization.proofs.GhostMachine.{State, noisy}
use Rattle.linearization.proofs.GhostRuns
use Rattle.linearization.proofs.GhostRuns.{go}
use Rattle.linearization.proofs.WordLists.{cells}
use Rattle.linearization.proofs.Simulation.{begun}
use Rattle.linearization.proofs.Outcome.{cmd_of}

-- the starts of the ghost machine: accepted, and refused for each of the three reasons
module _ (N W n p : ℕ) (y : Point) (w : ℕ → ℕ) (z : State) where
  abbrev begins : State
  begins = noisy z p (GhostMachine.w_start p n z.sh) (λ l. l) (GhostMachine.begin y w (z.loc p))

  -- a start by the answers to its three questions: is the process in range, is it idle, may it start
  abbrev if_there : Bool → Bool → State
  if_there ok b = cond b (cond (PointFacts.is_idle (z.loc p).point) (cond ok begins z) z) z

  abbrev if_idle : Bool → Bool → State
  if_idle ok b = cond b (cond ok begins z) z

  starts_go : (ok : Bool) → p < N → PointFacts.is_idle (z.loc p).point ≡ true → ok ≡ true → GhostRuns.starts N W n p y w ok z ≡ begins
  starts_go ok hp i e = ap (if_there ok) (lt-ltb p N hp) ∙ ap (if_idle ok) i ∙ ap (λ b. cond b begins z) e

  starts_out : (ok : Bool) → N ≤ p → GhostRuns.starts N W n p y w ok z ≡ z
  starts_out ok h = ap (if_there ok) (le-ltb p N h)

  starts_busy : (ok : Bool) → p < N → PointFacts.is_idle (z.loc p).point ≡ false → GhostRuns.starts N W n p y w ok z ≡ z
  starts_busy ok hp i = ap (if_there ok) (lt-ltb p N hp) ∙ ap (if_idle ok) i

  starts_bare : (ok : Bool) → p < N → PointFacts.is_idle (z.loc p).point ≡ true → ok ≡ false → GhostRuns.starts N W n p y w ok z ≡ z
  starts_bare ok hp i e = ap (if_there ok) (lt-ltb p N hp) ∙ ap (if_idle ok) i ∙ ap (λ b. cond b begins z) e

exec_none : (N W n : ℕ) (z : State) → GhostRuns.exec N W n (go N) z ≡ z
unfolding GhostRuns.exec
exec_none N W n z = ap (λ b. cond b (GhostMachine.step N W n N z) z) (le-ltb N N (omega arith))

pub exec_out : (N W n : ℕ) (z : State) (p : ℕ) (o : Order) (v : List ℕ) → N ≤ p → GhostRuns.exec N (halves W) n (cmd_of N W p o v) z ≡ z
unfolding GhostRuns.exec
exec_out N W n z p StartLl v h = starts_out N (halves W) n p line1 (z.loc p).offered z true h
exec_out N W n z p StartVl v h = starts_out N (halves W) n p line23 (z.loc p).offered z (z.loc p).answered h
exec_out N W n z p StartSc v h =
    by_test (λ d. GhostRuns.exec N (halves W) n d z ≡ z) (eqb (length v) W) (λ _. starts_out N (halves W) n p line12 (cells v) z (z.loc p).answered h) (λ _. exec_none N (halves W) n z)
exec_out N W n z p Step v h = ap (λ b. cond b (GhostMachine.step N (halves W) n p z) z) (le-ltb p N h)

-- what a command that is refused, or starts a call, answers: nothing
module _ (N W n : ℕ) (z : State) (p : ℕ) (v : List ℕ) where
  silent_none : GhostRuns.call_f N (halves W) n (go N) z ≡ []
  unfolding GhostRuns.call_f
  silent_none = ap (λ b. cond b (GhostRuns.call_at N (halves W) (z.loc N).point n N z) []) (le-ltb N N (omega arith))

  pub silent_start : (o : Order) → is_start o ≡ true → GhostRuns.call_f N (halves W) n (cmd_of N W p o v) z ≡ []
  unfolding GhostRuns.call_f
  silent_start StartLl s = refl
  silent_start StartVl s = refl
  silent_start StartSc s = by_test (λ d. GhostRuns.call_f N (halves W) n d z ≡ []) (eqb (length v) W) (λ _. refl) (λ _. silent_none)
  silent_start Step s = absurd (contra s refl)

  pub silent_out : (o : Order) → N ≤ p → GhostRuns.call_f N (halves W) n (cmd_of N W p o v) z ≡ []
  unfolding GhostRuns.call_f
  silent_out StartLl h = refl
  silent_out StartVl h = refl
  silent_out StartSc h = silent_start StartSc refl
  silent_out Step h = ap (λ b. cond b (GhostRuns.call_at N (halves W) (z.loc p).point n p z) []) (le-ltb p N h)

  pub silent_idle : p < N → PointFacts.is_idle (z.loc p).point ≡ true → GhostRuns.call_f N (halves W) n (cmd_of N W p Step v) z ≡ []
  unfolding GhostRuns.call_f
  silent_idle hp i =
      ap (λ b. cond b (GhostRuns.call_at N (halves W) (z.loc p).point n p z) []) (lt-ltb p N hp)
      ∙ ap (λ y. GhostRuns.call_at N (halves W) y n p z) (PointFacts.idle_is (z.loc p).point i)

  pub answers_step : p < N → GhostRuns.call_f N (halves W) n (cmd_of N W p Step v) z ≡ GhostRuns.call_at N (halves W) (z.loc p).point n p z
  unfolding GhostRuns.call_f
  answers_step hp = ap (λ b. cond b (GhostRuns.call_at N (halves W) (z.loc p).point n p z) []) (lt-ltb p N hp)

-- an SC whose value has another length
pub exec_short : (N W n : ℕ) (z : State) (p : ℕ) (v : List ℕ) → eqb (length v) W ≡ false → GhostRuns.exec N (halves W) n (cmd_of N W p StartSc v) z ≡ z
unfolding GhostRuns.exec
exec_short N W n z p v e = by_test (λ d. GhostRuns.exec N (halves W) n d z ≡ z) (eqb (length v) W) (λ t. absurd (contra t e)) (λ _. exec_none N (halves W) n z)

-- a start that the ghost machine accepts, or refuses at a busy process, or for want of an answered LL
module _ (N W n : ℕ) (z : State) (p : ℕ) (v : List ℕ) (hp : p < N) where
  pub exec_start : (o : Order) → is_start o ≡ true → PointFacts.is_idle (z.loc p).point ≡ true
      → (needs_ll o ≡ true → (z.loc p).answered ≡ true) → (brings_value o ≡ true → length v ≡ W)
      → GhostRuns.exec N (halves W) n (cmd_of N W p o v) z ≡ noisy z p (GhostMachine.w_start p n z.sh) (λ l. l) (begun o v (z.loc p))
  unfolding GhostRuns.exec
  exec_start StartLl s i a e = starts_go N (halves W) n p line1 (z.loc p).offered z true hp i refl
  exec_start StartVl s i a e = starts_go N (halves W) n p line23 (z.loc p).offered z (z.loc p).answered hp i (a refl)
  exec_start StartSc s i a e =
      by_test (λ d. GhostRuns.exec N (halves W) n d z ≡ noisy z p (GhostMachine.w_start p n z.sh) (λ l. l) (begun StartSc v (z.loc p))) (eqb (length v) W)
      (λ _. starts_go N (halves W) n p line12 (cells v) z (z.loc p).answered hp i (a refl)) (λ t. absurd (contra (eq-eqb _ W (e refl)) t))
  exec_start Step s i a e = absurd (contra s refl)

  pub exec_busy : (o : Order) → is_start o ≡ true → PointFacts.is_idle (z.loc p).point ≡ false → GhostRuns.exec N (halves W) n (cmd_of N W p o v) z ≡ z
  unfolding GhostRuns.exec
  exec_busy StartLl s i = starts_busy N (halves W) n p line1 (z.loc p).offered z true hp i
  exec_busy StartVl s i = starts_busy N (halves W) n p line23 (z.loc p).offered z (z.loc p).answered hp i
  exec_busy StartSc s i =
      by_test (λ d. GhostRuns.exec N (halves W) n d z ≡ z) (eqb (length v) W)
      (λ _. starts_busy N (halves W) n p line12 (cells v) z (z.loc p).answered hp i) (λ _. exec_none N (halves W) n z)
  exec_busy Step s i = absurd (contra s refl)

  pub exec_bare : (o : Order) → needs_ll o ≡ true → PointFacts.is_idle (z.loc p).point ≡ true → (z.loc p).answered ≡ false → GhostRuns.exec N (halves W) n (cmd_of N W p o v) z ≡ z
  unfolding GhostRuns.exec
  exec_bare StartLl s i a = absurd (contra s refl)
  exec_bare StartVl s i a = starts_bare N (halves W) n p line23 (z.loc p).offered z (z.loc p).answered hp i a
  exec_bare StartSc s i a =
      by_test (λ d. GhostRuns.exec N (halves W) n d z ≡ z) (eqb (length v) W)
      (λ _. starts_bare N (halves W) n p line12 (cells v) z (z.loc p).answered hp i a) (λ _. exec_none N (halves W) n z)
  exec_bare Step s i a = absurd (contra s refl)

  pub exec_step : GhostRuns.exec N (halves W) n (cmd_of N W p Step v) z ≡ GhostMachine.step N (halves W) n p z
  unfolding GhostRuns.exec
  exec_step = ap (λ b. cond b (GhostMachine.step N (halves W) n p z) z) (lt-ltb p N hp)

  pub exec_idle : PointFacts.is_idle (z.loc p).point ≡ true → GhostRuns.exec N (halves W) n (cmd_of N W p Step v) z ≡ z
  unfolding GhostRuns.exec GhostMachine.step GhostMachine.step_at
  exec_idle i = ap (λ b. cond b (GhostMachine.step N (halves W) n p z) z) (lt-ltb p N hp) ∙ ap (λ y. GhostMachine.step_at N (halves W) y n p z) (PointFacts.idle_is (z.loc p).point i)
