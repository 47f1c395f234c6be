-- The cases of a command, in model and in the ghost machine.
use mathlib.Core.Path.{◌≡◌}
use mathlib.Core.Bool.{true, false, cond}
use mathlib.Core.List.{List, []}
use Prim.Native.Nat.{ℕ, ◌<◌}
use lib.Dec.{eqb}
use lib.ListN.{length}
use Rattle.llsc.specs.declared.Order.{Order}
use Rattle.llsc.specs.declared.Order.TheVariants.{StartLl, StartSc, StartVl, Step}
use Rattle.model.specs.declared.Reply.TheVariants.{Refused}
use Rattle.model.specs.Sizes.{halves}
use Rattle.model.specs.Points.{idle}
use Rattle.model.specs.Machine.{Memory}
use Rattle.llsc.specs.Rows.{is_start, needs_ll, brings_value}
use Rattle.model.specs.Command.{command, refusal}
use Rattle.llsc.specs.Answers.{refused, accepted}
use Rattle.llsc.specs.History.{Command}
use Rattle.model.specs.History.{event_of}
use Rattle.linearization.proofs.PointFacts
use Rattle.linearization.proofs.GhostMachine
use Rattle.linearization.proofs.GhostMachine.{State, noisy}
use Rattle.linearization.proofs.GhostRuns
use Rattle.linearization.proofs.GhostRuns.{Cmd, LL, VL, go, SC}
use Rattle.linearization.proofs.WordLists.{cells}
use Rattle.linearization.proofs.Relation.{Related}
use Rattle.linearization.proofs.Simulation.{begun}
use Rattle.linearization.proofs.ReplySimulation.{said_at}

-- the command as the ghost machine reads it; an SC with a value of another length is refused there as a step of process N
abbrev pub cmd_of : ℕ → ℕ → ℕ → Order → List ℕ → Cmd
cmd_of N W p StartLl v = LL p
cmd_of N W p StartSc v = cond (eqb (length v) W) (SC p (cells v)) (go N)
cmd_of N W p StartVl v = VL p
cmd_of N W p Step v = go p

abbrev pub to_f : ℕ → ℕ → Command → Cmd
to_f N W c = cmd_of N W c.process c.order c.value

-- refused with the number k: nothing changes
pub record IsRefused (N W n : ℕ) (m : Memory) (z : State) (c : Command) (k : ℕ) : Type 0 where
  pub not_0 : k ≡ 0 → ⊥
  pub number : refusal m c.process c.order c.value ≡ k
  pub leaves : command m c.process c.order c.value ≡ (Refused k, m)
  pub said : (event_of m c).said ≡ refused k
  pub follows : GhostRuns.exec N (halves W) n (to_f N W c) z ≡ z
  pub silent : GhostRuns.call_f N (halves W) n (to_f N W c) z ≡ []

-- a start of an idle process
pub record IsStarted (N W n : ℕ) (m : Memory) (z : State) (c : Command) : Type 0 where
  pub below : c.process < N
  pub start : is_start c.order ≡ true
  pub idle : (z.loc c.process).point ≡ idle
  pub marked : needs_ll c.order ≡ true → (z.loc c.process).answered ≡ true
  pub value : brings_value c.order ≡ true → length c.value ≡ W
  pub number : refusal m c.process c.order c.value ≡ 0
  pub said : (event_of m c).said ≡ accepted
  pub follows : GhostRuns.exec N (halves W) n (to_f N W c) z ≡ noisy z c.process (GhostMachine.w_start c.process n z.sh) (λ l. l) (begun c.order c.value (z.loc c.process))

-- a step of a busy process
pub record IsStepped (N W n : ℕ) (m : Memory) (z : State) (c : Command) : Type 0 where
  pub below : c.process < N
  pub step : c.order ≡ Step
  pub busy : PointFacts.is_idle (z.loc c.process).point ≡ false
  pub number : refusal m c.process c.order c.value ≡ 0
  pub said : (event_of m c).said ≡ said_at (halves W) (z.loc c.process).point (z.loc c.process)
  pub follows : GhostRuns.exec N (halves W) n (to_f N W c) z ≡ GhostMachine.step N (halves W) n c.process z

pub data Outcome (N W n : ℕ) (m : Memory) (z : State) (c : Command) : Type 0 where
  refused_with : (k : ℕ) → IsRefused N W n m z c k → Outcome N W n m z c
  started : IsStarted N W n m z c → Outcome N W n m z c
  stepped : IsStepped N W n m z c → Outcome N W n m z c

-- both machines after a command: the case, and the relation
pub record Followed (N W n : ℕ) (m : Memory) (z : State) (c : Command) : Type 0 where
  pub outcome : Outcome N W n m z c
  pub related : Related N W (command m c.process c.order c.value).1 (GhostRuns.exec N (halves W) n (to_f N W c) z)
