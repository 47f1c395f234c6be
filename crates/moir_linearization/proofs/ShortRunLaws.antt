-- A short list is within CR 8's bound: at most one SC succeeds in a command.
use mathlib.Core.Path.{◌≡◌, refl, ap}
use mathlib.Core.Bool.{Bool, true, false, ◌&&◌, cond}
use mathlib.Core.List.{List, [], ◌∷◌, ◌++◌}
use Prim.Native.Nat.{ℕ, suc, ◌≤◌, ◌<◌}
use native.Mathlib.Omega.{arith}
use lib.Dec.{leb}
use lib.ListN.{length}
use Rattle.llsc.specs.declared.Order.TheVariants.{StartSc, Step}
use Rattle.llsc.specs.Answers.{accepted, answered}
use Rattle.llsc.specs.History.{Command, along_all}
use Rattle.llsc.specs.Linearizable.{All}
use Rattle.moir_model.specs.Machine.{Memory, step_at, obey}
use Rattle.moir_model.specs.Refusals.{in_range}
use Rattle.moir_model.specs.Command.{command, refusal}
use Rattle.moir_model.specs.SetUp.{set_up, set_up_refusal}
use Rattle.moir_model.specs.Replies.{sc_truth}
use Rattle.moir_model.specs.History.{Event, next, event_of, events, Call, calls_from, calls, successes_from}
use Rattle.moir_model.proofs.Schedules.{l, s, steps, dirty}
use Rattle.moir_linearization.specs.Bound.{CallBounded, BoundedBy}
use Rattle.moir_linearization.specs.ShortRuns.{ShortAreBounded}

-- no more successes than events
at_most : (es : List Event) (n k : ℕ) → successes_from n es k ≤ length es
at_most [] n k = omega arith
at_most (e ∷ es) n k = let z = at_most es (suc n) k in let y = one (e.won && leb n k) in omega arith
  where
    one : (b : Bool) → cond b 1 0 ≤ 1
    one true = omega arith
    one false = omega arith

all_calls : (P : Call → Type 0) → ((c : Call) → P c) → (cs : List Call) → All P cs
all_calls P f [] = tt
all_calls P f (c ∷ cs) = (f c, all_calls P f cs)

-- fewer events than the limit are within it, whatever they are
pub few_events : (limit N : ℕ) (es : List Event) → length es < limit → BoundedBy limit N es
few_events limit N es h =
    all_calls (CallBounded limit es)
    (λ c. let z = at_most es 1 c.end in record { during = omega arith; since_wll = omega arith }) (calls N es)

an_event_each : (m : Memory) (cs : List Command) → length (along_all next event_of m cs) ≡ length cs
an_event_each m [] = refl
an_event_each m (c ∷ cs) = ap suc (an_event_each (next m c) cs)

pub short_are_bounded : ShortAreBounded
unfolding events
short_are_bounded m n cs h = few_events _ n _ (let z = an_event_each m cs in omega arith)

-- As many events as the limit need not be: of two, a start of an SC and its answer, each can be a success. So the number
-- of commands alone gives no more than this,
abbrev two : List Event
two =
    record { command = record { process = 0; order = StartSc; value = [] }; said = accepted; won = true }
    ∷ record { command = record { process = 0; order = Step; value = [] }; said = answered (sc_truth true) 1; won = true }
    ∷ []

pub as_many_are_too_many : (length two ≡ 2) × (BoundedBy 2 1 two → ⊥)
unfolding calls_from
as_many_are_too_many = (refl, λ b. let z = b.0.since_wll in omega arith)

-- and that a list is short is needed at all: on the bench eight commands, 0l 3(0.) 0s7 3(0.), have a success during an SC.
abbrev eight : List Event
eight = events (set_up dirty 1 1 (5 ∷ [])).1 (l 0 ++ steps 3 0 ++ s 1 0 7 ++ steps 3 0)

pub a_success_in_eight : (length eight ≡ 8) × (BoundedBy 1 1 eight → ⊥)
unfolding set_up set_up_refusal events command refusal in_range obey step_at calls_from
a_success_in_eight = (refl, λ b. let z = b.1.0.during in omega arith)
