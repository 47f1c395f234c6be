-- The commands of `model` on the machine with its ghosts, and their events as a history has them.
use mathlib.Core.Bool.{Bool, true, false, cond}
use mathlib.Core.List.{List, [], ◌∷◌}
use Prim.Native.Nat.{ℕ, suc, ◌+◌}
use lib.Dec.{ltb, eqb}
use lib.ListN.{length, get_or}
use Rattle.llsc.specs.declared.Order.{Order}
use Rattle.llsc.specs.declared.Order.TheVariants.{StartLl, StartSc, StartVl, Step}
use Rattle.llsc.specs.History.{Command}
use Rattle.llsc.specs.Answers.{refused, accepted, answered}
use Rattle.moir_model.specs.Replies.{Said}
use Rattle.moir_model.specs.History.{Event}
use Rattle.moir_linearization.specs.Linearizable.{Served}
use Rattle.moir_linearization.proofs.PointRanges.{is_idle, copying}
use Rattle.moir_linearization.proofs.GhostMachine.{State}
use Rattle.moir_linearization.proofs.GhostRuns.{Cmd, WLL, VL, SC, go, exec}
use Rattle.moir_linearization.proofs.GhostHistories.{answer_at}

-- a command, for W words
abbrev pub ordered : ℕ → ℕ → Order → List ℕ → Cmd
ordered W p StartLl v = WLL p
ordered W p StartVl v = VL p
ordered W p StartSc v = SC p (λ k. get_or v k 0) (eqb (length v) W)
ordered W p Step v = go p

abbrev pub ghost : ℕ → Command → Cmd
ghost W c = ordered W c.process c.order c.value

-- what a step that answers these calls, or none, says; k is its count
abbrev pub said_by : List Served → ℕ → Said
said_by [] k = accepted
said_by (c ∷ cs) k = answered c.answer k

-- p is in its SC's Copy after a command and was not before
abbrev pub wins : ℕ → State → State → Bool
wins p s u = cond (copying (s.loc p).point) false (copying (u.loc p).point)

module _ (N M W : ℕ) where
  -- a start, by rows 4, 8, 5 and 7
  abbrev pub start_said : ℕ → Bool → Bool → State → Said
  start_said p f ok s = cond (ltb p N) (cond f (cond (is_idle (s.loc p).point) (cond ok accepted (refused 7)) (refused 5)) (refused 8)) (refused 4)

  unfoldable pub says : ℕ → Cmd → State → Said
  says n (WLL p) s = start_said p true true s
  says n (VL p) s = start_said p true (s.loc p).mark s
  says n (SC p w f) s = start_said p f (s.loc p).mark s
  says n (go p) s =
      cond (ltb p N) (cond (is_idle (s.loc p).point) (refused 6) (said_by (answer_at W (s.loc p).point n p s) ((s.loc p).count + 1))) (refused 4)

  abbrev pub event_of : ℕ → Command → State → Event
  event_of n c s = record { command = c; said = says n (ghost W c) s; won = wins c.process s (exec N M W n (ghost W c) s) }

  -- n is the number of the first command
  unfoldable pub events : ℕ → List Command → State → List Event
  events n [] s = []
  events n (c ∷ cs) s = event_of n c s ∷ events (suc n) cs (exec N M W n (ghost W c) s)
