-- Held lists of Moir's bench that a set-up and commands reached, and what is promised of them. No list of commands is left
-- out, and no bound on successes is asked: tags wrap (CR 8: "The tag has sixteen bits and goes from 65,535 back to 0").
use Rattle.std.specs.Prelude.{◌≡◌, true, ℕ, List}
use Rattle.llsc.specs.History.{Command}
use Rattle.moir_model.specs.Machine.{Memory, Shaped}
use Rattle.moir_model.specs.Command.{refusal, command}
use Rattle.moir_model.specs.SetUp.{set_up}
use Rattle.moir_linearization.specs.After.{after}
use Rattle.moir_held_model.specs.declared.Told.{Told}
use Rattle.moir_held_model.specs.Memory.{memory_of}
use Rattle.moir_held_model.specs.Ranges.{held_in_range}
use Rattle.moir_held_model.specs.HeldCommand.{SetUpDone, DoneBy, Commanded, SteppedTo}

-- the list stands for what an accepted set-up and a list of commands, refused ones among them, left of some memory
pub record Reached (l : List ℕ) : Type 0 where
  pub before : Memory
  pub shaped : Shaped before
  pub n : ℕ
  pub w : ℕ
  pub value : List ℕ
  pub commands : List Command
  pub accepted : (set_up before n w value).0 ≡ 0
  pub left : memory_of l ≡ after (set_up before n w value).1 commands

-- what an accepted set-up leaves is reached, whatever stood in the list
abbrev pub SetUpReaches : Type 0
SetUpReaches = (l l' : List ℕ) (n w : ℕ) (value : List ℕ) → SetUpDone l n w value 0 l' → Reached l'

-- row 9, that of tags with it, holds of nothing in a list that is reached
abbrev pub InRangeOnceReached : Type 0
InRangeOnceReached = (l : List ℕ) → Reached l → held_in_range (memory_of l) ≡ true

-- so there a command is `moir_model`'s, with nothing left out,
abbrev pub CommandIsTheBenchs : Type 0
CommandIsTheBenchs =
    (l l' : List ℕ) (c : Command) (t : Told) → Reached l → Commanded l c.process c.order c.value t l'
    → DoneBy refusal command l c.process c.order c.value t l'

-- it leaves the list reached,
abbrev pub CommandReaches : Type 0
CommandReaches = (l l' : List ℕ) (c : Command) (t : Told) → Reached l → Commanded l c.process c.order c.value t l' → Reached l'

-- and a step that looks at what it reads alone is the command
abbrev pub StepIsCommand : Type 0
StepIsCommand =
    (l l' : List ℕ) (c : Command) (t : Told) → Reached l → SteppedTo l c.process c.order c.value t l'
    → Commanded l c.process c.order c.value t l' × Reached l'
