-- The bench never refuses for its own doing: after a set-up no command meets rows 1, 2, 3 or 9.
use Rattle.std.specs.Prelude.{◌≡◌, ℕ, List}
use Rattle.llsc.specs.Rows.{NotLentMemory}
use Rattle.model.specs.Machine.{Memory, Shaped}
use Rattle.model.specs.Command.{refusal}
use Rattle.model.specs.SetUp.{set_up}
use Rattle.llsc.specs.History.{Command}
use Rattle.after_commands.specs.After.{after}

abbrev pub NeverForItsOwnDoing : Type 0
NeverForItsOwnDoing =
    (m : Memory) → Shaped m → (n w : ℕ) (value : List ℕ) (cs : List Command) → (set_up m n w value).0 ≡ 0
    → (c : Command) → NotLentMemory (refusal (after (set_up m n w value).1 cs) c.process c.order c.value)
