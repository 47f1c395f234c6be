-- Memory that an accepted set-up and commands have made, whatever was lent.
-- Inner: said with `model`'s set-up and commands alone; `ReachedLaws` proves it of every run after its set-up.
use Rattle.std.specs.Prelude.{◌≡◌, ℕ, List}
use Rattle.model.specs.Machine.{Memory, Shaped}
use Rattle.model.specs.SetUp.{set_up}
use Rattle.llsc.specs.History.{Command}
use Rattle.after_commands.specs.After.{after}

pub record Reached (m : Memory) : Type 0 where
  pub lent : Memory
  pub shaped : Shaped lent
  pub n : ℕ
  pub w : ℕ
  pub value : List ℕ
  pub accepted : (set_up lent n w value).0 ≡ 0
  pub commands : List Command
  pub is : m ≡ after (set_up lent n w value).1 commands
