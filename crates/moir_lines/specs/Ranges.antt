-- What a line that moves on from word to word relies on. Row 9 asks for it.
-- Inner: `moir_machine`'s `ObeyLaws` proves it of every command that no row refuses.
use Rattle.std.specs.Prelude.{ℕ, ◌<◌, ◌≤◌}
use Rattle.moir_model.specs.declared.Process.{Process}

pub record Moving (w : ℕ) (q : Process) : Type 0 where
  pub w_most : w ≤ 64
  pub word : q.word < w
  pub count : q.count < 4294967296
