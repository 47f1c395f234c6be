-- `held_setup::runs::write_records` meets its contract: the records below j are set up.
use mathlib.Core.Path.{◌≡◌}
use Rattle.held_setup.specs.Setting.{records_set}
use Rattle.held_setup.proofs.runs.write_records.Given as goal

abbrev pub invariant-loop-j : goal.invariant-loop-j
invariant-loop-j l = l.held ≡ records_set l.initial.held l.count.n l.j
