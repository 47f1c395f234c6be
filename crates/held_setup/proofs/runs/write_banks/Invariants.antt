-- `held_setup::runs::write_banks` meets its contract: the places below i are set up.
use mathlib.Core.Path.{◌≡◌}
use lib.Seq.{sets}
use Rattle.held_setup.specs.Setting.{runs, bank_run}
use Rattle.held_setup.proofs.runs.write_banks.Given as goal

abbrev pub invariant-loop-i : goal.invariant-loop-i
invariant-loop-i l = l.held ≡ sets l.initial.held l.at (runs bank_run l.i)
