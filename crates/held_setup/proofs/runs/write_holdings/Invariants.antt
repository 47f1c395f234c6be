-- `held_setup::runs::write_holdings` meets its contract: those of the processes below p are set up.
use mathlib.Core.Path.{◌≡◌}
use lib.Seq.{sets}
use Rattle.held_setup.specs.Setting.{runs, holding_run}
use Rattle.held_setup.proofs.runs.write_holdings.Given as goal

abbrev pub invariant-loop-p : goal.invariant-loop-p
invariant-loop-p l = l.held ≡ sets l.initial.held l.at (runs (holding_run l.mine) l.p)
