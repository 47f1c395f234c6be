-- `station_setup::processes_at_set_up` meets its contract: the records below i are set up.
use mathlib.Core.Path.{◌≡◌}
use Rattle.station.specs.StationSetUp.{firsts}
use Rattle.station_setup.specs.StationSetUpByValue.{process_for}
use Rattle.station_setup.proofs.processes_at_set_up.Given as goal

abbrev pub invariant-loop-i : goal.invariant-loop-i
invariant-loop-i l = l.all ≡ firsts (process_for l.n l.r) 0 l.i l.initial.all
