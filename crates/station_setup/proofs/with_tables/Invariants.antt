-- `station_setup::with_tables` meets its contract: the tables below j are set up.
use mathlib.Core.Path.{◌≡◌}
use Rattle.station_setup.specs.StationSetUpByValue.{tables_set}
use Rattle.station_setup.proofs.with_tables.Given as goal

abbrev pub invariant-loop-j : goal.invariant-loop-j
invariant-loop-j l = l.station ≡ tables_set l.initial.station l.n l.j
