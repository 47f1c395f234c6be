-- `station_text_machine::processes_ran` meets its contract: the processes below i are put back.
use mathlib.Core.Path.{◌≡◌}
use Rattle.station_text_machine.specs.TextByValue.{processes_ran}
use Rattle.station_text_machine.proofs.processes_ran.Given as goal

abbrev pub invariant-loop-i : goal.invariant-loop-i
invariant-loop-i l = l.all ≡ processes_ran l.initial.all l.records l.i
