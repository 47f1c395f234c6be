-- `boards::processes::marked` meets its contract.
use mathlib.Core.Path.{◌≡◌}
use lib.ListN.{drop}
use Rattle.boards.specs.Places.{read, marks}
use Rattle.boards.proofs.processes.marked.Given as goal

abbrev pub invariant-loop-record : goal.invariant-loop-record
invariant-loop-record l = marks (read l.records) l.initial.table ≡ marks (read (drop l.record-index l.records)) l.table
