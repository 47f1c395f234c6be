-- `held_boards::running::run_records` meets its contract.
use Rattle.held_boards.proofs.RunLaws.{Running}
use Rattle.held_boards.proofs.running.run_records.Given as goal

abbrev pub invariant-loop-done : goal.invariant-loop-done
invariant-loop-done l = Running l.records l.initial.held l.held l.done
