-- `board_commands::running::run_records` meets its contract.
use Rattle.board_commands.proofs.RunLaws.{Running}
use Rattle.board_commands.proofs.running.run_records.Given as goal

abbrev pub invariant-loop-done : goal.invariant-loop-done
invariant-loop-done l = Running l.records l.lent.station l.lent.all l.lent.len l.initial.words l.station l.all l.words l.done
