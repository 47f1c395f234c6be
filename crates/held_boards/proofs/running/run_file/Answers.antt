-- `held_boards::running::run_file` meets its contract.
use Rattle.held_boards.proofs.RunLaws.{refused_file, run_file_is}
use Rattle.held_boards.proofs.running.run_file.Goals as goal

pub returns-in-Ok : goal.returns-in-Ok
returns-in-Ok c = run_file_is c.args.held.now c.args.file.now c.in-Ok.ensures c.run_records.ensures

pub returns-in-Err : goal.returns-in-Err
returns-in-Err c = refused_file c.args.held.now c.args.file.now c.in-Err.refusal c.in-Err.ensures c.number.ensures
