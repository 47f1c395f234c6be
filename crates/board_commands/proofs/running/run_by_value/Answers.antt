-- `board_commands::running::run_by_value` meets its contract.
use Rattle.board_commands.proofs.FileRows.{refused_file, run_file_is}
use Rattle.board_commands.proofs.running.run_by_value.Goals as goal

pub returns-in-Ok : goal.returns-in-Ok
returns-in-Ok c =
    let a = c.args in run_file_is a.file.now a.lent.station a.lent.all a.lent.len a.words.now c.in-Ok.ensures _ _ c.run_records.ensures

pub returns-in-Err : goal.returns-in-Err
returns-in-Err c =
    let a = c.args in
    refused_file a.file.now a.lent.station a.lent.all a.lent.len a.words.now _ c.in-Err.ensures c.number.ensures _ c.left_with.ensures
