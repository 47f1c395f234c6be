-- `board_listing::listed::run_file`: refused by its rows, or run.
use Rattle.board_listing.proofs.ListedLaws.{file_refused, file_run_is}
use Rattle.board_listing.proofs.listed.run_file.Goals as goal

pub returns-in-Ok : goal.returns-in-Ok
returns-in-Ok c =
    let x = c.args in
    file_run_is x.held x.words.now x.file.now x.list.now c.in-Ok.ensures c.obey_records-done.ensures c.close.ensures

pub returns-in-Err : goal.returns-in-Err
returns-in-Err c =
    let x = c.args in
    file_refused x.held x.words.now x.file.now x.list.now _ c.in-Err.ensures c.refused.ensures
