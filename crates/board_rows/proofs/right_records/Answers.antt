-- `board_rows::right_records` meets its contract: the rows in order.
use mathlib.Core.Path.{sym, ◌∙◌}
use Rattle.boards.proofs.RefusalLaws.{its_records}
use Rattle.board_rows.proofs.FileRows.{right_file}
use Rattle.board_rows.proofs.right_records.Goals as goal

pub returns : goal.returns
returns c =
    let r = its_records _ c.args.file.now c.records_of.ensures _ c.in_ok-records.ensures.value in
    right_file c.args.file.now r (sym c.good_records.ensures ∙ c.if-not-good_records.false)
