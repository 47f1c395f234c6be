-- `besklaun::board_files::besklaun_run_board`: the run by value is the run on a bench of its own.
use Rattle.besklaun.proofs.BoardRunLaws.{board_alone}
use Rattle.besklaun.proofs.board_files.besklaun_run_board.Goals as goal

pub returns : goal.returns
returns c = rw c.number_of.ensures (board_alone _ _ _ _ _ _ c.run_listed-out.result _ _ c.empty-held.ensures c.run_listed-out.ensures)
