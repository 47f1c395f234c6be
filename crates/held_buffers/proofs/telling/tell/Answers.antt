-- `held_buffers::telling::tell` meets its contract: refused by the first row that holds, or told.
use mathlib.Core.Path.{sym}
use Rattle.held_buffers.proofs.ToldLaws.{tellable, told_done}
use Rattle.held_buffers.proofs.telling.tell.Goals as goal

pub note_in-requires : goal.note_in-requires
note_in-requires c = let a = c.args in tellable a.held.now a.on a.out.now (sym c.in-Ok.ensures)

pub returns-in-Ok : goal.returns-in-Ok
returns-in-Ok c = told_done (sym c.in-Ok.ensures) c.note_in.ensures
