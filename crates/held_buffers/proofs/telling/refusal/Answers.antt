-- `held_buffers::telling::refusal` meets its contract: the first of rows 1, 2, 23 and 3 that holds answers.
use mathlib.Core.Path.{sym, ◌∙◌}
use Rattle.llsc.specs.Refusals.{refusal_number}
use Rattle.llsc.proofs.RefusalNumbers.{number_some}
use Rattle.held_rows.proofs.ListLaws.{lent_list}
use Rattle.held_buffers.proofs.ToldLaws.{lent_refuses, late_refuses}
use Rattle.held_buffers.proofs.telling.refusal.Goals as goal

pub late_refusal-requires : goal.late_refusal-requires
late_refusal-requires c = lent_list c.args.held.now (sym c.in-Ok.ensures)

pub returns-in-Ok : goal.returns-in-Ok
returns-in-Ok c = let a = c.args in c.late_refusal.ensures ∙ late_refuses a.held.now a.on a.room (sym c.in-Ok.ensures)

pub returns-in-Err : goal.returns-in-Err
returns-in-Err c =
    let a = c.args in let k = c.in-Err.refusal in
    lent_refuses a.held.now a.on a.room (refusal_number k) c.in-Err.ensures (number_some k)
