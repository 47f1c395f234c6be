-- `moir_held_rows::table::near_refusal` meets its contract: where one of rows 1, 2 and 3 holds, it answers.
use Rattle.llsc.specs.Refusals.{refusal_number}
use Rattle.llsc.proofs.RefusalNumbers.{number_some}
use Rattle.moir_held_rows.proofs.NearRowLaws.{near_refused}
use Rattle.moir_held_rows.proofs.table.near_refusal.Goals as goal

pub returns-in-Err : goal.returns-in-Err
returns-in-Err c =
    let a = c.args in let k = c.in-Err.refusal in
    near_refused a.held.now a.p a.order a.value.now (refusal_number k) c.in-Err.ensures (number_some k)
