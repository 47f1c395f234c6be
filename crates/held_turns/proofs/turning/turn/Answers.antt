-- `held_turns::turning::turn` meets its contract: "22 for another, first of all", then "row 9 or one before it".
use Rattle.llsc.specs.Refusals.{refusal_number}
use Rattle.llsc.proofs.RefusalNumbers.{number_some}
use Rattle.held_turns.specs.TurnTold.{next_named}
use Rattle.held_turns.proofs.TurnLaws.{other_done, lent_done}
use Rattle.held_turns.proofs.turning.turn.Goals as goal

pub returns-then-p-gt1 : goal.returns-then-p-gt1
returns-then-p-gt1 c =
    let a = c.args in
    other_done a.held.now a.p (next_named a.kind a.on) a.value.now a.left c.if-p-gt1.true c.refused.ensures

pub returns-in-Err : goal.returns-in-Err
returns-in-Err c =
    let a = c.args in let k = c.in-Err.refusal in
    lent_done a.held.now a.p (next_named a.kind a.on) a.value.now a.left c.if-p-gt1.false (refusal_number k) c.in-Err.ensures (number_some k)
    (rw c.number.ensures at c.refused-in-Err.ensures)
