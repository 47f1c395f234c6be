-- `held_machine::stepping::near` meets its contract: the first row that holds refuses it, or it is obeyed.
use mathlib.Core.Path.{refl, sym}
use Rattle.llsc.specs.Refusals.{refusal_number}
use Rattle.llsc.proofs.RefusalNumbers.{number_some}
use Rattle.held_machine.proofs.SteppingLaws.{step_refused}
use Rattle.held_machine.proofs.stepping.near.Goals as goal

pub obeyed-requires : goal.obeyed-requires
obeyed-requires c = sym c.in-Ok.ensures

pub returns-in-Err : goal.returns-in-Err
returns-in-Err c =
    let k = c.in-Err.refusal in
    step_refused (refusal_number k) c.in-Err.ensures (number_some k) (rw c.number.ensures at c.refused.ensures) refl
