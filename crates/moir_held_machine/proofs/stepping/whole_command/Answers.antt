-- `moir_held_machine::stepping::whole_command` meets its contract: row 9 holds of nothing, or it refuses.
use mathlib.Core.Path.{refl, sym}
use Rattle.llsc.specs.Refusals.{refusal_number}
use Rattle.llsc.proofs.RefusalNumbers.{number_some}
use Rattle.moir_held_machine.proofs.SteppingLaws.{command_refused, command_passed}
use Rattle.moir_held_machine.proofs.stepping.whole_command.Goals as goal

pub returns-in-Ok : goal.returns-in-Ok
returns-in-Ok c = command_passed (sym c.in-Ok.ensures) c.near_command.ensures

pub returns-in-Err : goal.returns-in-Err
returns-in-Err c =
    let k = c.in-Err.refusal in
    command_refused (refusal_number k) c.in-Err.ensures (number_some k) (rw c.number.ensures at c.refused.ensures) refl
