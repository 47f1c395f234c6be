-- `moir_held_machine::setting::set_up` meets its contract: refused by the lengths, or done.
use mathlib.Core.Path.{sym, ◌∙◌}
use Rattle.llsc.proofs.RefusalNumbers.{number_some}
use Rattle.moir_held_machine.proofs.SettingLaws.{room, set_up_refused, set_up_done}
use Rattle.moir_held_machine.proofs.setting.set_up.Goals as goal

pub prepare-requires : goal.prepare-requires
prepare-requires c =
    let a = c.args in
    room a.held.now a.n a.w a.value.now (sym (rw c.lent-lent.ensures at c.in-Ok.ensures))

pub returns-in-Ok : goal.returns-in-Ok
returns-in-Ok c =
    let a = c.args in
    set_up_done a.held.now a.n a.w a.value.now c.prepare.new.held (sym (rw c.lent-lent.ensures at c.in-Ok.ensures)) c.prepare.ensures.memory c.prepare.ensures.marks

pub returns-in-Err : goal.returns-in-Err
returns-in-Err c =
    let a = c.args in
    set_up_refused a.held.now a.n a.w a.value.now c.number.result (c.number.ensures ∙ rw c.lent-lent.ensures at c.in-Err.ensures) (λ z. number_some c.in-Err.refusal (sym c.number.ensures ∙ z))
