-- `moir_text_machine::turns::accepted`: the order obeyed, its lines written, its record stored.
use mathlib.Core.Path.{refl, ap}
use Prim.Native.Nat.{ℕ}
use native.Mathlib.Omega.{arith}
use lib.ListN.{set}
use Rattle.std.proofs.Common.{rules}
use Rattle.text_runs.proofs.ShownLaws.{shown_if}
use Rattle.moir_text_machine.proofs.TurnLaws.{own_at, process_few, ready_as, obeyable_as, shown_room, listable_as}
use Rattle.moir_text_machine.proofs.TurnLaws.{carried_as}
use Rattle.moir_text_machine.proofs.turns.accepted.Goals as goal

pub overflow_cast-own : goal.overflow_cast-own
overflow_cast-own c = omega (arith, process_few c.requires c.process_of-p.ensures)

pub offset_bounds-held-place : goal.offset_bounds-held-place
offset_bounds-held-place c = omega (arith, c.record_place-place.ensures, process_few c.requires c.process_of-p.ensures)

pub bounds-held-place : goal.bounds-held-place
bounds-held-place c = rw c.record_place-place.ensures (process_few c.requires c.process_of-p.ensures)

pub then-access-requires : goal.then-access-requires
then-access-requires c =
    let ready = ready_as c.requires c.process_of-p.ensures (own_at c.args.held.now.all c.record_place-place.ensures) in
    search rules

pub obeyed-moved-requires : goal.obeyed-moved-requires
obeyed-moved-requires c =
    obeyable_as c.requires c.process_of-p.ensures (own_at c.args.held.now.all c.record_place-place.ensures)

pub trace_line-requires : goal.trace_line-requires
trace_line-requires c =
    shown_room c.requires c.process_of-p.ensures (own_at c.args.held.now.all c.record_place-place.ensures)
    c.obeyed-moved.ensures (shown_if c.then-access.result (λ a q. search rules) c.then-access.ensures.variant c.then-access.ensures.some)
    c.answers.ensures (record { list = refl; place = refl })

pub answer_line-requires : goal.answer_line-requires
answer_line-requires c =
    listable_as c.requires c.process_of-p.ensures (own_at c.args.held.now.all c.record_place-place.ensures)
    c.obeyed-moved.ensures (shown_if c.then-access.result (λ a q. search rules) c.then-access.ensures.variant c.then-access.ensures.some)
    c.answers.ensures (record { list = refl; place = refl }) c.trace_line.ensures

-- `held.all[place] = moved.process`
pub offset_bounds-held-place-2 : goal.offset_bounds-held-place-2
offset_bounds-held-place-2 c = omega (arith, c.record_place-place.ensures, process_few c.requires c.process_of-p.ensures)

pub bounds-held-place-2 : goal.bounds-held-place-2
bounds-held-place-2 c = rw c.record_place-place.ensures (process_few c.requires c.process_of-p.ensures)

pub returns-clause-is : goal.returns-clause-is
returns-clause-is c =
    carried_as c.requires c.process_of-p.ensures (own_at c.args.held.now.all c.record_place-place.ensures)
    c.obeyed-moved.ensures (shown_if c.then-access.result (λ a q. search rules) c.then-access.ensures.variant c.then-access.ensures.some)
    c.answers.ensures (record { list = refl; place = refl }) c.trace_line.ensures c.answer_line.ensures
    (ap (λ (i : ℕ). set c.args.held.now.all i c.obeyed-moved.result.process) c.record_place-place.ensures)
