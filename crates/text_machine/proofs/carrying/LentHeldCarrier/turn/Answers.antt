-- `text_machine::carrying::LentHeldCarrier::turn`: the entry refused, or obeyed on the places taken out for it
-- (`TurnLaws`).
use mathlib.Core.Path.{◌≡◌, refl, sym, ◌∙◌}
use native.Mathlib.Omega.{arith}
use lib.ListN.{get_or}
use Rattle.std.proofs.lemmas.Result.{err_from_is_err_and}
use Rattle.llsc.proofs.RefusalNumbers.{number_some}
use Rattle.model.specs.Records.{no_process}
use Rattle.taken.specs.Taken.{taken_at}
use Rattle.whole_runs.specs.Carrying.{in_run}
use Rattle.text_entry.specs.RunState.{RunState}
use Rattle.text_machine.specs.Carried.{lent_state}
use Rattle.text_machine.proofs.TurnLaws.{Looking, looking, turn_refused, turn_sized, turn_bank, turn_help, taken_at_lem, turnable, turn_made, turn_stays}
use Rattle.text_machine.proofs.carrying.LentHeldCarrier.turn.Goals as goal
use Rattle.text_machine.proofs.carrying.LentHeldCarrier.turn.Goals.{After-refusal, After-places-places}

abbrev state : After-refusal → RunState
state c = let a = c.args in lent_state (in_run a.self.now a.done a.traced) 0 a.words.now a.to.now

-- what the code has in its hands when it looks for a refusal
looked : (c : After-refusal) → let h = c.args.self.now in let own = get_or h.held.all c.record_place.result no_process in
    Looking h.len h.held.bench.n h.held.bench.w c.room_needed-needed.result (state c) c.args.e c.process_of-p.result
    c.process_number-k.result own c.order_of-order.result
looked c =
    looking c.requires.0 refl c.requires.1 c.room_needed-needed.ensures c.process_of-p.ensures c.process_number-k.ensures
    c.record_place.ensures c.order_of-order.ensures

-- and what it has taken out when nothing refuses
took : (c : After-places-places) → c.places-places.result ≡ taken_at c.args.self.now.held.bench c.bank_index-i.result c.help_index-j.result
took c = taken_at_lem c.args.self.now.held.bench c.bank_place.ensures c.help_place.ensures c.places-places.ensures

pub returns-in_err-refusal-clause-is : goal.returns-in_err-refusal-clause-is
returns-in_err-refusal-clause-is c =
    let x = looked (goal.at.returns-in_err-refusal-clause-is c).After-refusal in
    let p = err_from_is_err_and c.from_residual.result c.from_residual.ensures.1 in
    let stops = turn_refused x c.in_err-refusal.ensures (number_some _) in
    rw (p.1, p.2) (record { same = stops.same; stays = tt })

pub returns-in_err-refusal-clause-sound : goal.returns-in_err-refusal-clause-sound
returns-in_err-refusal-clause-sound c =
    let x = looked (goal.at.returns-in_err-refusal-clause-sound c).After-refusal in
    let p = err_from_is_err_and c.from_residual.result c.from_residual.ensures.1 in
    rw (p.1, p.2) (turn_refused x c.in_err-refusal.ensures (number_some _)).kept.sound

pub bank_index-i-requires : goal.bank_index-i-requires
bank_index-i-requires c = turn_sized (looked (goal.at.bank_index-i-requires c).After-refusal) (sym c.in_ok-refusal.ensures)

pub help_index-j-requires : goal.help_index-j-requires
help_index-j-requires c = turn_sized (looked (goal.at.help_index-j-requires c).After-refusal) (sym c.in_ok-refusal.ensures)

-- `bench.bank[tables::bank_place(i)]`, where the place is taken out
pub bounds-self-bank_place : goal.bounds-self-bank_place
bounds-self-bank_place c =
    let x = looked (goal.at.bounds-self-bank_place c).After-refusal in
    omega (arith, turn_bank x (sym c.in_ok-refusal.ensures) c.bank_index-i.ensures c.help_index-j.ensures, c.bank_place.ensures)

-- `bench.help[tables::help_place(j)]`, where the place is taken out
pub bounds-self-help_place : goal.bounds-self-help_place
bounds-self-help_place c =
    let x = looked (goal.at.bounds-self-help_place c).After-refusal in
    omega (arith, turn_help x (sym c.in_ok-refusal.ensures) c.bank_index-i.ensures c.help_index-j.ensures, c.help_place.ensures)

pub carry-turn-requires : goal.carry-turn-requires
carry-turn-requires c =
    let at = goal.at.carry-turn-requires c in
    turnable (looked at.After-refusal) (sym c.in_ok-refusal.ensures) c.bank_index-i.ensures c.help_index-j.ensures
    (took at.After-places-places) (refl, refl)

-- `bench.bank[tables::bank_place(i)] = turn.taken.bank`
pub bounds-self-bank_place-2 : goal.bounds-self-bank_place-2
bounds-self-bank_place-2 c =
    let x = looked (goal.at.bounds-self-bank_place-2 c).After-refusal in
    omega (arith, turn_bank x (sym c.in_ok-refusal.ensures) c.bank_index-i.ensures c.help_index-j.ensures, c.bank_place-2.ensures)

-- `bench.help[tables::help_place(j)] = turn.taken.help`
pub bounds-self-help_place-2 : goal.bounds-self-help_place-2
bounds-self-help_place-2 c =
    let x = looked (goal.at.bounds-self-help_place-2 c).After-refusal in
    omega (arith, turn_help x (sym c.in_ok-refusal.ensures) c.bank_index-i.ensures c.help_index-j.ensures, c.help_place-2.ensures)

pub returns-clause-is : goal.returns-clause-is
returns-clause-is c =
    let at = goal.at.returns-clause-is c in
    let x = looked at.After-refusal in let f = sym c.in_ok-refusal.ensures in let t = took at.After-places-places in
    let made = turn_made x f c.bank_index-i.ensures c.help_index-j.ensures t (refl, refl) c.carry-turn.ensures in
    let stays = turn_stays x f c.bank_index-i.ensures c.help_index-j.ensures t (refl, refl) c.carry-turn.ensures in
    rw (c.bank_place-2.ensures, c.help_place-2.ensures, c.record_place-2.ensures)
    (record { same = made.same; stays = stays ∙ sym c.stays.ensures })

pub returns-clause-sound : goal.returns-clause-sound
returns-clause-sound c =
    let at = goal.at.returns-clause-sound c in
    let x = looked at.After-refusal in let f = sym c.in_ok-refusal.ensures in let t = took at.After-places-places in
    let made = turn_made x f c.bank_index-i.ensures c.help_index-j.ensures t (refl, refl) c.carry-turn.ensures in
    rw (c.bank_place-2.ensures, c.help_place-2.ensures, c.record_place-2.ensures) made.kept.sound
