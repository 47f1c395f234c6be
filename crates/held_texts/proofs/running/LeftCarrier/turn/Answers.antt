-- `held_texts::running`: an entry refused, or made with one command less left (`TurnLaws`).
use mathlib.Core.Path.{◌≡◌, refl, sym, ap, ◌∙◌}
use Rattle.std.proofs.lemmas.Result.{err_from_is_err_and}
use Rattle.llsc.proofs.RefusalNumbers.{number_some}
use Rattle.held_texts.proofs.TurnLaws.{turn_refused, lines_fit, turn_full, some_left, turn_stopped, stopped_sound, turn_made, turn_stays, made_sound}
use Rattle.held_texts.proofs.running.LeftCarrier.turn.Goals as goal

pub returns-in_err-before_entry-clause-is : goal.returns-in_err-before_entry-clause-is
returns-in_err-before_entry-clause-is c =
    let a = c.args in
    let p = err_from_is_err_and c.from_residual.result c.from_residual.ensures.1 in
    let is = turn_refused a.self.now a.done a.traced a.words.now a.to.now a.e (sym (rw c.room_needed.ensures at c.in_err-before_entry.ensures)) in
    rw (p.1, p.2) (record { same = sym is; stays = tt })

pub returns-in_err-if_holds-clause-is : goal.returns-in_err-if_holds-clause-is
returns-in_err-if_holds-clause-is c =
    let a = c.args in
    let p = err_from_is_err_and c.from_residual-in_err-if_holds.result c.from_residual-in_err-if_holds.ensures.1 in
    let passed = sym (rw c.room_needed.ensures at c.in_ok-before_entry.ensures) in
    let is = turn_full a.self.now a.done a.traced a.words.now a.to.now a.e passed c.in_err-if_holds.ensures in
    rw (p.1, p.2) (record { same = sym is; stays = tt })

pub returns-in_err-carry-clause-is : goal.returns-in_err-carry-clause-is
returns-in_err-carry-clause-is c =
    let a = c.args in
    let p = err_from_is_err_and c.from_residual-in_err-carry.result c.from_residual-in_err-carry.ensures.1 in
    let passed = sym (rw c.room_needed.ensures at c.in_ok-before_entry.ensures) in
    let is = turn_stopped a.self.now a.done a.traced a.words.now a.to.now a.e passed (some_left c.in_ok-if_holds.ensures) c.requires.0 c.in_err-carry.ensures refl (number_some _) in
    rw (p.1, p.2) (record { same = sym is; stays = tt })

pub returns-in_err-carry-clause-sound : goal.returns-in_err-carry-clause-sound
returns-in_err-carry-clause-sound c =
    let a = c.args in
    let p = err_from_is_err_and c.from_residual-in_err-carry.result c.from_residual-in_err-carry.ensures.1 in
    let passed = sym (rw c.room_needed.ensures at c.in_ok-before_entry.ensures) in
    rw (p.1, p.2)
    (stopped_sound a.self.now a.done a.traced a.words.now a.to.now a.e passed (some_left c.in_ok-if_holds.ensures) c.requires.0 c.in_err-carry.ensures refl (number_some _))

pub trace-requires : goal.trace-requires
trace-requires c =
    let a = c.args in
    lines_fit a.self.now a.done a.traced a.words.now a.to.now a.e (sym (rw c.room_needed.ensures at c.in_ok-before_entry.ensures)) c.requires.1

pub returns-clause-is : goal.returns-clause-is
returns-clause-is c =
    let a = c.args in
    let passed = sym (rw c.room_needed.ensures at c.in_ok-before_entry.ensures) in
    let some = some_left c.in_ok-if_holds.ensures in
    record {
      same = turn_made a.self.now a.done a.traced a.words.now a.to.now a.e passed some c.requires.0 c.in_ok-carry.ensures refl c.trace.ensures;
      stays = turn_stays a.self.now a.done a.traced a.words.now a.to.now a.e passed some c.requires.0 c.in_ok-carry.ensures refl c.trace.ensures ∙ sym c.stays.ensures;
    }

pub returns-clause-sound : goal.returns-clause-sound
returns-clause-sound c =
    let a = c.args in
    let passed = sym (rw c.room_needed.ensures at c.in_ok-before_entry.ensures) in
    made_sound a.self.now a.done a.traced a.words.now a.to.now a.e passed (some_left c.in_ok-if_holds.ensures) c.requires.0 c.in_ok-carry.ensures refl c.trace.ensures c.requires.1
