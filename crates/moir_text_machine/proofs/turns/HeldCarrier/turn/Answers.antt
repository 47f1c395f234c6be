-- `moir_text_machine::turns::HeldCarrier::turn`: 12, 14, the rows of the command, or the entry carried out.
use mathlib.Core.Path.{◌≡◌, refl, sym, ap, subst, ◌∙◌}
use Prim.Native.Nat.{◌+◌}
use lib.ListN.{length}
use Rattle.std.proofs.lemmas.Result.{err_from_is_err_and}
use Rattle.llsc.proofs.RefusalNumbers.{number_some}
use Rattle.whole_runs.specs.Carrying.{in_run}
use Rattle.text_runs.specs.TextRun as T
use Rattle.moir_text_model.specs.TextRun.{Progress, figure6}
use Rattle.moir_text_machine.specs.RunState.{progress, Sound}
use Rattle.moir_text_machine.proofs.EntryLaws.{goes_stays}
use Rattle.moir_text_machine.proofs.TurnLaws.{number_as, let_through, turn_refused_is, turn_free, turn_made, sound_single, single_words, single_listing}
use Rattle.moir_text_machine.proofs.turns.HeldCarrier.turn.Goals as goal
use Rattle.moir_text_machine.proofs.turns.HeldCarrier.turn.Goals.{After-accepted}

-- where nothing refuses the entry, it is carried out
made : (c : After-accepted) → let a = c.args in let new = c.accepted.new in
    progress (in_run new.held (a.done + 1) a.traced) 0 new.words new.to
    ≡ T.single figure6 a.e (progress (in_run a.self.now a.done a.traced) 0 a.words.now a.to.now)
made c =
    let e = c.args.e in
    let free = let_through e c.requires.0 refl c.requires.1 c.in_ok-before_entry.ensures c.room_needed-needed.ensures in
    c.accepted.ensures.is ∙ turn_made e c.requires.0 refl c.requires.1 free.0 free.1

pub returns-in_err-refusal-clause-is : goal.returns-in_err-refusal-clause-is
returns-in_err-refusal-clause-is c =
    let a = c.args in
    let p = err_from_is_err_and c.from_residual-in_err-refusal.result c.from_residual-in_err-refusal.ensures.1 in
    let free = let_through a.e c.requires.0 refl c.requires.1 c.in_ok-before_entry.ensures c.room_needed-needed.ensures in
    let stops = turn_refused_is a.e c.requires.0 refl c.requires.1 free.0 free.1
    (number_as a.e c.requires.0 c.in_err-refusal.ensures c.process_of-p.ensures c.order_of-order.ensures c.words_of-count.ensures)
    (number_some _) in
    rw (p.1, p.2) (record { same = stops; stays = tt })

pub returns-in_err-refusal-clause-sound : goal.returns-in_err-refusal-clause-sound
returns-in_err-refusal-clause-sound c =
    let a = c.args in
    let p = err_from_is_err_and c.from_residual-in_err-refusal.result c.from_residual-in_err-refusal.ensures.1 in
    let free = let_through a.e c.requires.0 refl c.requires.1 c.in_ok-before_entry.ensures c.room_needed-needed.ensures in
    let stops = turn_refused_is a.e c.requires.0 refl c.requires.1 free.0 free.1
    (number_as a.e c.requires.0 c.in_err-refusal.ensures c.process_of-p.ensures c.order_of-order.ensures c.words_of-count.ensures)
    (number_some _) in
    rw (p.1, p.2) (subst Sound (sym stops) (sound_single a.e c.requires.0 refl c.requires.1))

pub accepted-requires : goal.accepted-requires
accepted-requires c =
    let e = c.args.e in
    let free = let_through e c.requires.0 refl c.requires.1 c.in_ok-before_entry.ensures c.room_needed-needed.ensures in
    turn_free e c.requires.0 refl c.requires.1 free.0 free.1
    (sym (number_as e c.requires.0 c.in_ok-refusal.ensures c.process_of-p.ensures c.order_of-order.ensures c.words_of-count.ensures))

pub returns-clause-is : goal.returns-clause-is
returns-clause-is c =
    let a = c.args in let new = c.accepted.new in
    let stays = goes_stays a.e (progress (in_run new.held (a.done + 1) a.traced) 0 new.words new.to) refl in
    record { same = made (goal.at.returns-clause-is c).After-accepted; stays = stays ∙ sym c.stays.ensures }

pub returns-clause-sound : goal.returns-clause-sound
returns-clause-sound c =
    subst Sound (sym (made (goal.at.returns-clause-sound c).After-accepted)) (sound_single c.args.e c.requires.0 refl c.requires.1)

pub returns-clause-kept : goal.returns-clause-kept
returns-clause-kept c =
    let a = c.args in
    let is = made (goal.at.returns-clause-kept c).After-accepted in
    let before = progress (in_run a.self.now a.done a.traced) 0 a.words.now a.to.now in (
      record {
        words = ap (λ (x : Progress). length x.memory.words) is ∙ single_words a.e before;
        listing = ap (λ (x : Progress). length x.listing) is ∙ single_listing a.e before;
        same = c.accepted.ensures.same_list;
      },
      refl,
    )
