-- `held_texts::starting`: the set-up of a text's run, refused by the lengths, or done.
use mathlib.Core.Path.{◌≡◌, refl}
use Prim.Native.Nat.{ℕ}
use Rattle.std.proofs.lemmas.Result.{err_from_is_err_and}
use Rattle.text_entry.proofs.WordLaws.{prefix_length}
use Rattle.held_texts.proofs.CommandLaws.{row_length}
use Rattle.held_texts.proofs.StartLaws.{set_up_refused, w_most, set_up_done, set_up_sound}
use Rattle.held_texts.proofs.starting.LeftStarter.set_up.Goals as goal

pub returns-in_err-set_up_refusal-clause-is : goal.returns-in_err-set_up_refusal-clause-is
returns-in_err-set_up_refusal-clause-is c =
    let a = c.args in
    let p = err_from_is_err_and c.from_residual.result c.from_residual.ensures.1 in
    rw (p.1, p.2) (set_up_refused a.first a.words.now a.self.now (rw c.room.ensures at c.in_err-set_up_refusal.ensures))

pub slice_bounds-value-end : goal.slice_bounds-value-end
slice_bounds-value-end c =
    let a = c.args in
    row_length c.repeated-value.ensures refl (w_most a.first a.words.now (rw c.room.ensures at c.in_ok-set_up_refusal.ensures))

pub slice_bounds-set_up-end : goal.slice_bounds-set_up-end
slice_bounds-set_up-end c =
    let a = c.args in
    prefix_length (w_most a.first a.words.now (rw c.room.ensures at c.in_ok-set_up_refusal.ensures)) c.repeated-value.ensures

pub returns-clause-is : goal.returns-clause-is
returns-clause-is c =
    let a = c.args in
    set_up_done a.first a.words.now (rw c.room.ensures at c.in_ok-set_up_refusal.ensures) c.repeated-value.ensures c.set_up.ensures a.self.now

pub returns-clause-sound : goal.returns-clause-sound
returns-clause-sound c =
    let a = c.args in
    set_up_sound a.first a.words.now (rw c.room.ensures at c.in_ok-set_up_refusal.ensures) c.repeated-value.ensures c.set_up.ensures a.self.now
