-- `text_machine::starter::LentHeldStarter::set_up`: refused by the lengths of what is lent, or done (`StarterLaws`).
use mathlib.Core.Path.{refl, ap, subst, ◌∙◌}
use Prim.Native.Nat.{ℕ}
use native.Mathlib.Omega.{arith}
use lib.ListN.{length, length-replicate}
use lib.Seq.{length-sets}
use Rattle.std.proofs.lemmas.Result.{err_from_is_err_and}
use Rattle.text_entry.specs.declared.state.Held.{Held}
use Rattle.setup.specs.SetUpByValue.{Accepted}
use Rattle.text_entry.proofs.WordLaws.{prefix_length}
use Rattle.text_machine.proofs.StarterLaws.{set_up_refused, accepted, set_up_done, set_up_sound, set_up_filled}
use Rattle.text_machine.proofs.starter.LentHeldStarter.set_up.Goals as goal
use Rattle.text_machine.proofs.starter.LentHeldStarter.set_up.Goals.{In_ok-set_up_refusal}

acceptable : (c : In_ok-set_up_refusal) → let f = c.args.first in Accepted f.n f.w (length c.args.words.now) f.w
acceptable c =
    let h = c.args.self.now in
    accepted c.args.first h.held h.len c.args.words.now c.requires.0.0 c.requires.0.1 c.requires.1 c.in_ok-set_up_refusal.ensures

pub returns-in_err-set_up_refusal-clause-is : goal.returns-in_err-set_up_refusal-clause-is
returns-in_err-set_up_refusal-clause-is c =
    let a = c.args in
    let h = a.self.now in
    let p = err_from_is_err_and c.from_residual.result c.from_residual.ensures.1 in
    let refused = set_up_refused a.first h.held h.len a.words.now c.requires.0.0 c.requires.0.1 c.in_err-set_up_refusal.ensures in
    rw (p.1, p.2) refused

pub slice_bounds-value-end : goal.slice_bounds-value-end
slice_bounds-value-end c =
    let a = c.args in
    let ok = acceptable (goal.at.slice_bounds-value-end c).In_ok-set_up_refusal in
    omega (arith, ap length c.repeated-value.ensures, length-replicate 64 a.first.initial, ok.w_most)

pub slice_bounds-words_at_set_up-end : goal.slice_bounds-words_at_set_up-end
slice_bounds-words_at_set_up-end c =
    let ok = acceptable (goal.at.slice_bounds-words_at_set_up-end c).In_ok-set_up_refusal in
    prefix_length ok.w_most c.repeated-value.ensures

pub words_at_set_up-requires : goal.words_at_set_up-requires
words_at_set_up-requires c =
    let a = c.args in
    let ok = acceptable (goal.at.words_at_set_up-requires c).In_ok-set_up_refusal in
    subst (λ (j : ℕ). Accepted a.first.n a.first.w (length a.words.now) j) (prefix_length ok.w_most c.repeated-value.ensures) ok

pub invariant_of-at_set_up : goal.invariant_of-at_set_up
invariant_of-at_set_up c =
    let ok = acceptable (goal.at.invariant_of-at_set_up c).In_ok-set_up_refusal in
    record { most = ok.n_most }

pub returns-clause-is : goal.returns-clause-is
returns-clause-is c =
    let a = c.args in
    let h = a.self.now in
    let made = c.at_set_up-self.ensures in
    set_up_done a.first h.held h.len a.words.now c.requires.0.0 c.requires.0.1 c.requires.1 c.in_ok-set_up_refusal.ensures
    (ap (λ (h : Held). h.bench) made.is) (ap (λ (h : Held). h.all) made.is) c.words_at_set_up.ensures c.repeated-value.ensures

pub returns-clause-sound : goal.returns-clause-sound
returns-clause-sound c =
    let a = c.args in
    let h = a.self.now in
    let made = c.at_set_up-self.ensures in
    set_up_sound a.first h.held h.len a.words.now c.requires.0.0 c.requires.0.1 c.requires.1 c.in_ok-set_up_refusal.ensures
    (ap (λ (h : Held). h.bench) made.is) (ap (λ (h : Held). h.all) made.is) c.words_at_set_up.ensures c.repeated-value.ensures (record { bank = made.shaped.bank; help = made.shaped.help })

pub returns-clause-kept : goal.returns-clause-kept
returns-clause-kept c =
    let a = c.args in
    let h = a.self.now in
    let made = c.at_set_up-self.ensures in
    let filled = set_up_filled a.first h.held h.len a.words.now c.requires.0.0 c.requires.0.1 c.requires.1 c.in_ok-set_up_refusal.ensures
    (ap (λ (h : Held). h.bench) made.is) (ap (λ (h : Held). h.all) made.is) c.words_at_set_up.ensures c.repeated-value.ensures (record { bank = made.shaped.bank; help = made.shaped.help }) in
    (ap length c.words_at_set_up.ensures ∙ simp length-sets, (c.requires.0.0, filled), refl)
