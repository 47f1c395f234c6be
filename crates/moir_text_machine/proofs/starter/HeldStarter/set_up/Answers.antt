-- `moir_text_machine::starter::HeldStarter::set_up`: refused by the lengths of what is lent, or done (`SetUpLaws`).
use mathlib.Core.Path.{◌≡◌, ap, subst}
use Prim.Native.Nat.{ℕ}
use native.Mathlib.Omega.{arith}
use lib.ListN.{length, replicate, length-replicate}
use Rattle.std.proofs.lemmas.Result.{err_from_is_err_and}
use Rattle.moir_model.specs.SetUp.{at_set_up}
use Rattle.moir_machine.specs.SetUpByValue.{Accepted}
use Rattle.moir_text_machine.specs.RunState.{memory_of}
use Rattle.moir_text_machine.proofs.SetUpLaws.{prefix_length, made_memory, set_up_refused, accepted, records_lent, set_up_done, set_up_sound}
use Rattle.moir_text_machine.proofs.starter.HeldStarter.set_up.Goals as goal
use Rattle.moir_text_machine.proofs.starter.HeldStarter.set_up.Goals.{In_ok-set_up_refusal, After-records_at_set_up-self}

acceptable : (c : In_ok-set_up_refusal) → let f = c.args.first in Accepted f.n f.w (length c.args.words.now) f.w
acceptable c =
    let a = c.args in accepted a.first (memory_of a.self.now a.words.now) (omega arith) c.in_ok-set_up_refusal.ensures

-- bench, records and words as they are left
made : (c : After-records_at_set_up-self) → let a = c.args in let f = a.first in
    memory_of (record { bench = c.bench_at_set_up-self.result; all = c.records_at_set_up-self.result }) c.words_at_set_up.new.words
    ≡ at_set_up (memory_of a.self.now a.words.now) f.n f.w (replicate f.w f.initial)
made c =
    let a = c.args in
    let ok = accepted a.first (memory_of a.self.now a.words.now) (omega arith) c.in_ok-set_up_refusal.ensures in
    made_memory a.self.now a.words.now ok.w_most c.bench_at_set_up-self.ensures c.records_at_set_up-self.ensures.is
    c.words_at_set_up.ensures c.repeated-value.ensures

pub returns-in_err-set_up_refusal-clause-is : goal.returns-in_err-set_up_refusal-clause-is
returns-in_err-set_up_refusal-clause-is c =
    let a = c.args in
    let p = err_from_is_err_and c.from_residual.result c.from_residual.ensures.1 in
    let refused = set_up_refused a.first (memory_of a.self.now a.words.now) (omega arith) c.in_err-set_up_refusal.ensures in
    rw (p.1, p.2) refused

pub slice_bounds-value-end : goal.slice_bounds-value-end
slice_bounds-value-end c =
    let a = c.args in
    let ok = acceptable (goal.at.slice_bounds-value-end c).In_ok-set_up_refusal in
    omega (arith, ap length c.repeated-value.ensures, length-replicate 64 a.first.initial, ok.w_most)

pub words_at_set_up-requires : goal.words_at_set_up-requires
words_at_set_up-requires c =
    let a = c.args in
    let ok = acceptable (goal.at.words_at_set_up-requires c).In_ok-set_up_refusal in
    subst (λ (j : ℕ). Accepted a.first.n a.first.w (length a.words.now) j) (prefix_length ok.w_most c.repeated-value.ensures) ok

pub slice_bounds-words_at_set_up-end : goal.slice_bounds-words_at_set_up-end
slice_bounds-words_at_set_up-end c =
    let ok = acceptable (goal.at.slice_bounds-words_at_set_up-end c).In_ok-set_up_refusal in
    prefix_length ok.w_most c.repeated-value.ensures

pub invariant_of-bench_at_set_up : goal.invariant_of-bench_at_set_up
invariant_of-bench_at_set_up c =
    let ok = acceptable (goal.at.invariant_of-bench_at_set_up c).In_ok-set_up_refusal in
    record { most = ok.w_most }

pub records_at_set_up-self-requires : goal.records_at_set_up-self-requires
records_at_set_up-self-requires c =
    let a = c.args in
    records_lent a.first (memory_of a.self.now a.words.now) (omega arith) c.in_ok-set_up_refusal.ensures

pub returns-clause-is : goal.returns-clause-is
returns-clause-is c =
    set_up_done c.args.first (memory_of c.args.self.now c.args.words.now) (omega arith) c.in_ok-set_up_refusal.ensures
    (made (goal.at.returns-clause-is c).After-records_at_set_up-self)

pub returns-clause-sound : goal.returns-clause-sound
returns-clause-sound c =
    set_up_sound c.args.first (memory_of c.args.self.now c.args.words.now) (omega arith) c.in_ok-set_up_refusal.ensures c.requires.1
    c.records_at_set_up-self.ensures.sixteen (made (goal.at.returns-clause-sound c).After-records_at_set_up-self)
