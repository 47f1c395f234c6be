-- `moir_held_machine::obeying::obey` meets its contract: what no row refuses can be read, obeyed and written back.
use mathlib.Core.Path.{sym, ap, subst, ◌∙◌}
use mathlib.Core.List.{List}
use Prim.Native.Nat.{ℕ}
use Rattle.moir_held_model.specs.HeldCommand.{MarksAfter}
use Rattle.moir_held_model.specs.Memory.{memory_of}
use Rattle.moir_held_machine.proofs.ObeyLaws.{p_in, k_in, own_fits, head_fits, seen_fits, obeyable, obey_law, obey_marks}
use Rattle.moir_held_machine.proofs.obeying.obey.Goals as goal

pub process_at-process-requires : goal.process_at-process-requires
process_at-process-requires c =
    let a = c.args in let l = a.held.now in let v = a.value.now in
    (p_in l a.p a.order v c.requires, (c.requires.list.long, own_fits l a.p a.order v c.requires))

pub bench_at-bench-requires : goal.bench_at-bench-requires
bench_at-bench-requires c =
    let a = c.args in let l = a.held.now in let v = a.value.now in
    rw c.process_at-process.ensures
    (k_in l a.p a.order v c.requires, (c.requires.list.long, (head_fits l a.p a.order v c.requires, seen_fits l a.p a.order v c.requires)))

pub on_words-moved-requires : goal.on_words-moved-requires
on_words-moved-requires c =
    let a = c.args in let l = a.held.now in let v = a.value.now in
    rw (c.bench_at-bench.ensures, c.process_at-process.ensures) (c.requires.list.long, obeyable l a.p a.order v c.requires)

pub write_back-requires : goal.write_back-requires
write_back-requires c =
    let a = c.args in let l = a.held.now in let v = a.value.now in
    rw (c.process_at-process.ensures, c.on_words-moved.ensures.length_stays) (p_in l a.p a.order v c.requires, (k_in l a.p a.order v c.requires, c.requires.list.long))

pub returns-clause-done : goal.returns-clause-done
returns-clause-done c =
    let a = c.args in let l = a.held.now in let v = a.value.now in
    let on = rw (c.bench_at-bench.ensures, c.process_at-process.ensures) at c.on_words-moved.ensures in
    let left = rw c.process_at-process.ensures at c.write_back.ensures in
    ap (λ (z : List ℕ). (c.on_words-moved.result.reply, memory_of z)) left ∙ obey_law l a.p a.order v c.requires on

pub returns-clause-marks : goal.returns-clause-marks
returns-clause-marks c =
    let a = c.args in let l = a.held.now in let v = a.value.now in
    let on = rw (c.bench_at-bench.ensures, c.process_at-process.ensures) at c.on_words-moved.ensures in
    let left = rw c.process_at-process.ensures at c.write_back.ensures in
    subst (λ (z : List ℕ). MarksAfter l z a.p) (sym left) (obey_marks l a.p a.order a.value.now c.requires on)
