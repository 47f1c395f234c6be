-- `moir_held_machine::setting::prepare` meets its contract: the numbers, and then the words.
use Rattle.moir_held_machine.proofs.SettingLaws.{head_length, memory_set, marks_set}
use Rattle.moir_held_machine.proofs.setting.prepare.Goals as goal

pub write_head-requires : goal.write_head-requires
write_head-requires c = (c.requires.accepted.n_most, (c.requires.accepted.w_most, c.requires.long))

pub write_words-requires : goal.write_words-requires
write_words-requires c =
    let a = c.args in let l = a.held.now in let x = c.requires.accepted in
    rw (c.write_head.ensures, head_length l a.n a.w x.n_most x.w_most c.requires.long) (c.requires.long, x)

pub returns-clause-memory : goal.returns-clause-memory
returns-clause-memory c =
    let a = c.args in let x = c.requires.accepted in
    memory_set a.held.now a.n a.w x.n_most x.w_most c.requires.long _ a.value.now (rw c.write_head.ensures at c.write_words.ensures)

pub returns-clause-marks : goal.returns-clause-marks
returns-clause-marks c =
    let a = c.args in let x = c.requires.accepted in
    marks_set a.held.now a.n a.w x.n_most x.w_most c.requires.long _ a.value.now (rw c.write_head.ensures at c.write_words.ensures)
