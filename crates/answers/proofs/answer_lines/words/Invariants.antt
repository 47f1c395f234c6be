use Rattle.std.proofs.Common.{◌≡◌, ◌-◌}
use Rattle.answers.specs.Readers.{words_in}
use Rattle.answers.proofs.answer_lines.words.Given as goal

abbrev pub invariant-loop-i : goal.invariant-loop-i
invariant-loop-i l = words_in (l.w - l._i) l.rest ≡ words_in l.w l.text
