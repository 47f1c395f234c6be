-- `logtext::read`: what is left of the text, read on, leads to the same.
use Rattle.logtext.proofs.ReadingLaws.{ReadInv}
use Rattle.logtext.proofs.read.Given as goal

abbrev pub invariant-loop-b : goal.invariant-loop-b
invariant-loop-b l = ReadInv l.text l.initial.numbers l.numbers l.r l.b-index
