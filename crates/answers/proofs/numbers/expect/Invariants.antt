use Rattle.std.proofs.Common.{◌≡◌, drop}
use Rattle.answers.specs.Readers.{expected}
use Rattle.answers.proofs.numbers.expect.Given as goal

abbrev pub invariant-loop-k : goal.invariant-loop-k
invariant-loop-k l = expected (drop l.k-index l.word) l.rest ≡ expected l.word l.text
