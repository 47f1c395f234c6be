use Rattle.std.proofs.Common.{length}
use Rattle.answers.proofs.WholeLaws.{Summing}
use Rattle.answers.proofs.whole.read_lines.Given as goal

abbrev pub invariant-loop-rest : goal.invariant-loop-rest
invariant-loop-rest l = Summing l.n l.w l.fn.sums l.text l.sums l.rest

abbrev pub decreases-loop-rest : goal.decreases-loop-rest
decreases-loop-rest l = length l.rest
