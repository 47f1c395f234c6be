use Rattle.enumeration.proofs.LoopLaws.{Filling}
use Rattle.enumeration.proofs.numbering.schedule_at.Given as goal

abbrev pub invariant-loop-i : goal.invariant-loop-i
invariant-loop-i l = Filling l.fn.totals.a l.fn.totals.b l.number l.turns l.i l.left.a l.left.b l.k
