use Rattle.enumeration.proofs.LoopLaws.{Counting}
use Rattle.enumeration.proofs.numbering.number_of.Given as goal

abbrev pub invariant-loop-turn : goal.invariant-loop-turn
invariant-loop-turn l = Counting l.fn.totals.a l.fn.totals.b l.turns l.turn-index l.left.a l.left.b l.k
