use Rattle.enumeration.proofs.TurnLaws.{one_there}
use borrow.Author.Rules.{rules}
use Rattle.enumeration.proofs.turns.choose.Goals as goal

-- `b: left.b - 1`, where turn 1 is next
pub overflow_sub-result-2 : goal.overflow_sub-result-2
overflow_sub-result-2 c = one_there _ _ _ _ c.zero_first-zeros.ensures (search rules) c.requires.0 c.requires.1
