use Rattle.enumeration.proofs.LoopLaws.{fill_goes_on}
use borrow.Author.Rules.{rules}
use Rattle.enumeration.proofs.numbering.schedule_at.Goals as goal

pub loop-i-preserved : goal.loop-i-preserved
loop-i-preserved c = fill_goes_on _ _ _ _ _ _ _ _ c.loop-i.invariant (search rules) _ c.choose-c.ensures
