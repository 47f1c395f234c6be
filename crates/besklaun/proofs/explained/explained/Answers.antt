-- `besklaun::explained::explained`: the run by value, and the message of what it leaves.
use mathlib.Core.Path.{refl}
use Rattle.besklaun.proofs.ExplainedLaws.{explained_alone}
use Rattle.besklaun.proofs.explained.explained.Goals as goal

pub returns : goal.returns
returns c =
    explained_alone _ _ _ _ _ _ _ c.empty-held.ensures c.run_by_value-out.ensures _ c.left-left.ensures.figure c.left-left.ensures.calls c.from.ensures c.from-2.ensures _ refl refl refl _ c.tell-told.ensures
