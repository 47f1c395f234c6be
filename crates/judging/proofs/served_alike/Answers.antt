-- `judging::served_alike` meets its contract: no call is answered otherwise.
use Rattle.verdicts.specs.Log.{entries}
use Rattle.verdicts.proofs.ReasonLaws.{served_none}
use Rattle.judging.proofs.JudgeLaws.{none_found}
use Rattle.judging.proofs.served_alike.Goals as goal

pub returns : goal.returns
returns c =
    let a = c.args.admitted.now.calls in
    none_found _ _ (c.first_unlike.ensures.sorted c.sorted-order.ensures) _ c.is_none.ensures (served_none c.args.value.now (entries a.w a.log.now))
