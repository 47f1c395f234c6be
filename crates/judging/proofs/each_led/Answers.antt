-- `judging::each_led` meets its contract: none lacks its LL.
use Rattle.verdicts.specs.Log.{entries}
use Rattle.verdicts.specs.Verdicts.{ll_before}
use Rattle.judging.proofs.JudgeLaws.{first_none, none_found}
use Rattle.judging.proofs.each_led.Goals as goal

pub returns : goal.returns
returns c =
    let a = c.args.calls.now in let es = entries a.w a.log.now in
    none_found _ _ c.first_unled.ensures _ c.is_none.ensures (first_none (ll_before es) es)
