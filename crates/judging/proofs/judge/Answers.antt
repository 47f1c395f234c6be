-- `judging::judge` meets its contract: a refusal, or what the log earns.
use mathlib.Core.Path.{sym, ap, ◌∙◌}
use mathlib.Core.Bool.{cond}
use Rattle.verdicts.specs.declared.Verdict.TheVariants.{Yes, No}
use Rattle.judging.proofs.JudgeLaws.{judged_refused, judged_as}
use Rattle.judging.proofs.judge.Goals as goal

pub returns-in-Err : goal.returns-in-Err
returns-in-Err c = let a = c.args in judged_refused a.n a.w a.value.now a.log.now _ _ c.refusal.ensures c.in-Err.ensures

pub returns-then-earns : goal.returns-then-earns
returns-then-earns c =
    let a = c.args in
    sym (ap (λ r. cond r Yes No) c.if-earns.true) ∙ judged_as a.n a.w a.value.now a.log.now c.in_default.ensures _ c.earns.ensures

pub returns-else-earns : goal.returns-else-earns
returns-else-earns c =
    let a = c.args in
    sym (ap (λ r. cond r Yes No) c.if-earns.false) ∙ judged_as a.n a.w a.value.now a.log.now c.in_default.ensures _ c.earns.ensures
