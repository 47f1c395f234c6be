-- `judging::each_right` meets its contract: no call is wrong.
use mathlib.Core.Bool.{◌&&◌}
use Rattle.verdicts.specs.Log.{entries}
use Rattle.verdicts.specs.Verdicts.{kind_known, inside}
use Rattle.judging.proofs.JudgeLaws.{wrong, first_none, none_found}
use borrow.Author.Rules.{rules}
use Rattle.judging.proofs.each_right.Goals as goal

pub returns : goal.returns
returns c =
    let a = c.args.calls.now in
    none_found _ _ (c.first.ensures wrong (λ e b p. search rules)) _ c.is_none.ensures (first_none (λ e. kind_known e && inside e) (entries a.w a.log.now))
