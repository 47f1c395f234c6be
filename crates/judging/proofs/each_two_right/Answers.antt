-- `judging::each_two_right` meets its contract: no two clash.
use mathlib.Core.Bool.{◌&&◌}
use Rattle.verdicts.specs.Log.{entries}
use Rattle.verdicts.specs.Verdicts.{apart, differ}
use Rattle.verdicts.proofs.ReasonLaws.{two_none}
use Rattle.judging.proofs.JudgeLaws.{clash, none_found}
use borrow.Author.Rules.{rules}
use Rattle.judging.proofs.each_two_right.Goals as goal

pub returns : goal.returns
returns c =
    let a = c.args.calls.now in
    none_found _ _ (c.first_two.ensures clash (λ e f b p. search rules)) _ c.is_none.ensures (two_none (λ e f. apart e f && differ e f) 0 (entries a.w a.log.now))
