-- `judging::refusals::not_after_start` meets its contract.
use mathlib.Core.Path.{◌∙◌}
use lib.Dec.{leb}
use Rattle.verdicts.specs.Log.{Entry}
use Rattle.judging.specs.declared.heads.Head.{Head}
use Rattle.judging.proofs.CallLoops.{from_0, es}
use borrow.Author.Rules.{rules}
use Rattle.judging.proofs.refusals.not_after_start.Goals as goal

pub returns : goal.returns
returns c =
    let a = c.args.calls.now in
    c.first.ensures (λ (e : Head). leb e.answer e.start) (λ e b p. search rules) ∙ from_0 (λ (e : Entry). leb e.answer e.start) (es a.w a.log.now)
