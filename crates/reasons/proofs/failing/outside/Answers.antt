-- `reasons::failing::outside` meets its contract.
use mathlib.Core.Path.{◌≡◌, ap, ◌∙◌}
use mathlib.Core.Bool.{not}
use Rattle.verdicts.specs.declared.Fault.TheVariants.{Outside}
use Rattle.verdicts.specs.Log.{entries}
use Rattle.verdicts.specs.Verdicts.{inside}
use Rattle.verdicts.specs.Reasons.{at_one}
use Rattle.judging.specs.Heads.{inside as Heads·inside}
use Rattle.judging.proofs.CallLoops.{from_0}
use borrow.Author.Rules.{rules}
use Rattle.reasons.proofs.failing.outside.Goals as goal

pub returns : goal.returns
returns c =
    let a = c.args.calls.now in
    let told : c.map.result ≡ at_one Outside c.first.result = search rules in
    told ∙ ap (at_one Outside) (c.first.ensures (λ h. not (Heads·inside h)) (λ e b p. search rules) ∙ from_0 (λ e. not (inside e)) (entries a.w a.log.now))
