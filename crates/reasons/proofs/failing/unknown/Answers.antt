-- `reasons::failing::unknown` meets its contract.
use mathlib.Core.Path.{◌≡◌, ap, ◌∙◌}
use mathlib.Core.Bool.{not}
use Rattle.verdicts.specs.declared.Fault.TheVariants.{Unknown}
use Rattle.verdicts.specs.Log.{entries}
use Rattle.verdicts.specs.Verdicts.{kind_known}
use Rattle.verdicts.specs.Reasons.{at_one}
use Rattle.judging.specs.Heads.{known}
use Rattle.judging.proofs.CallLoops.{from_0}
use borrow.Author.Rules.{rules}
use Rattle.reasons.proofs.failing.unknown.Goals as goal

pub returns : goal.returns
returns c =
    let a = c.args.calls.now in
    let told : c.map.result ≡ at_one Unknown c.first.result = search rules in
    told ∙ ap (at_one Unknown) (c.first.ensures (λ h. not (known h)) (λ e b p. search rules) ∙ from_0 (λ e. not (kind_known e)) (entries a.w a.log.now))
