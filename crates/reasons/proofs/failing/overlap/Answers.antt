-- `reasons::failing::overlap` meets its contract.
use mathlib.Core.Path.{◌≡◌, ap, ◌∙◌}
use mathlib.Core.Bool.{not}
use Rattle.verdicts.specs.declared.Fault.TheVariants.{Overlap}
use Rattle.verdicts.specs.Reasons.{at_two}
use Rattle.judging.specs.Heads.{apart}
use borrow.Author.Rules.{rules}
use Rattle.reasons.proofs.failing.overlap.Goals as goal

pub returns : goal.returns
returns c =
    let told : c.map.result ≡ at_two Overlap c.first_two.result = search rules in
    told ∙ ap (at_two Overlap) (c.first_two.ensures (λ e f. not (apart e f)) (λ e f b p. search rules))
