-- `reasons::failing::one_moment` meets its contract.
use mathlib.Core.Path.{◌≡◌, ap, ◌∙◌}
use mathlib.Core.Bool.{not}
use Rattle.verdicts.specs.declared.Fault.TheVariants.{Moment}
use Rattle.verdicts.specs.Reasons.{at_two}
use lib.Dec.{eqb}
use Rattle.judging.proofs.CallLoops.{twice}
use borrow.Author.Rules.{rules}
use Rattle.reasons.proofs.failing.one_moment.Goals as goal

pub returns : goal.returns
returns c =
    let told : c.map.result ≡ at_two Moment c.first_two.result = search rules in
    told ∙ ap (at_two Moment) (c.first_two.ensures (λ e f. not (not (eqb e.moment f.moment))) (λ e f b p. twice _ _ (search rules)))
