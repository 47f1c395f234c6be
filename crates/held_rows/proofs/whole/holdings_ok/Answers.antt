-- `held_rows::whole::holdings_ok` meets its contract: `all` takes the numbers from 0 on.
use mathlib.Core.Path.{refl, ◌∙◌}
use native.Mathlib.Omega.{arith}
use borrow.Author.Rules.{rules}
use Rattle.std.proofs.lemmas.Iterator.{YieldsList-from_range}
use Rattle.std.proofs.lemmas.Iterator.Search.{all_from_yields_List}
use Rattle.station_rows.proofs.NumberLaws.{all_is_every}
use Rattle.held_model.specs.Layout.{holding_place}
use Rattle.held_rows.specs.WholeRows.{holding_from_ok}
use Rattle.held_rows.proofs.whole.holdings_ok.Goals as goal

pub returns : goal.returns
returns c =
    let a = c.args in
    all_from_yields_List (λ p. holding_from_ok a.held.now a.count.n (holding_place a.j.0 p)) _ _ _ c.all.ensures.ran
    (YieldsList-from_range 0 (a.count.n) (a.count.n) refl (omega arith)) (λ x b q k. search rules)
    ∙ all_is_every _ (a.count.n)
