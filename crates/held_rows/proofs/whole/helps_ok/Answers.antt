-- `held_rows::whole::helps_ok` meets its contract: `all` takes the numbers from 0 on.
use mathlib.Core.Path.{refl, ◌∙◌}
use native.Mathlib.Omega.{arith}
use borrow.Author.Rules.{rules}
use Rattle.std.proofs.lemmas.Iterator.{YieldsList-from_range}
use Rattle.std.proofs.lemmas.Iterator.Search.{all_from_yields_List}
use Rattle.station_rows.proofs.NumberLaws.{all_is_every}
use Rattle.model.specs.Refusals.{help_place_ok}
use Rattle.held_model.specs.Layout.{help_place}
use Rattle.held_model.specs.Memory.{help_from}
use Rattle.held_rows.proofs.whole.helps_ok.Goals as goal

pub returns : goal.returns
returns c =
    let a = c.args in
    all_from_yields_List (λ p. help_place_ok a.count.n (help_from a.held.now (help_place a.j.0 p))) _ _ _ c.all.ensures.ran
    (YieldsList-from_range 0 (a.count.n) (a.count.n) refl (omega arith)) (λ x b q k. search rules)
    ∙ all_is_every _ (a.count.n)
