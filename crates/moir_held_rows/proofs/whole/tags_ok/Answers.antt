-- `moir_held_rows::whole::tags_ok` meets its contract: `all` takes the numbers from 0 on.
use mathlib.Core.Path.{refl, ◌∙◌}
use native.Mathlib.Omega.{arith}
use borrow.Author.Rules.{rules}
use Rattle.std.proofs.lemmas.Iterator.{YieldsList-from_range}
use Rattle.std.proofs.lemmas.Iterator.Search.{all_from_yields_List}
use Rattle.station_rows.proofs.NumberLaws.{all_is_every}
use Rattle.moir_held_model.specs.Memory.{tag_from}
use Rattle.moir_held_model.specs.Ranges.{tag_ok}
use Rattle.moir_held_rows.proofs.whole.tags_ok.Goals as goal

pub returns : goal.returns
returns c =
    let a = c.args in
    all_from_yields_List (λ k. tag_ok (tag_from a.held.now k)) _ _ _ c.all.ensures.ran
    (YieldsList-from_range 0 (a.width.w) (a.width.w) refl (omega arith)) (λ x b q k. search rules)
    ∙ all_is_every _ (a.width.w)
