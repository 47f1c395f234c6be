-- `logtext::number_places::stray_place`: what the library finds is the first byte that is in no number.
use mathlib.Core.Path.{ap, ◌∙◌}
use lib.ListN.{length}
use Rattle.std.specs.Prelude.{unwrap_or}
use Rattle.std.proofs.lemmas.Iterator.{YieldsList-from_slice}
use Rattle.std.proofs.lemmas.Iterator.Search.{position_from_yields_List}
use Rattle.logtext.specs.Places.{is_stray}
use Rattle.logtext.proofs.PlaceLaws.{stray_found}
use borrow.Author.Rules.{rules}
use Rattle.logtext.proofs.number_places.stray_place.Goals as goal

pub returns-clause-place : goal.returns-clause-place
returns-clause-place c =
    let text = c.args.text.now in
    let found = position_from_yields_List is_stray _ _ c.position.result c.position.ensures.ran (YieldsList-from_slice text c.iter.ensures.rest) (λ x b q z. search rules) in
    ap (λ r. unwrap_or r (length text)) found ∙ stray_found text
