-- `station_rows::ranges::benches_ok` meets its contract: `all` takes the numbers below R.
use mathlib.Core.Path.{refl, ◌∙◌}
use native.Mathlib.Omega.{arith}
use borrow.Author.Rules.{rules}
use Rattle.std.proofs.lemmas.Iterator.{YieldsList-from_range}
use Rattle.std.proofs.lemmas.Iterator.Search.{all_from_yields_List}
use Rattle.model.specs.Refusals.{bench_ok}
use Rattle.station_records.specs.TakenOut.{bench_in}
use Rattle.station_rows.proofs.NumberLaws.{all_is_every}
use Rattle.station_rows.proofs.ranges.benches_ok.Goals as goal

pub returns : goal.returns
returns c =
    let s = c.args.station in
    all_from_yields_List (λ j. bench_ok (bench_in s (record { 0 = j }))) _ _ _ c.all.ensures.ran
    (YieldsList-from_range 0 s.r s.r refl (omega arith)) (λ x b q k. search rules)
    ∙ all_is_every _ s.r
