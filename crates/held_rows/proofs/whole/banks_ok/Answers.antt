-- `held_rows::whole::banks_ok` meets its contract: `all` takes the numbers from 0 on.
use mathlib.Core.Path.{refl, ap, ◌∙◌}
use Prim.Native.Nat.{ℕ}
use native.Mathlib.Omega.{arith}
use borrow.Author.Rules.{rules}
use Rattle.std.proofs.lemmas.Iterator.{YieldsList-from_range}
use Rattle.std.proofs.lemmas.Iterator.Search.{all_from_yields_List}
use Rattle.llsc.specs.Rows.{every}
use Rattle.model.specs.SetUp.{numbers}
use Rattle.station_rows.proofs.NumberLaws.{all_is_every}
use Rattle.model.specs.Refusals.{bank_place_ok}
use Rattle.held_model.specs.Layout.{bank_place}
use Rattle.held_model.specs.Memory.{bank_from}
use Rattle.held_rows.proofs.whole.banks_ok.Goals as goal

pub returns : goal.returns
returns c =
    let a = c.args in let k = c.sequence_numbers.result in
    all_from_yields_List (λ i. bank_place_ok a.count.n (bank_from a.held.now (bank_place a.j.0 i))) _ _ _ c.all.ensures.ran
    (YieldsList-from_range 0 k k refl (omega arith)) (λ x b q k. search rules)
    ∙ all_is_every _ k
    ∙ ap (λ (m : ℕ). every (λ i. bank_place_ok a.count.n (bank_from a.held.now (bank_place a.j.0 i))) (numbers 0 m)) c.sequence_numbers.ensures
