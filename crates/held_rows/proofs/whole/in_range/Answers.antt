-- `held_rows::whole::in_range` meets its contract: record by record, and then call by call.
use mathlib.Core.Path.{sym, ap, ◌∙◌}
use mathlib.Core.Bool.{Bool, ◌&&◌}
use Rattle.llsc.specs.Rows.{every}
use Rattle.model.specs.SetUp.{numbers}
use Rattle.held_model.specs.Layout.{call_place}
use Rattle.held_rows.specs.WholeRows.{call_from_ok}
use Rattle.held_rows.proofs.WholeLaws.{in_range_there}
use Rattle.held_rows.proofs.whole.in_range.Goals as goal

pub returns-then-records_ok : goal.returns-then-records_ok
returns-then-records_ok c =
    let l = c.args.held.now in let s = c.sizes-lent.result in let e = c.sizes-lent.ensures in
    in_range_there l c.requires e.n e.w e.r
    (c.calls_ok.ensures
    ∙ ap (λ (t : Bool). t && every (λ p. call_from_ok l s.n s.w s.r (call_place p)) (numbers 0 s.n)) (sym (sym c.records_ok.ensures ∙ c.if-records_ok.true)))
