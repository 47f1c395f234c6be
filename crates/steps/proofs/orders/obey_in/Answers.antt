-- `steps::orders::obey_in` meets its contract: the words are offered, the places taken, the order obeyed on them, and all put back.
use Rattle.std.proofs.Common.{ap, ◌∙◌, ℕ}
use Rattle.model.specs.declared.Moved.{Moved}
use Rattle.words.specs.Layouts.{layout_from}
use Rattle.steps.specs.Steps.{offered_in, obey_on_in}
use Rattle.steps.proofs.TakenLaws.{whole_order_in}
use Rattle.steps.proofs.orders.obey_in.Goals as goal

pub returns : goal.returns
returns c =
    let a = c.args in
    let w = whole_order_in (layout_from a.rows) a.p a.bench a.process a.words.now a.order a.value.now in
    ap (λ (r : Moved). (r, c.obey_taken_in-stepped.new.words)) c.put_back.ensures ∙
    w (c.offer.ensures ∙ ap (λ (k : ℕ). offered_in (layout_from a.rows) a.order a.p k a.value.now a.words.now) c.requires.w_is)
    c.bank_index-i.ensures c.help_index-j.ensures c.take-places.ensures
    (c.obey_taken_in-stepped.ensures ∙ ap (λ (k : ℕ). obey_on_in (layout_from a.rows) a.order a.p a.bench.n k c.take-places.result a.process c.offer.new.words) c.requires.w_is)
