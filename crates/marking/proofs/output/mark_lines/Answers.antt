use Rattle.std.proofs.Common.{sym, ◌∙◌}
use Rattle.marking.proofs.MarkedLaws.{some_bytes, shorter, marking_on}
use Rattle.marking.proofs.output.mark_lines.Goals as goal

pub loop-rest-smaller : goal.loop-rest-smaller
loop-rest-smaller c =
    let l = c.loop-rest in
    let some = some_bytes l.rest.now (sym c.loop-rest-test.ensures) in
    shorter l.invariant.marking some _ c.line-line.ensures _ c.may_swap.ensures c.put_mark.ensures c.copy_line-rest.ensures

pub loop-rest-preserved : goal.loop-rest-preserved
loop-rest-preserved c =
    let l = c.loop-rest in
    let some = some_bytes l.rest.now (sym c.loop-rest-test.ensures) in
    record {
      marking = marking_on l.invariant.marking some _ c.line-line.ensures _ c.may_swap.ensures c.put_mark.ensures c.copy_line-rest.ensures;
      same = c.copy_line-rest.ensures.wrote.same ∙ (c.put_mark.ensures.same ∙ l.invariant.same);
    }
