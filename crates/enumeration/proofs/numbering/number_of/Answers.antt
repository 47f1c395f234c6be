use native.Mathlib.Omega.{arith}
use Rattle.enumeration.proofs.LoopLaws.{ways_fit, count_fits, count_goes_on, count_stops, count_ends}
use borrow.Author.Rules.{rules}
use Rattle.enumeration.proofs.numbering.number_of.Goals as goal

pub returns-in_err-t : goal.returns-in_err-t
returns-in_err-t c = rw c.from_residual.ensures (count_stops _ _ _ _ _ _ _ c.loop-turn.invariant (search rules) c.in_err-t.ensures)

pub overflow_add-k : goal.overflow_add-k
overflow_add-k c =
    let z = count_fits _ _ _ _ _ _ _ c.loop-turn.invariant (search rules) _ c.in_ok-t.ensures in
    omega (arith, ways_fit _ _ c.args.totals.few.0 c.args.totals.few.1)

pub loop-turn-preserved : goal.loop-turn-preserved
loop-turn-preserved c = count_goes_on _ _ _ _ _ _ _ c.loop-turn.invariant (search rules) _ c.in_ok-t.ensures

pub returns : goal.returns
returns c = count_ends _ _ _ _ _ _ _ c.loop-turn.invariant (search rules) (omega arith)
