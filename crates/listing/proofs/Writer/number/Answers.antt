-- `listing::Writer::number`: the loop's invariant is that the digits of the divisions done stand in the last places.
use native.Mathlib.Omega.{arith}
use Rattle.listing.proofs.FilledLaws.{most, filled_none, room, filled_more}
use Rattle.listing.proofs.Writer.number.Goals as goal

pub loop-rest-init : goal.loop-rest-init
loop-rest-init c = let n = c.args.n in filled_none n _ (omega arith) (omega (arith, most n (omega arith)))

pub loop-rest-preserved : goal.loop-rest-preserved
loop-rest-preserved c =
    let i = c.loop-rest.invariant in
    filled_more (omega arith) i _ (omega (arith, room (omega arith) i)) (λ z. omega arith)
