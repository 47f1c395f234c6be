-- `listing::Writer::number`: the loop's invariant is that the digits of the divisions done stand in the last places.
use Prim.Native.Nat.{◌-◌}
use lib.ListN.{length}
use Rattle.listing.specs.Decimal.{decimal}
use Rattle.listing.proofs.FilledLaws.{Filled}
use Rattle.listing.proofs.Writer.number.Given as goal

abbrev pub invariant-loop-rest : goal.invariant-loop-rest
invariant-loop-rest l = Filled l.n (length l.initial.places) l.divisions l.rest l.places

abbrev pub decreases-loop-rest : goal.decreases-loop-rest
decreases-loop-rest l = length (decimal l.n) - l.divisions
