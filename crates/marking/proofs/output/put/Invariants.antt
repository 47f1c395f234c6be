-- `marking::output::put`: the bytes passed are written.
use Rattle.std.proofs.Common.{take}
use Rattle.listing.specs.Writing.{Writes}
use Rattle.marking.proofs.output.put.Given as goal

abbrev pub invariant-loop-byte : goal.invariant-loop-byte
invariant-loop-byte l = Writes l.initial.to (take l.byte-index l.bytes) l.to
