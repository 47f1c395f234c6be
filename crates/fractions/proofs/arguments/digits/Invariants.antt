-- The number that the digits make, or none.
use Rattle.fractions.proofs.DigitLaws.{DigitInv}
use Rattle.fractions.proofs.arguments.digits.Given as goal

abbrev pub invariant-loop-b : goal.invariant-loop-b
invariant-loop-b l = DigitInv l.text l.value l.b-index
