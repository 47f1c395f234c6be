use Rattle.std.proofs.Common.{◌≡◌, ◌≤◌, length}
use Rattle.answers.specs.Shape.{largest}
use Rattle.answers.specs.Readers.{digits_after}
use Rattle.answers.proofs.numbers.digits_after.Given as goal

abbrev pub invariant-loop-digit : goal.invariant-loop-digit
invariant-loop-digit l = (digits_after l.so_far l.rest ≡ digits_after l.value l.text) × (l.so_far ≤ largest)

abbrev pub decreases-loop-digit : goal.decreases-loop-digit
decreases-loop-digit l = length l.rest
