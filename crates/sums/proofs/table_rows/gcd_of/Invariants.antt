use mathlib.Core.Path.{◌≡◌}
use Rattle.sums.specs.Fractions.{gcd}
use Rattle.sums.proofs.table_rows.gcd_of.Given as goal

abbrev pub invariant-loop-y : goal.invariant-loop-y
invariant-loop-y l = gcd l.x l.y ≡ gcd l.a l.b

abbrev pub decreases-loop-y : goal.decreases-loop-y
decreases-loop-y l = l.y
