use Rattle.std.proofs.Common.{◌≡◌}
use Rattle.sums.specs.Fractions.{rows_of}
use Rattle.sums.proofs.table_rows.rows_of.Given as goal

abbrev pub invariant-loop-k : goal.invariant-loop-k
invariant-loop-k l = l.rows ≡ rows_of l.each l.k
