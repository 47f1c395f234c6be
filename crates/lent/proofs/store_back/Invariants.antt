-- at i, the first i records are stored
use Rattle.std.proofs.Common.{◌≡◌}
use Rattle.lent.specs.Gathered.{stored}
use Rattle.lent.proofs.store_back.Given as goal

abbrev pub invariant-loop-i : goal.invariant-loop-i
invariant-loop-i g l = l.records ≡ stored l.initial.records l.all l.none l.i
