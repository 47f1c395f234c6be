-- `setup::with_helps` meets its contract: the places below p are set up.
use mathlib.Core.Path.{◌≡◌}
use Rattle.setup.specs.SetUpByValue.{helps_set}
use Rattle.setup.proofs.with_helps.Given as goal

abbrev pub invariant-loop-p : goal.invariant-loop-p
invariant-loop-p l = l.bench ≡ helps_set l.initial.bench l.p
