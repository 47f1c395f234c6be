-- `setup::with_banks` meets its contract: the places below k are set up.
use mathlib.Core.Path.{◌≡◌}
use Rattle.setup.specs.SetUpByValue.{banks_set}
use Rattle.setup.proofs.with_banks.Given as goal

abbrev pub invariant-loop-k : goal.invariant-loop-k
invariant-loop-k l = l.bench ≡ banks_set l.initial.bench l.k
