-- `positions::unclosed`: what is left to look at leads to the same.
use Prim.Native.Nat.{ℕ, ◌+◌, ◌≤◌}
use mathlib.Core.Path.{◌≡◌}
use mathlib.Core.List.{List}
use lib.ListN.{length}
use Rattle.positions.specs.Brackets.{unclosed_below, unclosed_in}
use Rattle.positions.proofs.unclosed.Given as goal

pub record Inv (text : List ℕ) (left closed : ℕ) : Type 0 where
  pub within : closed + left ≤ length text
  pub same : unclosed_below text left closed ≡ unclosed_in text

abbrev pub invariant-loop-i : goal.invariant-loop-i
invariant-loop-i l = Inv l.text l.i l.closed
