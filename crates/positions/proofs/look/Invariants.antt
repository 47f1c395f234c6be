-- `positions::look`: what is left to look at leads to the same.
use Prim.Native.Nat.{ℕ}
use mathlib.Core.Path.{◌≡◌}
use mathlib.Core.List.{List}
use lib.ListN.{drop}
use Rattle.positions.specs.declared.Seen.{Seen}
use Rattle.positions.specs.Positions.{seen_from, seen_in}
use Rattle.positions.proofs.PositionLaws.{Passed}
use Rattle.positions.proofs.look.Given as goal

pub record Inv (before : List ℕ) (s : Seen) (i : ℕ) : Type 0 where
  pub passed : Passed i s
  pub left : seen_in before ≡ seen_from (drop i before) s

abbrev pub invariant-loop-b : goal.invariant-loop-b
invariant-loop-b l = Inv l.before l.s l.b-index
