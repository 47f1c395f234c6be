-- `notation::reader::Reader::digits`: the digits passed lead from v to the value.
use Prim.Native.Nat.{ℕ, ◌-◌, ◌≤◌}
use mathlib.Core.Path.{◌≡◌}
use mathlib.Core.List.{List}
use lib.ListN.{length}
use Rattle.notation.specs.Grammar.{largest}
use Rattle.notation.specs.Readers.{Counts}
use Rattle.notation.proofs.reader.Reader.digits.Given as goal

pub record Inv (s s' : List ℕ) (at v next value : ℕ) : Type 0 where
  pub same : s' ≡ s
  pub counts : Counts s at v next value
  pub on : at ≤ next
  pub small : value ≤ largest

abbrev pub invariant-loop-d : goal.invariant-loop-d
invariant-loop-d l = Inv l.initial.self.text.now l.self.text.now l.initial.self.at l.v l.self.at l.value

abbrev pub decreases-loop-d : goal.decreases-loop-d
decreases-loop-d l = length l.self.text.now - l.self.at
