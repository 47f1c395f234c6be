-- `notation::reader::Reader::skip`: the bytes passed are gaps.
use Prim.Native.Nat.{ℕ, ◌-◌, ◌≤◌}
use mathlib.Core.Path.{◌≡◌}
use mathlib.Core.List.{List}
use lib.ListN.{length}
use Rattle.notation.specs.Readers.{Gapped}
use Rattle.notation.proofs.reader.Reader.skip.Given as goal

pub record Inv (s s' : List ℕ) (at next : ℕ) : Type 0 where
  pub same : s' ≡ s
  pub gaps : Gapped s at next
  pub on : at ≤ next

abbrev pub invariant-loop-self : goal.invariant-loop-self
invariant-loop-self l = Inv l.initial.self.text.now l.self.text.now l.initial.self.at l.self.at

abbrev pub decreases-loop-self : goal.decreases-loop-self
decreases-loop-self l = length l.self.text.now - l.self.at
