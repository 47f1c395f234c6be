-- The numbers that the memory of a text run holds stay small: no word of it has more than ten digits, and every tag has
-- sixteen bits.
use mathlib.Core.Path.{◌≡◌}
use mathlib.Core.List.{List, []}
use Prim.Native.Nat.{ℕ, zero, suc, ◌≤◌}
use native.Mathlib.Omega.{arith}
use lib.ListN.{replicate, length-replicate}
use Rattle.llsc.specs.declared.Order.{Order}
use Rattle.notation.specs.Grammar.{largest}
use Rattle.moir_model.specs.Records.{record_at}
use Rattle.moir_model.specs.Machine.{Memory, obey}
use Rattle.moir_model.specs.Command.{command, refusal}
use Rattle.moir_model.specs.SetUp.{at_set_up}
use Rattle.moir_text_model.proofs.NumbersLeft.{MemoryFits, ValueFits, Leaves, at_set_up_fits, command_fits}
use Rattle.moir_text_model.proofs.NumbersLeft as Any

abbrev SmallWord : ℕ → Type 0
SmallWord k = k ≤ largest

none_small : SmallWord 0
none_small = omega arith

-- all that N and W need of the lent memory
abbrev pub Small : Memory → Type 0
Small = MemoryFits SmallWord

-- every word of a value
abbrev pub SmallValue : List ℕ → Type 0
SmallValue = ValueFits SmallWord

pub small_value : (n k : ℕ) → k ≤ largest → SmallValue (replicate n k)
small_value zero k h i = omega arith
small_value (suc n) k h zero = h
small_value (suc n) k h (suc i) = small_value n k h i

pub small_none : SmallValue []
small_none i = omega arith

pub small_at_set_up : (m : Memory) (n w v : ℕ) → v ≤ largest → Small (at_set_up m n w (replicate w v))
small_at_set_up m n w v h = at_set_up_fits SmallWord none_small m n w (replicate w v) (small_value w v h) (length-replicate w v)

module _ (m : Memory) (p : ℕ) (o : Order) (v : List ℕ) (s : Small m) (h : SmallValue v) where
  -- a command that no row refuses
  pub leaves : refusal m p o v ≡ 0
      → Leaves SmallWord m.bench (record_at m.records (record { 0 = p })) (obey o (record { 0 = p }) v m.bench (record_at m.records (record { 0 = p })) m.words)
  leaves = Any.leaves SmallWord none_small m p o v s h

  -- refused or not, it leaves small numbers
  pub small_command : Small (command m p o v).1
  small_command = command_fits SmallWord none_small m p o v s h
