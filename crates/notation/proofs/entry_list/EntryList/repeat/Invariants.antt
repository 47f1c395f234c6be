-- `notation::entry_list::EntryList::repeat`: the block stands again up to `next`.
use Prim.Native.Nat.{ℕ}
use mathlib.Core.Path.{◌≡◌}
use Rattle.notation.specs.declared.entry_list.EntryList.{EntryList}
use Rattle.notation.proofs.BlockLaws.{Copied}
use Rattle.notation.proofs.entry_list.EntryList.repeat.Given as goal

pub record Inv (a b : EntryList) (from next end : ℕ) : Type 0 where
  pub same : b.list.ghost_name ≡ a.list.ghost_name
  pub count : b.count ≡ a.count
  pub copied : Copied a.list.now b.list.now from a.count next end

abbrev pub invariant-loop-next : goal.invariant-loop-next
invariant-loop-next l = Inv l.initial.self l.self l.from l.next l.end
