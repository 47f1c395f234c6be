-- `notation::items::read_group`, `read_item` and `read_on`: each entry read is kept.
-- The depth falls from a group to its items, the text from item to item.
use Prim.Native.Nat.{ℕ, ◌+◌, ◌-◌, ◌*◌}
use lib.ListN.{length}
use Rattle.notation.specs.declared.reader.Reader.{Reader}
use Rattle.notation.specs.declared.entry_list.EntryList.{EntryList}
use Rattle.notation.specs.Places.{fore, Moves}
use Rattle.notation.specs.Groups.{Sofar}
use Rattle.notation.specs.Listed.{Keeps}
use Rattle.notation.specs.Cursor.{Stay}
use Rattle.notation.proofs.items.+read_group_read_item_read_items.Given as goal

abbrev pub decreases-read_group : goal.decreases-read_group
decreases-read_group l = 3 * l.depth

abbrev pub decreases-read_item : goal.decreases-read_item
decreases-read_item l = 3 * l.depth + 1

abbrev pub decreases-read_on : goal.decreases-read_on
decreases-read_on l = 3 * l.depth + 2

-- the items up to where the reader stands are kept
pub record Inv (d : ℕ) (a b : Reader) (l m : EntryList) : Type 0 where
  pub stay : Stay a b l m
  pub keeps : Keeps a.text.now l.list.now m.list.now l.count m.count (λ es. Sofar a.text.now a.at d b.at es) (λ ps. Moves a.text.now a.at fore b.at fore ps)

abbrev pub invariant-read_on-loop-reader : goal.invariant-read_on-loop-reader
invariant-read_on-loop-reader l = Inv l.depth l.fn.reader l.reader l.fn.entries l.entries

abbrev pub decreases-read_on-loop-reader : goal.decreases-read_on-loop-reader
decreases-read_on-loop-reader l = length l.reader.text.now - l.reader.at
