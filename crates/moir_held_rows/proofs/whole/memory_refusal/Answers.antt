-- `moir_held_rows::whole::memory_refusal` meets its contract: row 9 is looked at where rows 1, 2 and 3 hold of nothing.
use mathlib.Core.Path.{sym}
use Rattle.moir_held_rows.proofs.ListLaws.{lent_list}
use Rattle.moir_held_rows.proofs.whole.memory_refusal.Goals as goal

pub in_range-requires : goal.in_range-requires
in_range-requires c = lent_list c.args.held.now (sym c.in-Ok.ensures)
