-- `boards::merge` meets its contract.
use Rattle.boards.proofs.RefusalLaws.{ready, merge_done}
use Rattle.boards.proofs.merge.Goals as goal

pub write_merged-requires : goal.write_merged-requires
write_merged-requires c = let x = c.args in ready x.first.now x.second.now x.out.now c.in_ok-records.ensures

pub returns : goal.returns
returns c = let x = c.args in merge_done x.first.now x.second.now x.out.now c.in_ok-records.ensures _ _ c.write_merged.ensures
