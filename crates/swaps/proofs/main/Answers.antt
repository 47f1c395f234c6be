-- `swaps::main`: the records that it hands over are fillers.
use Rattle.text_machine.proofs.RecordLaws.{fillers}
use Rattle.swaps.proofs.main.Goals as goal

pub run_by_value-out-requires : goal.run_by_value-out-requires
run_by_value-out-requires c = fillers c.empty-held.result c.empty-held.ensures
