-- `station_text_machine::run_by_value` meets its contract: the bench's own run on what was taken out, put back.
use Rattle.station_text_machine.proofs.StoredRun.{records_again}
use Rattle.station_text_machine.proofs.run_by_value.Goals as goal

pub run_by_value-out-requires : goal.run_by_value-out-requires
run_by_value-out-requires c =
    records_again c.args.lent.all c.args.lent.len c.requires c.records_before.result c.records_before.ensures
