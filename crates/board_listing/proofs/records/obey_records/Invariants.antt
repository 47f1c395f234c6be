-- `board_listing::records::obey_records`: the loop over a file's records.
use mathlib.Core.Path.{◌≡◌}
use mathlib.Core.Bool.{false}
use Rattle.whole_runs.specs.Carrying.{in_run}
use Rattle.text_machine.specs.Carried.{lent_state}
use Rattle.board_listing.proofs.LoopLaws.{Obeying}
use Rattle.board_listing.proofs.records.obey_records.Given as goal

abbrev pub invariant-loop-done : goal.invariant-loop-done
invariant-loop-done l = record {
  obeying : Obeying l.records (lent_state (in_run l.initial.lent 0 false) 0 l.initial.words l.initial.to) (lent_state (in_run l.lent 0 false) 0 l.words l.to) l.done;
  lent : l.lent.len ≡ 16;
  same : l.to.list.ghost_name ≡ l.initial.to.list.ghost_name;
}
