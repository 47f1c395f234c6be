-- The state that the first entries of a text leave in a held list, in C's terms.
use Rattle.std.specs.Prelude.{◌≡◌, ℕ, List, false}
use Rattle.positions.specs.declared.StopReport.{StopReport}
use Rattle.text_runs.specs.TextRun.{Ended}
use Rattle.text_runs.specs.StopPlaces.{StopsAt}
use Rattle.station.specs.Station.{StationMemory}
use Rattle.station_text_laws.specs.EntryByEntry.{station_machine}
use Rattle.held_model.specs.Memory.{laid_out}
use Rattle.held_text_model.specs.Upto.{quiet, upto}
use Rattle.held_text_model.specs.States.{first_run}
use Rattle.besklaun.specs.declared.held_lists.HeldRun.{HeldRun}
use Rattle.besklaun.specs.TextReports.{stop_of}

-- number, entries done and memory of a run
abbrev pub reached : Ended (upto station_machine) → ℕ × (ℕ × StationMemory)
reached e = (e.number, (e.entries, e.memory.1))

-- The list l as it is laid out for one record is the memory on which the text runs, for k entries at the most: one more is
-- refused with 12. And where the run stopped.
pub record StateTold (l text : List ℕ) (k : ℕ) (r : HeldRun) (l' : List ℕ) : Type 0 where
  pub state : (r.number, (r.entries, laid_out 1 l')) ≡ reached (first_run k (laid_out 1 l) text)
  pub report : StopReport
  pub told : r.stop ≡ stop_of report
  pub stops : StopsAt (upto station_machine) false (k, laid_out 1 l) text quiet report
