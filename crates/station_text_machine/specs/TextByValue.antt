-- The text run on gathered process records: what is taken out for the run by value, and what is put back.
-- Inner: `StoredRun` proves that this, stored back, is `station_run_text`.
use Rattle.std.specs.Prelude.{◌≡◌, ℕ, List, Option, None, Some, map, cond, eqb, length, get_or, set}
use Rattle.model.specs.declared.Bench.{Bench}
use Rattle.model.specs.Records.{no_process}
use Rattle.model.specs.declared.Process.{Process}
use Rattle.llsc.specs.Refusals.{number_told}
use Rattle.text_entry.specs.declared.state.Held.{Held}
use Rattle.text_runs.specs.declared.runs.Finished.{Finished}
use Rattle.text_machine.specs.Finished.{at_most_sixteen}
use Rattle.station.specs.declared.Station.{Station}
use Rattle.station.specs.declared.StationProcess.{StationProcess}
use Rattle.station.specs.Station.{station_memory, no_tables}
use Rattle.station.specs.Projection.{process_of, put_tables, put_process}
use Rattle.station.specs.StationSetUp.{empty_process, firsts}
use Rattle.lent.specs.Gathered.{gathered}
use Rattle.station_records.specs.Gathered.{left_stored}
use Rattle.station_records.specs.declared.left.Left.{Left}
use Rattle.station_text_machine.specs.StationText.{record0, unsized, StationEnded, station_run_text}

abbrev pub bench_before : Station → Bench
bench_before s = unsized (get_or s.tables 0 no_tables)

-- sixteen processes as record 0 has them
abbrev pub records_before : List StationProcess → List Process
records_before all = map (process_of record0) all

-- the station record after the run
abbrev pub station_ran : Station → Bench → Station
station_ran s b = record { n = b.n; w = b.w; r = 1; tables = set s.tables 0 (put_tables b) }

-- what record 0's run made of process p, put back
abbrev pub put_at : List Process → ℕ → StationProcess → StationProcess
put_at rs p q = put_process record0 q (get_or rs p no_process)

abbrev pub processes_ran : List StationProcess → List Process → ℕ → List StationProcess
processes_ran all rs k = firsts (put_at rs) 0 k all

-- none where the run was refused before its set-up
unfoldable pub put_back : Station → List StationProcess → Held → Option Left
put_back s all h =
    cond (eqb h.bench.n 0) None
    (Some (record { station = station_ran s h.bench; all = processes_ran all h.all (at_most_sixteen h.bench.n) }))

-- what a run returns and leaves, with the words and the listing after it
abbrev pub ended_with : Station → List StationProcess → Finished (Option Left) → List ℕ → List ℕ → StationEnded
ended_with s ps r ws list =
    record { number = number_told r.outcome; entries = r.entries; written = r.written; memory = left_stored s ps ws r.held; listing = list }

-- what a text run answers where `all` holds the first sixteen of `len` lent process records: stored back, the run of
-- `station_run_text`; where it stopped is not told
pub record StationRan (s : Station) (all : List StationProcess) (len : ℕ) (ws text list : List ℕ) (r : Finished (Option Left)) (ws' list' : List ℕ) : Type 0 where
  pub stored : (ps : List StationProcess) → all ≡ gathered ps empty_process 16 → len ≡ length ps
      → ended_with s ps r ws' list' ≡ station_run_text (station_memory s ps ws) text list
