-- What the set-up makes of a station record, of gathered process records and of the lent words.
-- Inner: `StoredSetUp` proves that this, stored back, is `station`'s set-up.
use Rattle.std.specs.Prelude.{ℕ, List, cond, eqb, Result, Ok, Err}
use Rattle.llsc.specs.declared.refusals.Refusal.{Refusal}
use Rattle.llsc.specs.Refusals.{refusal_number}
use Rattle.station.specs.declared.Station.{Station}
use Rattle.station.specs.declared.StationProcess.{StationProcess}
use Rattle.station.specs.Station.{StationMemory, station_memory}
use Rattle.station.specs.StationSetUp.{firsts}
use Rattle.station_records.specs.Gathered.{processes_stored}
use Rattle.station_records.specs.declared.left.Left.{Left}
use Rattle.station_setup.specs.StationSetUpByValue.{process_for, station_prepared}

-- a set-up by value, with its process records: a refused one changes none
abbrev pub with_processes : List StationProcess → ℕ → ℕ → (ℕ × Station) × List ℕ → ((ℕ × Station) × List StationProcess) × List ℕ
with_processes all n r out = ((out.0, cond (eqb out.0.0 0) (firsts (process_for n r) 0 n all) all), out.1)

abbrev pub set_up_gathered :
    Station → List StationProcess → ℕ → ℕ → ℕ → ℕ → List ℕ → List ℕ → ((ℕ × Station) × List StationProcess) × List ℕ
set_up_gathered s all len n w r v ws = with_processes all n r (station_prepared s len n w r v ws)

-- its outcome as the number of its refusal, 0 for none, the station record and the process records
abbrev pub told_all : Station → List StationProcess → Result Left Refusal → (ℕ × Station) × List StationProcess
told_all s all (Ok set) = ((0, set.station), set.all)
told_all s all (Err refusal) = ((refusal_number refusal, s), all)

-- what it comes to, the first n process records of it stored back where it is done
abbrev pub stored_up : List StationProcess → ℕ → ((ℕ × Station) × List StationProcess) × List ℕ → ℕ × StationMemory
stored_up ps n out =
    (out.0.0.0, station_memory out.0.0.1 (cond (eqb out.0.0.0 0) (processes_stored ps out.0.1 n) ps) out.1)
