-- What is promised of a listed run (02, CR 12): where 14 doesn't strike, its number and the commands done are those of the
-- run of the file on record 0 of a station of one record, set up with the same numbers; proved in proofs/Theorems.
use Rattle.std.specs.Prelude.{ℕ, ◌≡◌, List, replicate}
use Rattle.station.specs.Station.{StationMemory, station_memory}
use Rattle.station.specs.StationRefusals.{StationShaped}
use Rattle.station.specs.StationSetUp.{empty_station, empty_process, station_set_up}
use Rattle.station_laws.specs.OneRecord.{as_bench}
use Rattle.text_model.specs.TextRun.{Ended}
use Rattle.board_commands.specs.declared.FileRun.{FileRun}
use Rattle.board_commands.specs.BoardRun.{run_file}
use Rattle.board_listing.specs.BoardListing.{board_listed}
use Rattle.besklaun.specs.OwnBench.{all_words}
use Rattle.besklaun.specs.BoardRuns.{board_run}

-- number and commands done
abbrev pub returned : Ended → FileRun
returned e = record { number = e.number; done = e.entries }

module _ (s : StationMemory) (n w k : ℕ) (file listing : List ℕ) where
  -- the listed run on the bench of record 0, and the station's set-up
  abbrev pub listed : Ended
  listed = board_listed (as_bench s) n w k file listing

  abbrev pub prepared : ℕ × StationMemory
  prepared = station_set_up s n w 1 (replicate w k)

  pub record AsOnAStation : Type 0 where
    -- "memory, number (0 for none) and commands done are as if its records came one by one"
    pub ran : prepared.0 ≡ 0 → (listed.number ≡ 14 → ⊥) → returned listed ≡ (run_file file prepared.1).0
    -- a set-up that is refused: its number, and nothing done
    pub refused : (prepared.0 ≡ 0 → ⊥) → (listed.number ≡ 14 → ⊥) → returned listed ≡ record { number = prepared.0; done = 0 }

abbrev pub EveryListedRun : Type 0
EveryListedRun = (s : StationMemory) → StationShaped s → (n w k : ℕ) (file listing : List ℕ) → AsOnAStation s n w k file listing

-- So it is of the run that the library exports: its bench is that of record 0 of this station.
abbrev pub own_station : StationMemory
own_station = station_memory empty_station (replicate 16 empty_process) all_words

abbrev pub EveryExportedRun : Type 0
EveryExportedRun =
    (n w k : ℕ) (file bytes : List ℕ) → let r = (board_run n w k file bytes).0 in let begun = station_set_up own_station n w 1 (replicate w k) in
    begun.0 ≡ 0 → (r.number ≡ 14 → ⊥) → record { number = r.number; done = r.done } ≡ (run_file file begun.1).0
