-- The theorems: a listed run, and the exported one, is CR 12's run on record 0 of a station of one record, in its number and
-- the commands done.
use mathlib.Core.Path.{◌≡◌, refl, sym, ap, ◌∙◌}
use mathlib.Core.Bool.{Bool, true, false, cond}
use mathlib.Core.List.{List}
use Prim.Native.Nat.{ℕ}
use lib.Dec.{eqb, ltb}
use lib.ListN.{length, replicate, get_or-replicate}
use borrow.Author.Tests.{ne_eqb}
use Rattle.model.specs.Machine.{Memory}
use Rattle.model.specs.SetUp.{set_up}
use Rattle.boards.specs.Files.{decode, file_number}
use Rattle.station.specs.declared.Tables.{Tables}
use Rattle.station.specs.declared.StationProcess.{StationProcess}
use Rattle.station.specs.Station.{StationMemory, no_tables, no_station_process}
use Rattle.station.specs.StationSetUp.{empty_tables, empty_process}
use Rattle.station.specs.StationRefusals.{StationShaped}
use Rattle.station_laws.specs.OneRecord.{as_bench}
use Rattle.station_laws.proofs.Theorems.{one_record_is_the_bench}
use Rattle.text_runs.specs.TextRun.{room_needed}
use Rattle.text_model.specs.TextRun.{Progress, Ended, ended, begun}
use Rattle.board_commands.specs.BoardRun.{run_records, run_file}
use Rattle.board_listing.specs.BoardListing.{obey_all, run_listed, after_set_up, board_listed}
use Rattle.board_laws.specs.Promises.{returned, listed, prepared, EveryListedRun, own_station, EveryExportedRun}
use Rattle.board_laws.proofs.StationLaws.{One, all_records}

module _ (s : StationMemory) (shaped : StationShaped s) (n w k : ℕ) (file listing : List ℕ) where
  abbrev m : Memory
  m = as_bench s

  abbrev v : List ℕ
  v = replicate w k

  abbrev station : ℕ × StationMemory
  station = prepared s n w k file listing

  set_up_lem : ◌≡◌ {A = ℕ × Memory} (station.0, as_bench station.1) (set_up m n w v)
  set_up_lem = one_record_is_the_bench.set_up_lem s shaped n w v

  -- behind 14 at the start
  behind : ((listed s n w k file listing).number ≡ 14 → ⊥) → listed s n w k file listing ≡ after_set_up m file listing (station.0, as_bench station.1)
  unfolding board_listed
  behind h = go (ltb (length listing) (room_needed false)) h ∙ ap (after_set_up m file listing) (sym set_up_lem)
    where
      go : (t : Bool) → ((cond t (record { number = 14; entries = 0; written = 0; memory = m; listing = listing }) (after_set_up m file listing (set_up m n w v))).number ≡ 14 → ⊥)
          → cond t (record { number = 14; entries = 0; written = 0; memory = m; listing = listing }) (after_set_up m file listing (set_up m n w v)) ≡ after_set_up m file listing (set_up m n w v)
      go true g = absurd (g refl)
      go false g = refl

  abbrev ran : ℕ → Ended
  ran j = cond (eqb j 0) (run_listed (as_bench station.1) file listing) (ended (begun false m listing j))

  module _ (z : station.0 ≡ 0) where
    one : One station.1 (set_up m n w v).1
    one = record { same = ap (λ (x : ℕ × Memory). x.1) set_up_lem; says = λ cs c. one_record_is_the_bench.runs s shaped n w v z cs c }

    run : ((run_listed (as_bench station.1) file listing).number ≡ 14 → ⊥) → returned (run_listed (as_bench station.1) file listing) ≡ (run_file file station.1).0
    unfolding run_listed run_file
    run h = go (eqb (file_number file) 0) h
      where
        begins : Progress
        begins = begun false (as_bench station.1) listing 0

        go : (t : Bool) → ((cond t (ended (obey_all (decode file) begins)) (ended (begun false (as_bench station.1) listing (file_number file)))).number ≡ 14 → ⊥)
            → returned (cond t (ended (obey_all (decode file) begins)) (ended (begun false (as_bench station.1) listing (file_number file))))
            ≡ (cond t (run_records 0 (decode file) station.1) (record { number = file_number file; done = 0 }, station.1)).0
        go true g = all_records (decode file) station.1 (set_up m n w v).1 one begins one.same refl 0 refl g
        go false g = refl

pub every_listed_run : EveryListedRun
every_listed_run s shaped n w k file listing = record {
  ran = λ z h.
      let e : listed s n w k file listing ≡ run_listed (as_bench (prepared s n w k file listing).1) file listing
      = behind s shaped n w k file listing h ∙ ap (ran s shaped n w k file listing) z in
      ap returned e ∙ run s shaped n w k file listing z (λ g. h (ap (λ (x : Ended). x.number) e ∙ g));
  refused = λ y h.
      let j = (prepared s n w k file listing).0 in
      ap returned (behind s shaped n w k file listing h)
      ∙ ap (λ (t : Bool). returned (cond t (run_listed (as_bench (prepared s n w k file listing).1) file listing) (ended (begun false (as_bench s) listing j)))) (ne_eqb j 0 y);
}

-- the library's bench
own_shaped : StationShaped own_station
own_shaped = record {
  tables = refl;
  bank = λ j h. ap (λ (t : Tables). length t.bank) (get_or-replicate 8 j empty_tables no_tables h);
  help = λ j h. ap (λ (t : Tables). length t.help) (get_or-replicate 8 j empty_tables no_tables h);
  holdings = λ p h. ap (λ (q : StationProcess). length q.holdings) (get_or-replicate 16 p empty_process no_station_process h);
}

pub every_exported_run : EveryExportedRun
every_exported_run n w k file bytes z h = (every_listed_run own_station own_shaped n w k file bytes).ran z h
