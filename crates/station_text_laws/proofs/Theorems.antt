-- A text run on a station is its set-up for one record, and then its own command on record 0 for each entry.
use mathlib.Core.Path.{◌≡◌, refl, sym, ap, subst, ◌∙◌}
use mathlib.Core.Bool.{Bool, true, false, cond}
use mathlib.Core.List.{List}
use Prim.Native.Nat.{ℕ}
use native.Mathlib.Decide.{ℕ_discrete}
use native.Mathlib.Omega.{arith}
use lib.Dec.{eqb, ltb}
use lib.ListN.{length, replicate, length-map}
use borrow.Author.Tests.{eq-eqb, ne_eqb}
use Rattle.model.specs.Machine.{Memory}
use Rattle.model.specs.SetUp.{at_set_up, set_up, set_up_refusal}
use Rattle.notation.specs.Grammar.{Said}
use Rattle.notation.specs.FirstLine.{read}
use Rattle.notation.specs.Readings.{Reading, right, wrong}
use Rattle.notation.proofs.ReadingLaws.{reader, one_reading}
use Rattle.text_runs.specs.TextRun as T
use Rattle.text_runs.specs.TextRun.{longest_text, room_needed}
use Rattle.text_model.specs.TextRun as bench
use Rattle.station.specs.Station.{StationMemory}
use Rattle.station.specs.Projection.{process_of}
use Rattle.station.specs.StationRefusals.{StationShaped}
use Rattle.station.specs.StationSetUp.{station_set_up}
use Rattle.station_laws.specs.OneRecord.{as_bench}
use Rattle.station_laws.proofs.Theorems.{one_record_is_the_bench}
use Rattle.station_text_machine.specs.StationText.{record0, before_run, after_run, left_by, StationEnded, on_station, station_run_text}
use Rattle.station_text_machine.proofs.RunSizes.{Admits, admits}
use Rattle.station_text_machine.proofs.Theorems.{text_set_up}
use Rattle.station_text_laws.specs.EntryByEntry.{station_machine, returned, EntryByEntry}
use Rattle.station_text_laws.proofs.Kept.{Kept, put_back, kept_after}
use Rattle.station_text_laws.proofs.Entries.{Run, Seen, seen_in, carry_all_same, carry_all_kept}

-- the end of a run on the station
module _ (s : StationMemory) (u : Run) (k : Kept s u.memory) where
  left_is : left_by s (as_bench u.memory) ≡ u.memory
  left_is =
      ap (λ (b : Bool). cond b s (after_run s (as_bench u.memory))) (ne_eqb u.memory.n 0 (λ z. let x = k.some in omega arith))
      ∙ put_back s u.memory k

  end_same : on_station s (bench.ended (seen_in u)) ≡ returned (T.ended station_machine u)
  end_same = ap (λ (m : StationMemory). record {
    number = u.stop;
    entries = u.entries;
    written = (T.ended station_machine u).written;
    memory = m;
    listing = (T.ended station_machine u).listing;
  }) left_is

module _ (s : StationMemory) (shaped : StationShaped s) (listing : List ℕ) (a : Said) where
  abbrev value : List ℕ
  value = replicate a.w a.initial

  abbrev alone : ℕ × Memory
  alone = set_up (before_run s) a.n a.w value

  abbrev station : ℕ × StationMemory
  station = station_set_up s a.n a.w 1 value

  numbers_same : alone.0 ≡ station.0
  numbers_same = ap (λ (x : ℕ × StationMemory). x.0) (text_set_up s a.n a.w value)

  -- an accepted set-up
  module _ (z : alone.0 ≡ 0) where
    admitted : Admits (before_run s) refl a.n
    unfolding set_up
    admitted = admits (before_run s) refl a.n a.w value z

    -- the bench that it leaves has N processes
    size : alone.1.bench.n ≡ a.n
    unfolding set_up
    size = ap (λ (b : Bool). (cond b (at_set_up (before_run s) a.n a.w value) (before_run s)).bench.n) (eq-eqb _ 0 z)

    station_is : station.1 ≡ after_run s alone.1
    station_is =
        sym (ap (λ (x : ℕ × StationMemory). x.1) (text_set_up s a.n a.w value))
        ∙ ap (λ (b : Bool). cond b s (after_run s alone.1)) (ne_eqb alone.1.bench.n 0 (λ y. let x = admitted.some in omega (arith, x, y, size)))

    kept : Kept s station.1
    kept =
        subst (Kept s) (sym station_is)
        (kept_after s shaped alone.1 (let x = admitted.some in omega (arith, x, size))
        (let x = admitted.lent in omega (arith, x, size, length-map s.processes (process_of record0))))

    -- and is that of record 0
    same_bench : alone.1 ≡ as_bench station.1
    unfolding set_up set_up_refusal
    same_bench =
        ap (λ (b : Bool). cond b (at_set_up (before_run s) a.n a.w value) (before_run s)) (eq-eqb _ 0 z)
        ∙ sym (ap (λ (b : Bool). cond b (at_set_up (as_bench s) a.n a.w value) (as_bench s)) (eq-eqb _ 0 z))
        ∙ sym (ap (λ (x : ℕ × Memory). x.1) (one_record_is_the_bench.set_up_lem s shaped a.n a.w value))

    accepted_same : on_station s (bench.ended (bench.carry_all a.entries (bench.begun false alone.1 listing 0)))
        ≡ returned (T.ended station_machine (T.carry_all station_machine a.entries (T.begun station_machine false station.1 listing 0)))
    accepted_same =
        let u : Run = T.begun station_machine false station.1 listing 0 in
        ap (λ (m : Memory). on_station s (bench.ended (bench.carry_all a.entries (bench.begun false m listing 0)))) same_bench
        ∙ ap (λ (x : Seen). on_station s (bench.ended x)) (carry_all_same s shaped a.entries u kept)
        ∙ end_same s (T.carry_all station_machine a.entries u) (carry_all_kept s shaped a.entries u kept)

  started_same : on_station s (bench.started false (before_run s) listing a alone) ≡ returned (T.started station_machine false s listing a station)
  started_same = go (ℕ_discrete alone.0 0)
    where
      -- by a test of each number
      alone_by : Bool → StationEnded
      alone_by b =
          on_station s (cond b (bench.ended (bench.carry_all a.entries (bench.begun false alone.1 listing 0))) (bench.ended (bench.begun false (before_run s) listing alone.0)))

      station_by : Bool → StationEnded
      station_by b = returned (cond b (T.ended station_machine (T.carry_all station_machine a.entries (T.begun station_machine false station.1 listing 0)))
          (T.ended station_machine (T.begun station_machine false s listing station.0)))

      go : Dec (alone.0 ≡ 0) → alone_by (eqb alone.0 0) ≡ station_by (eqb station.0 0)
      go (yes z) = ap alone_by (eq-eqb _ 0 z) ∙ accepted_same z ∙ sym (ap station_by (eq-eqb _ 0 (sym numbers_same ∙ z)))
      go (no n) =
          ap alone_by (ne_eqb _ 0 n) ∙ ap (λ (k : ℕ). returned (T.ended station_machine (T.begun station_machine false s listing k))) numbers_same
          ∙ sym (ap station_by (ne_eqb _ 0 (λ y. n (numbers_same ∙ y))))

-- by any reader of texts, as a text has one reading
pub entry_by_entry : EntryByEntry
unfolding station_run_text T.run_with
entry_by_entry s shaped r text listing =
    go (ltb (length listing) (room_needed false)) (ltb longest_text (length text)) (read text)
    ∙ ap (λ (x : Reading). returned (cond (ltb (length listing) (room_needed false)) room (cond (ltb longest_text (length text)) long (T.carried_out station_machine false s listing x))))
    (one_reading text (read text) (r.read text) (reader.reads text) (r.reads text))
  where
    room : T.Ended station_machine
    room = record { number = 14; entries = 0; written = 0; memory = s; listing = listing }

    long : T.Ended station_machine
    long = T.ended station_machine (T.begun station_machine false s listing 12)

    go : (a b : Bool) (x : Reading)
        → on_station s (cond a (record { number = 14; entries = 0; written = 0; memory = before_run s; listing = listing })
        (cond b (bench.ended (bench.begun false (before_run s) listing 12)) (bench.carried_out false (before_run s) listing x)))
        ≡ returned (cond a room (cond b long (T.carried_out station_machine false s listing x)))
    go true b x = refl
    go false true x = refl
    go false false (right a) = started_same s shaped listing a
    go false false (wrong k left) = refl
