-- A set-up for one record is the bench's set-up.
use mathlib.Core.Path.{◌≡◌, sym, ap, ap₂, ◌∙◌}
use mathlib.Core.Bool.{Bool, cond}
use mathlib.Core.List.{List, ◌++◌, map, append_assoc}
use Prim.Native.Nat.{ℕ, ◌+◌, ◌-◌, ◌*◌, ◌≤◌, ◌<◌}
use native.Mathlib.Nat.{mul-le-mul_right}
use native.Mathlib.Decide.{ℕ_discrete, dec_lt}
use native.Mathlib.Omega.{arith}
use lib.Dec.{eqb}
use borrow.Author.Tests.{eq-eqb, ne_eqb}
use lib.ListN.{length, get_or, replicate, length-map, replicate-append-replicate}
use lib.Seq.{sets, length-sets, ext_get_or}
use Rattle.model.specs.declared.Process.{Process}
use Rattle.model.specs.Sizes.{buffers, sequence_numbers, lent_words}
use Rattle.model.specs.Records.{no_process}
use Rattle.model.specs.Machine.{Memory}
use Rattle.llsc.specs.Rows.{first}
use Rattle.model.specs.Refusals.{set_up_rows_of}
use Rattle.model.specs.SetUp.{numbers, process_at_set_up, records_at_set_up, at_set_up, set_up, set_up_refusal}
use Rattle.laws.proofs.ListFacts.{sets_out, sets_front, map_at}
use Rattle.linearization.proofs.ListFacts.{numbers_length, numbers_at}
use Rattle.station.specs.declared.Tables.{Tables}
use Rattle.station.specs.Station.{StationMemory, no_tables, no_holding, no_station_process, tables_at, process_at}
use Rattle.station.specs.Projection.{process_of}
use Rattle.station.specs.StationRefusals.{StationShaped}
use Rattle.station.specs.StationSetUp.{firsts, tables_at_set_up, holding_at_set_up, station_process_at_set_up, blocks, station_at_set_up, station_set_up, station_set_up_refusal}
use Rattle.station_laws.specs.OneRecord.{as_bench, OneRecordSetUp}
use Rattle.station_facts.proofs.Firsts.{firsts_at, firsts_length, firsts_later}
use Rattle.station_laws.proofs.StationSetUpLaws.{holding_only, StationAdmitted, station_admits}
use Rattle.station_laws.proofs.OneRecordLaws.{only, shown}

module _ (s : StationMemory) (shaped : StationShaped s) (n w : ℕ) (value : List ℕ) where
  number_same : station_set_up_refusal s n w 1 value ≡ set_up_refusal (as_bench s) n w value
  unfolding station_set_up_refusal set_up_refusal
  number_same = ap (λ (k : ℕ). first (set_up_rows_of n w k (length s.words) (length value))) (sym (length-map s.processes (process_of only)))

  module _ (a : StationAdmitted s n w 1 value) where
    abbrev s' : StationMemory
    s' = station_at_set_up s n w 1 value

    tables_same : tables_at s' only ≡ tables_at_set_up n 0 (tables_at s only)
    tables_same = firsts_at (tables_at_set_up n) 0 1 s.tables 0 no_tables (omega arith) (let x = shaped.tables in omega arith)

    abbrev mine : ℕ → ℕ
    mine i = sequence_numbers n + i

    holding_same : (i : ℕ) → i < n → get_or (firsts (holding_at_set_up (mine i)) 0 1 (process_at s i).holdings) 0 no_holding ≡ holding_at_set_up (mine i) 0 no_holding
    holding_same i hi =
        let l : i < length s.processes = (let y = a.processes in omega arith) in
        firsts_at (holding_at_set_up (mine i)) 0 1 (process_at s i).holdings 0 no_holding (omega arith) (let x = shaped.holdings i l in omega arith)

    abbrev new : List Process
    new = map process_at_set_up (numbers (sequence_numbers n) n)

    new_length : length new ≡ n
    new_length = length-map (numbers (sequence_numbers n) n) process_at_set_up ∙ numbers_length (sequence_numbers n) n

    records_same : map (process_of only) s'.processes ≡ records_at_set_up (map (process_of only) s.processes) n
    records_same = ext_get_or no_process (map (process_of only) s'.processes) (sets (map (process_of only) s.processes) 0 new)
        (length-map s'.processes (process_of only) ∙ firsts_length (station_process_at_set_up n 1) 0 n s.processes
        ∙ sym (length-map s.processes (process_of only)) ∙ sym (length-sets (map (process_of only) s.processes) 0 new))
        (λ i hi. shown s'.processes i ∙ each i (dec_lt i n))
      where
        each : (i : ℕ) → Dec (i < n) → process_of only (get_or s'.processes i no_station_process) ≡ get_or (sets (map (process_of only) s.processes) 0 new) i no_process
        each i (yes h) =
            ap (process_of only) (firsts_at (station_process_at_set_up n 1) 0 n s.processes i no_station_process h (let x = a.processes in omega arith)
            ∙ ap (λ k. station_process_at_set_up n 1 k (process_at s i)) (let z : 0 + i ≡ i = omega arith in z))
            ∙ ap holding_only (holding_same i h)
            ∙ sym (ap process_at_set_up (numbers_at (sequence_numbers n) n i h))
            ∙ sym (map_at process_at_set_up (numbers (sequence_numbers n) n) i 0 no_process (let x = numbers_length (sequence_numbers n) n in omega arith))
            ∙ sym (sets_front new (map (process_of only) s.processes) i no_process (let x = new_length in omega arith)
            (let x = new_length in let y = length-map s.processes (process_of only) in let z = a.processes in omega arith))
        each i (no h) =
            ap (process_of only) (firsts_later (station_process_at_set_up n 1) 0 n s.processes i no_station_process (omega arith)) ∙ sym (shown s.processes i)
            ∙ sym (sets_out new (map (process_of only) s.processes) 0 i no_process (λ x y. let z = new_length in omega arith))

    words_same : blocks 1 n w value ≡ value ++ replicate (lent_words n w - w) 0
    words_same =
        let y : 1 * w ≤ buffers n * w = mul-le-mul_right w (let x = a.n_low in omega arith) in
        let z : buffers n * w - w + 2 * n * w ≡ lent_words n w - w = omega arith in
        append_assoc value (replicate (buffers n * w - w) 0) (replicate (2 * n * w) 0)
        ∙ ap (λ (r : List ℕ). value ++ r) (replicate-append-replicate (buffers n * w - w) (2 * n * w) 0 ∙ ap (λ (k : ℕ). replicate k 0) z)

    memory_same : as_bench s' ≡ at_set_up (as_bench s) n w value
    memory_same =
        ap₂ (λ (t : Tables) (rs : List Process). record { bench = record { n = n; w = w; x = t.x; bank = t.bank; help = t.help }; records = rs; words = s'.words }) tables_same records_same
        ∙ ap (λ (v : List ℕ). record { bench = (at_set_up (as_bench s) n w value).bench; records = records_at_set_up (map (process_of only) s.processes) n; words = sets s.words 0 v }) words_same

pub one_record_set_up : OneRecordSetUp
unfolding station_set_up set_up
one_record_set_up s shaped n w value = go (ℕ_discrete k 0)
  where
    k : ℕ
    k = station_set_up_refusal s n w 1 value

    e : k ≡ set_up_refusal (as_bench s) n w value
    e = number_same s shaped n w value

    -- by a test of each number
    station_by : Bool → ℕ × Memory
    station_by b = (k, as_bench (cond b (station_at_set_up s n w 1 value) s))

    bench_by : Bool → ℕ × Memory
    bench_by b = (set_up_refusal (as_bench s) n w value, cond b (at_set_up (as_bench s) n w value) (as_bench s))

    go : Dec (k ≡ 0) → station_by (eqb k 0) ≡ bench_by (eqb (set_up_refusal (as_bench s) n w value) 0)
    go (yes z) =
        let a = station_admits s n w 1 value z in
        ap station_by (eq-eqb k 0 z) ∙ ap₂ (λ (i : ℕ) (m : Memory). (i, m)) e (memory_same s shaped n w value a) ∙ sym (ap bench_by (eq-eqb _ 0 (sym e ∙ z)))
    go (no z) = ap station_by (ne_eqb k 0 z) ∙ ap (λ (i : ℕ). (i, as_bench s)) e ∙ sym (ap bench_by (ne_eqb _ 0 (λ y. z (e ∙ y))))
