-- What is promised of a text run on a station.
use mathlib.Core.Path.{◌≡◌, refl, sym, ap, ap₂, ◌∙◌}
use mathlib.Core.Bool.{Bool, true, false, cond}
use mathlib.Core.List.{List, [], ◌∷◌, map}
use Prim.Native.Nat.{ℕ, ◌+◌, ◌<◌}
use native.Mathlib.Decide.{ℕ_discrete, dec_lt}
use native.Mathlib.Omega.{arith}
use lib.Dec.{eqb}
use lib.ListN.{length, get_or, set, length-map}
use lib.Seq.{sets, get_or-set_other}
use borrow.Author.Tests.{eq-eqb, ne_eqb}
use Rattle.model.specs.declared.Process.{Process}
use Rattle.model.specs.Sizes.{sequence_numbers}
use Rattle.model.specs.Records.{no_process}
use Rattle.model.specs.Machine.{Memory}
use Rattle.llsc.specs.Rows.{first}
use Rattle.model.specs.Refusals.{set_up_rows_of}
use Rattle.model.specs.SetUp.{numbers, process_at_set_up, at_set_up, set_up, set_up_refusal}
use Rattle.text_model.specs.TextRun.{run_text}
use Rattle.laws.proofs.ListFacts as L
use Rattle.linearization.proofs.ListFacts.{numbers_length, numbers_at}
use Rattle.station.specs.declared.RecordNumber.{RecordNumber}
use Rattle.station.specs.declared.Tables.{Tables}
use Rattle.station.specs.declared.Holding.{Holding}
use Rattle.station.specs.declared.StationProcess.{StationProcess}
use Rattle.station.specs.Station.{StationMemory, no_tables, no_holding, no_station_process, holding_at, process_at}
use Rattle.station.specs.Projection.{process_of, put_process}
use Rattle.station.specs.StationSetUp.{firsts, tables_at_set_up, holding_at_set_up, station_process_at_set_up, station_at_set_up, station_set_up, station_set_up_refusal}
use Rattle.station_facts.proofs.Firsts.{firsts_at, firsts_later, firsts_out, firsts_same}
use Rattle.station_facts.proofs.RecordRows.{one_block}
use Rattle.station_text_machine.specs.StationText.{record0, before_run, put_record, after_run, left_by, station_run_text}
use Rattle.station_text_machine.specs.TextPromises.{Stays, Record0Alone, TextSetUp}
use Rattle.station_text_machine.proofs.RunSizes.{Admits, admits}

-- what is put back keeps the other records
module _ (s : StationMemory) (m : Memory) (j : RecordNumber) (other : j.0 ≡ 0 → ⊥) where
  holding_put : (p : ℕ) (q : StationProcess) → holding_at (put_record m p q) j ≡ holding_at q j
  holding_put p q = get_or-set_other q.holdings 0 j.0 _ no_holding other

  holdings_stay : (p : ℕ) → Dec (p < m.bench.n) → Dec (p < length s.processes)
      → holding_at (get_or (firsts (put_record m) 0 m.bench.n s.processes) p no_station_process) j ≡ holding_at (process_at s p) j
  holdings_stay p (yes h) (yes l) =
      ap (λ (q : StationProcess). holding_at q j) (firsts_at (put_record m) 0 m.bench.n s.processes p no_station_process h l) ∙ holding_put (0 + p) (process_at s p)
  holdings_stay p (yes h) (no l) = ap (λ (q : StationProcess). holding_at q j) (firsts_out (put_record m) 0 m.bench.n s.processes p no_station_process (omega arith))
  holdings_stay p (no h) l = ap (λ (q : StationProcess). holding_at q j) (firsts_later (put_record m) 0 m.bench.n s.processes p no_station_process (omega arith))

  put_back_stays : Stays s (after_run s m) j
  put_back_stays = record {
    tables = get_or-set_other s.tables 0 j.0 _ no_tables other;
    holdings = λ p. holdings_stay p (dec_lt p m.bench.n) (dec_lt p (length s.processes));
  }

  left_stays : (t : Bool) → Stays s (cond t s (after_run s m)) j
  left_stays true = record { tables = refl; holdings = λ p. refl }
  left_stays false = put_back_stays

pub record_0_alone : Record0Alone
unfolding station_run_text
record_0_alone s text listing j other = let m = (run_text (before_run s) text listing).memory in left_stays s m j other (eqb m.bench.n 0)

-- one element set
set_one : {A : Type 0} (f : ℕ → A → A) (xs : List A) (d : A) → set xs 0 (f 0 (get_or xs 0 d)) ≡ firsts f 0 1 xs
set_one f [] d = refl
set_one f (x ∷ xs) d = refl

module _ (s : StationMemory) (n w : ℕ) (value : List ℕ) where
  abbrev rs : List Process
  rs = map (process_of record0) s.processes

  abbrev m : Memory
  m = at_set_up (before_run s) n w value

  number_same : set_up_refusal (before_run s) n w value ≡ station_set_up_refusal s n w 1 value
  unfolding station_set_up_refusal set_up_refusal
  number_same = ap (λ (k : ℕ). first (set_up_rows_of n w k (length s.words) (length value))) (length-map s.processes (process_of record0))

  module _ (a : Admits (before_run s) refl n) where
    abbrev new : List Process
    new = map process_at_set_up (numbers (sequence_numbers n) n)

    new_length : length new ≡ n
    new_length = length-map (numbers (sequence_numbers n) n) process_at_set_up ∙ numbers_length (sequence_numbers n) n

    -- a process record that a set-up wrote
    written : (p : ℕ) → p < n → get_or m.records p no_process ≡ process_at_set_up (sequence_numbers n + p)
    written p h =
        L.sets_front new rs p no_process (let x = new_length in omega arith) (let x = new_length in let y = a.lent in omega arith)
        ∙ L.map_at process_at_set_up (numbers (sequence_numbers n) n) p 0 no_process (let x = numbers_length (sequence_numbers n) n in omega arith)
        ∙ ap process_at_set_up (numbers_at (sequence_numbers n) n p h)

    process_same : (p : ℕ) (q : StationProcess) → p < n → put_record m p q ≡ station_process_at_set_up n 1 p q
    process_same p q h =
        ap (put_process record0 q) (written p h)
        ∙ ap (λ (hs : List Holding). record {
          holdings = hs;
          called = record { 0 = 0 };
          line = 0;
          word = 0;
          count = 0;
          b = record { 0 = 0 };
          c = record { 0 = 0 };
          d = record { 0 = 0 };
          e = record { 0 = 0 };
        }) (set_one (holding_at_set_up (sequence_numbers n + p)) q.holdings no_holding)

    memory_same : after_run s m ≡ station_at_set_up s n w 1 value
    memory_same =
        ap₂ (λ (ts : List Tables) (ps : List StationProcess). record { n = n; w = w; r = 1; tables = ts; processes = ps; words = m.words })
        (set_one (tables_at_set_up n) s.tables no_tables)
        (firsts_same (put_record m) (station_process_at_set_up n 1) 0 n s.processes (λ i q h. process_same (0 + i) q (omega arith)))
        ∙ ap (λ (v : List ℕ). record {
          n = n;
          w = w;
          r = 1;
          tables = firsts (tables_at_set_up n) 0 1 s.tables;
          processes = firsts (station_process_at_set_up n 1) 0 n s.processes;
          words = sets s.words 0 v;
        }) (sym (one_block n w value a.some))

pub text_set_up : TextSetUp
unfolding station_set_up set_up
text_set_up s n w value = go (ℕ_discrete k 0)
  where
    k : ℕ
    k = station_set_up_refusal s n w 1 value

    e : set_up_refusal (before_run s) n w value ≡ k
    e = number_same s n w value

    -- by a test of each number
    text_by : Bool → ℕ × StationMemory
    text_by b = (set_up_refusal (before_run s) n w value, left_by s (cond b (at_set_up (before_run s) n w value) (before_run s)))

    station_by : Bool → ℕ × StationMemory
    station_by b = (k, cond b (station_at_set_up s n w 1 value) s)

    go : Dec (k ≡ 0) → text_by (eqb (set_up_refusal (before_run s) n w value) 0) ≡ station_by (eqb k 0)
    go (yes z) =
        let a = admits (before_run s) refl n w value (e ∙ z) in
        let some : eqb n 0 ≡ false = ne_eqb n 0 (λ y. let x = a.some in omega arith) in
        ap text_by (eq-eqb _ 0 (e ∙ z)) ∙ ap₂ (λ (i : ℕ) (b : Bool). (i, cond b s (after_run s (m s n w value)))) e some
        ∙ ap (λ (t : StationMemory). (k, t)) (memory_same s n w value a) ∙ sym (ap station_by (eq-eqb k 0 z))
    go (no z) = ap text_by (ne_eqb _ 0 (λ y. z (sym e ∙ y))) ∙ ap (λ (i : ℕ). (i, s)) e ∙ sym (ap station_by (ne_eqb k 0 z))
