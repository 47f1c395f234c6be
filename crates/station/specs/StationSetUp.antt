-- The set-up of a station: "All records begin with the one value." Memory beyond what N, W and R need stays.
use Rattle.std.specs.Prelude.{ℕ, zero, suc, ◌+◌, ◌-◌, ◌*◌, List, [], ◌∷◌, ◌++◌, map, false, cond, eqb, replicate}
use Rattle.std.proofs.lemmas.List.Edits.{sets}
use Rattle.model.specs.Sizes.{buffers, sequence_numbers}
use Rattle.model.specs.Points.{line_number, idle}
use Rattle.llsc.specs.Rows.{first}
use Rattle.model.specs.SetUp.{numbers, x_at_set_up, bank_at_set_up, help_at_set_up}
use Rattle.station.specs.declared.Tables.{Tables}
use Rattle.station.specs.declared.Holding.{Holding}
use Rattle.station.specs.declared.StationProcess.{StationProcess}
use Rattle.station.specs.declared.Station.{Station}
use Rattle.station.specs.Station.{StationMemory, no_holding}
use Rattle.station.specs.StationRefusals.{station_set_up_rows}

-- a station record and a process record before any set-up, for a program to lend
abbrev pub empty_tables : Tables
empty_tables = record { x = x_at_set_up; bank = replicate 32 (bank_at_set_up 0); help = replicate 16 help_at_set_up }

abbrev pub empty_station : Station
empty_station = record { n = 0; w = 0; r = 0; tables = replicate 8 empty_tables }

abbrev pub empty_process : StationProcess
empty_process = record {
  holdings = replicate 8 no_holding;
  called = record { 0 = 0 };
  line = line_number idle;
  word = 0;
  count = 0;
  b = record { 0 = 0 };
  c = record { 0 = 0 };
  d = record { 0 = 0 };
  e = record { 0 = 0 };
}

-- f on the first c elements, with their numbers from a on; the rest stays
abbrev pub firsts : {A : Type 0} → (ℕ → A → A) → ℕ → ℕ → List A → List A
firsts f a zero xs = xs
firsts f a (suc c) [] = []
firsts f a (suc c) (x ∷ xs) = f a x ∷ firsts f (suc a) c xs

-- the tables of a record, as 01's set-up has them
abbrev pub tables_at_set_up : ℕ → ℕ → Tables → Tables
tables_at_set_up n j t = record { x = x_at_set_up; bank = sets t.bank 0 (map bank_at_set_up (numbers 0 (sequence_numbers n))); help = sets t.help 0 (replicate n help_at_set_up) }

-- what a process holds of a record: "mybuf of p = 2N + p", "every x is (0, 0)", no LL answered
abbrev pub holding_at_set_up : ℕ → ℕ → Holding → Holding
holding_at_set_up mine j h = record { mybuf = record { 0 = mine }; x = record { buf = record { 0 = 0 }; seq = record { 0 = 0 } }; answered = false }

-- "all processes idle; .. other private numbers 0"
abbrev pub station_process_at_set_up : ℕ → ℕ → ℕ → StationProcess → StationProcess
station_process_at_set_up n r p q = record {
  holdings = firsts (holding_at_set_up (sequence_numbers n + p)) 0 r q.holdings;
  called = record { 0 = 0 };
  line = line_number idle;
  word = 0;
  count = 0;
  b = record { 0 = 0 };
  c = record { 0 = 0 };
  d = record { 0 = 0 };
  e = record { 0 = 0 };
}

-- the words of r records: BUF[0] of each is the value, every other word 0
abbrev pub blocks : ℕ → ℕ → ℕ → List ℕ → List ℕ
blocks zero n w value = replicate (2 * n * w) 0
blocks (suc r) n w value = (value ++ replicate (buffers n * w - w) 0) ++ blocks r n w value

abbrev pub station_at_set_up : StationMemory → ℕ → ℕ → ℕ → List ℕ → StationMemory
station_at_set_up s n w r value = record {
  n = n;
  w = w;
  r = r;
  tables = firsts (tables_at_set_up n) 0 r s.tables;
  processes = firsts (station_process_at_set_up n r) 0 n s.processes;
  words = sets s.words 0 (blocks r n w value);
}

-- the number of a set-up's refusal, 0 for none
unfoldable pub station_set_up_refusal : StationMemory → ℕ → ℕ → ℕ → List ℕ → ℕ
station_set_up_refusal s n w r value = first (station_set_up_rows s n w r value)

-- A set-up for N = n, W = w and R = r with the given value: the number of its refusal, 0 for none, and the memory
-- after it.
unfoldable pub station_set_up : StationMemory → ℕ → ℕ → ℕ → List ℕ → ℕ × StationMemory
station_set_up s n w r value = (station_set_up_refusal s n w r value, cond (eqb (station_set_up_refusal s n w r value) 0) (station_at_set_up s n w r value) s)
