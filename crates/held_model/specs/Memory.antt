-- The memory of a station that a list of numbers stands for. Nothing is cut: a number too large for its field is out of
-- its range in that memory, and row 9 says so.
use Rattle.std.specs.Prelude.{ℕ, ◌+◌, List, map, not, cond, eqb, ltb, get_or, drop}
use Rattle.model.specs.Places.{XPlace, BankPlace, HelpPlace}
use Rattle.model.specs.SetUp.{numbers}
use Rattle.station.specs.declared.Tables.{Tables}
use Rattle.station.specs.declared.Holding.{Holding}
use Rattle.station.specs.declared.StationProcess.{StationProcess}
use Rattle.station.specs.Station.{StationMemory, no_holding}
use Rattle.station.specs.StationSetUp.{empty_tables}
use Rattle.held_model.specs.Layout.{call_place, record_place, bank_place, help_place, holding_place, words_place}

-- the number at a place, 0 past the end: so rows 1, 2, 23 and 3 refuse a short list, in their order
abbrev pub number_at : List ℕ → ℕ → ℕ
number_at l k = get_or l k 0

-- X, a place of Bank, a place of Help, and what a process holds of a record, whose numbers begin at k
abbrev pub x_from : List ℕ → ℕ → XPlace
x_from l k = record {
  content = record { buf = record { 0 = number_at l k }; seq = record { 0 = number_at l (k + 1) } };
  links = number_at l (k + 2);
}

abbrev pub bank_from : List ℕ → ℕ → BankPlace
bank_from l k = record { content = record { 0 = number_at l k }; links = number_at l (k + 1) }

abbrev pub help_from : List ℕ → ℕ → HelpPlace
help_from l k = record {
  content = record { flag = number_at l k; buf = record { 0 = number_at l (k + 1) } };
  links = number_at l (k + 2);
}

-- a mark of 0 says that no LL was answered, every other that one was
abbrev pub holding_from : List ℕ → ℕ → Holding
holding_from l k = record {
  mybuf = record { 0 = number_at l k };
  x = record { buf = record { 0 = number_at l (k + 1) }; seq = record { 0 = number_at l (k + 2) } };
  answered = not (eqb (number_at l (k + 3)) 0);
}

-- record j's tables, and what process p holds of it
abbrev pub tables_from : List ℕ → ℕ → Tables
tables_from l j = record {
  x = x_from l (record_place j);
  bank = map (λ i. bank_from l (bank_place j i)) (numbers 0 32);
  help = map (λ p. help_from l (help_place j p)) (numbers 0 16);
}

abbrev pub held_from : List ℕ → ℕ → ℕ → Holding
held_from l p j = holding_from l (holding_place j p)

-- a list that is laid out for r records has no numbers for others
abbrev pub tables_in : ℕ → List ℕ → ℕ → Tables
tables_in r l j = cond (ltb j r) (tables_from l j) empty_tables

abbrev pub holding_in : ℕ → List ℕ → ℕ → ℕ → Holding
holding_in r l p j = cond (ltb j r) (held_from l p j) no_holding

abbrev pub process_in : ℕ → List ℕ → ℕ → StationProcess
process_in r l p = record {
  holdings = map (holding_in r l p) (numbers 0 8);
  called = record { 0 = number_at l (call_place p + 3) };
  line = number_at l (call_place p);
  word = number_at l (call_place p + 1);
  count = number_at l (call_place p + 2);
  b = record { 0 = number_at l (call_place p + 4) };
  c = record { 0 = number_at l (call_place p + 5) };
  d = record { 0 = number_at l (call_place p + 6) };
  e = record { 0 = number_at l (call_place p + 7) };
}

-- a list as it is laid out for r records: eight tables, sixteen processes, and as many words as there are numbers left
abbrev pub laid_out : ℕ → List ℕ → StationMemory
laid_out r l = record {
  n = number_at l 0;
  w = number_at l 1;
  r = number_at l 2;
  tables = map (tables_in r l) (numbers 0 8);
  processes = map (process_in r l) (numbers 0 16);
  words = drop (words_place r) l;
}

-- the memory that a list stands for: it says itself for how many records it is laid out
abbrev pub memory_of : List ℕ → StationMemory
memory_of l = laid_out (number_at l 2) l
