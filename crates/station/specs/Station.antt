-- The memory of a station: "A station will share 1 to 8 records among its N processes." Its tables, its process records
-- and where its words lie.
use Rattle.std.specs.Prelude.{ℕ, ◌+◌, ◌*◌, List, [], false, get_or, take, drop}
use Rattle.model.specs.declared.BufferNumber.{BufferNumber}
use Rattle.llsc.specs.declared.ProcessNumber.{ProcessNumber}
use Rattle.model.specs.Sizes.{buffers}
use Rattle.model.specs.Words.{Layout, buffer_in, return_in, offer_in}
use Rattle.model.specs.Points.{line_number, idle}
use Rattle.model.specs.SetUp.{x_at_set_up}
use Rattle.station.specs.declared.RecordNumber.{RecordNumber}
use Rattle.station.specs.declared.Tables.{Tables}
use Rattle.station.specs.declared.Holding.{Holding}
use Rattle.station.specs.declared.StationProcess.{StationProcess}
use Rattle.station.specs.declared.Station.{Station}

-- All lent memory: the station record (N, W, R and the tables of each record), the process records, the words.
pub record StationMemory : Type 0 where
  pub n : ℕ
  pub w : ℕ
  pub r : ℕ
  pub tables : List Tables
  pub processes : List StationProcess
  pub words : List ℕ

abbrev pub station_memory : Station → List StationProcess → List ℕ → StationMemory
station_memory s ps ws = record { n = s.n; w = s.w; r = s.r; tables = s.tables; processes = ps; words = ws }

-- "The words lent become (3R + 2) × N × W for R records."
abbrev pub station_words : ℕ → ℕ → ℕ → ℕ
station_words n w r = (3 * r + 2) * n * w

-- what stands past the end of a table
abbrev pub no_tables : Tables
no_tables = record { x = x_at_set_up; bank = []; help = [] }

abbrev pub no_holding : Holding
no_holding = record { mybuf = record { 0 = 0 }; x = record { buf = record { 0 = 0 }; seq = record { 0 = 0 } }; answered = false }

abbrev pub no_station_process : StationProcess
no_station_process = record {
  holdings = [];
  called = record { 0 = 0 };
  line = line_number idle;
  word = 0;
  count = 0;
  b = record { 0 = 0 };
  c = record { 0 = 0 };
  d = record { 0 = 0 };
  e = record { 0 = 0 };
}

-- "Each record has its own X, Bank, Help, buffers and links": the tables of record j
abbrev pub tables_at : StationMemory → RecordNumber → Tables
tables_at s j = get_or s.tables j.0 no_tables

-- "a process has for each record its own mybuf, x and mark of an answered LL"
abbrev pub holding_at : StationProcess → RecordNumber → Holding
holding_at q j = get_or q.holdings j.0 no_holding

abbrev pub process_at : StationMemory → ℕ → StationProcess
process_at s p = get_or s.processes p no_station_process

-- The words, in rows of W: BUF of record 0, of record 1, and so on, 3N rows each; then the N return areas and the N
-- offer areas, which the records share, as a process has "only one open call".
abbrev pub station_layout : ℕ → ℕ → RecordNumber → Layout
station_layout n r j = record { buffer = λ b. j.0 * buffers n + b; returns = r * buffers n; offers = r * buffers n + n }

abbrev pub layout_of : StationMemory → RecordNumber → Layout
layout_of s j = station_layout s.n s.r j

-- BUF[b] of record j, and the areas of p
abbrev pub buffer_of : StationMemory → RecordNumber → BufferNumber → List ℕ
buffer_of s j b = take s.w (drop (buffer_in (layout_of s j) s.w b 0) s.words)

abbrev pub return_area_of : StationMemory → ProcessNumber → List ℕ
return_area_of s p = take s.w (drop (return_in (layout_of s (record { 0 = 0 })) s.w p 0) s.words)

abbrev pub offer_area_of : StationMemory → ProcessNumber → List ℕ
offer_area_of s p = take s.w (drop (offer_in (layout_of s (record { 0 = 0 })) s.w p 0) s.words)
