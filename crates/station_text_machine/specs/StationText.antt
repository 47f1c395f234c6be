-- A text run on a station: "Text and listing keep to one record", record 0. It is the bench's own text run on record 0,
-- put back as a station of one record.
use Rattle.std.specs.Prelude.{ℕ, List, map, cond, eqb, set}
use Rattle.model.specs.declared.Bench.{Bench}
use Rattle.model.specs.declared.Process.{Process}
use Rattle.model.specs.Records.{record_at}
use Rattle.model.specs.Machine.{Memory}
use Rattle.text_model.specs.TextRun.{Ended, run_text}
use Rattle.station.specs.declared.RecordNumber.{RecordNumber}
use Rattle.station.specs.declared.Tables.{Tables}
use Rattle.station.specs.declared.StationProcess.{StationProcess}
use Rattle.station.specs.Station.{StationMemory, tables_at}
use Rattle.station.specs.Projection.{process_of, put_tables, put_process}
use Rattle.station.specs.StationSetUp.{firsts}

abbrev pub record0 : RecordNumber
record0 = record { 0 = 0 }

-- A bench that is not set up: N and W are 0. (A text run makes its own set-up and reads no old N and W.)
abbrev pub unsized : Tables → Bench
unsized t = record { n = 0; w = 0; x = t.x; bank = t.bank; help = t.help }

-- record 0 as the text run finds it
abbrev pub before_run : StationMemory → Memory
before_run s = record { bench = unsized (tables_at s record0); records = map (process_of record0) s.processes; words = s.words }

-- Put back: N, W, R = 1, record 0's tables, what each of the N processes holds of record 0 and its line, word place,
-- count, b, c, d and e, and the words. The other records' tables and what a process holds of them stay.
abbrev pub put_record : Memory → ℕ → StationProcess → StationProcess
put_record m p q = put_process record0 q (record_at m.records (record { 0 = p }))

abbrev pub after_run : StationMemory → Memory → StationMemory
after_run s m = record {
  n = m.bench.n;
  w = m.bench.w;
  r = 1;
  tables = set s.tables 0 (put_tables m.bench);
  processes = firsts (put_record m) 0 m.bench.n s.processes;
  words = m.words;
}

-- "From the set-up on, memory stays as it and the entries done left it; before it, only the listing changes, by its last
-- line." Where N is still 0, the run was refused before its set-up.
abbrev pub left_by : StationMemory → Memory → StationMemory
left_by s m = cond (eqb m.bench.n 0) s (after_run s m)

-- "Every text run returns a number (0 at `end`), the entries done and the count of listing bytes written."
pub record StationEnded : Type 0 where
  pub number : ℕ
  pub entries : ℕ
  pub written : ℕ
  pub memory : StationMemory
  pub listing : List ℕ

abbrev pub on_station : StationMemory → Ended → StationEnded
on_station s e = record { number = e.number; entries = e.entries; written = e.written; memory = left_by s e.memory; listing = e.listing }

unfoldable pub station_run_text : StationMemory → List ℕ → List ℕ → StationEnded
station_run_text s text listing = on_station s (run_text (before_run s) text listing)
