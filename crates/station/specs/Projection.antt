-- One record's bench, seen in a station and put back into it.
use Rattle.std.specs.Prelude.{ℕ, List, map, Bool, not, ◌&&◌, cond, eqb, set}
use Rattle.model.specs.declared.Bench.{Bench}
use Rattle.model.specs.declared.Process.{Process}
use Rattle.model.specs.declared.Reply.{Reply}
use Rattle.model.specs.declared.Moved.{Moved}
use Rattle.model.specs.Machine.{Memory}
use Rattle.model.specs.Refusals.{is_idle}
use Rattle.model.specs.Points.{line_number, idle}
use Rattle.station.specs.declared.RecordNumber.{RecordNumber}
use Rattle.station.specs.declared.Tables.{Tables}
use Rattle.station.specs.declared.StationProcess.{StationProcess}
use Rattle.station.specs.Station.{StationMemory, tables_at, holding_at, process_at}

-- the bench record of record j: N, W and its own tables
abbrev pub bench_of : StationMemory → RecordNumber → Bench
bench_of s j = record { n = s.n; w = s.w; x = (tables_at s j).x; bank = (tables_at s j).bank; help = (tables_at s j).help }

-- a process with no open call
abbrev pub at_rest : StationProcess → Bool
at_rest q = eqb q.line (line_number idle)

-- the open call is on another record than j
abbrev pub elsewhere : RecordNumber → StationProcess → Bool
elsewhere j q = not (at_rest q) && not (eqb q.called.0 j.0)

-- The process record as record j's bench has it: idle if the open call is on another record. An idle process shows its
-- word place and its count to every record.
abbrev pub process_of : RecordNumber → StationProcess → Process
process_of j q = record {
  mybuf = (holding_at q j).mybuf;
  x = (holding_at q j).x;
  line = cond (elsewhere j q) 0 q.line;
  word = cond (elsewhere j q) 0 q.word;
  count = cond (elsewhere j q) 0 q.count;
  answered = (holding_at q j).answered;
  b = q.b;
  c = q.c;
  d = q.d;
  e = q.e;
}

-- Put back: the tables of a bench, and what its step made of a process. "The process record gains these sets and the
-- open call's record number, 0 when idle."
abbrev pub put_tables : Bench → Tables
put_tables b = record { x = b.x; bank = b.bank; help = b.help }

abbrev pub put_process : RecordNumber → StationProcess → Process → StationProcess
put_process j q u = record {
  holdings = set q.holdings j.0 (record { mybuf = u.mybuf; x = u.x; answered = u.answered });
  called = record { 0 = cond (is_idle u) 0 j.0 };
  line = u.line;
  word = u.word;
  count = u.count;
  b = u.b;
  c = u.c;
  d = u.d;
  e = u.e;
}

-- what record j's bench made of an order to process p, put back into all lent memory
abbrev pub embed : StationMemory → RecordNumber → ℕ → Moved × List ℕ → Reply × StationMemory
embed s j p out = (
  out.0.reply,
  record {
    n = s.n;
    w = s.w;
    r = s.r;
    tables = set s.tables j.0 (put_tables out.0.bench);
    processes = set s.processes p (put_process j (process_at s p) out.0.process);
    words = out.1;
  },
)

-- record j's tables and process records, for statements about a bench
abbrev pub project : StationMemory → RecordNumber → Memory
project s j = record { bench = bench_of s j; records = map (process_of j) s.processes; words = s.words }
