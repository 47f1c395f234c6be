-- A bench lent as a station of one record.
use mathlib.Core.Path.{◌≡◌, refl, ap, ap₂, ◌∙◌}
use mathlib.Core.Bool.{Bool, true, false, not, ◌&&◌, cond}
use mathlib.Core.List.{List, [], ◌∷◌, map}
use Prim.Native.Nat.{ℕ, zero, suc, ◌<◌}
use native.Mathlib.Omega.{arith}
use lib.Dec.{eqb}
use lib.ListN.{length, get_or, replicate, length-map}
use Rattle.model.specs.declared.Process.{Process}
use Rattle.model.specs.Records.{no_process}
use Rattle.model.specs.Points.{line_number, idle}
use Rattle.model.specs.Machine.{Memory, Shaped}
use Rattle.laws.proofs.ListFacts.{map_at}
use Rattle.station.specs.declared.Tables.{Tables}
use Rattle.station.specs.declared.StationProcess.{StationProcess}
use Rattle.station.specs.Station.{StationMemory, no_tables, no_station_process}
use Rattle.station.specs.Projection.{process_of}
use Rattle.station.specs.StationRefusals.{StationShaped}
use Rattle.station_laws.specs.OneRecord.{as_bench}

abbrev as_process : Process → StationProcess
as_process q = record {
  holdings = replicate 8 (record { mybuf = q.mybuf; x = q.x; answered = q.answered });
  called = record { 0 = 0 };
  line = q.line;
  word = q.word;
  count = q.count;
  b = q.b;
  c = q.c;
  d = q.d;
  e = q.e;
}

abbrev pub as_station : Memory → StationMemory
as_station m = record {
  n = m.bench.n;
  w = m.bench.w;
  r = 1;
  tables = replicate 8 (record { x = m.bench.x; bank = m.bench.bank; help = m.bench.help });
  processes = map as_process m.records;
  words = m.words;
}

-- seen as a bench again
nowhere_else : (t : Bool) → (t && false) ≡ false
nowhere_else true = refl
nowhere_else false = refl

process_back : (q : Process) → process_of (record { 0 = 0 }) (as_process q) ≡ q
process_back q =
    let With : Bool → Process = λ t. record {
      mybuf = q.mybuf;
      x = q.x;
      line = cond t 0 q.line;
      word = cond t 0 q.word;
      count = cond t 0 q.count;
      answered = q.answered;
      b = q.b;
      c = q.c;
      d = q.d;
      e = q.e;
    } in
    ap With (nowhere_else (not (eqb q.line (line_number idle))))

processes_back : (qs : List Process) → map (process_of (record { 0 = 0 })) (map as_process qs) ≡ qs
processes_back [] = refl
processes_back (q ∷ qs) = ap₂ ◌∷◌ (process_back q) (processes_back qs)

pub bench_again : (m : Memory) → as_bench (as_station m) ≡ m
bench_again m = ap (λ (qs : List Process). record { bench = m.bench; records = qs; words = m.words }) (processes_back m.records)

-- its tables and process records have the declared lengths
each : {A : Type 0} (n : ℕ) (x d : A) (j : ℕ) → j < n → get_or (replicate n x) j d ≡ x
each zero x d j h = absurd (omega arith)
each (suc n) x d zero h = refl
each (suc n) x d (suc j) h = each n x d j (omega arith)

pub as_shaped : (m : Memory) → Shaped m → StationShaped (as_station m)
as_shaped m h =
    let t : Tables = record { x = m.bench.x; bank = m.bench.bank; help = m.bench.help } in
    record {
      tables = refl;
      bank = λ j hj. ap (λ (k : Tables). length k.bank) (each 8 t no_tables j hj) ∙ h.bank;
      help = λ j hj. ap (λ (k : Tables). length k.help) (each 8 t no_tables j hj) ∙ h.help;
      holdings = λ p hp. ap (λ (q : StationProcess). length q.holdings) (map_at as_process m.records p no_process no_station_process (omega (arith, length-map m.records as_process)));
    }
