-- The memory of Moir's bench that a list of numbers stands for. Nothing is cut: a number too large for its field is out
-- of its range in that memory, and row 9 says so.
use Rattle.std.specs.Prelude.{ℕ, ◌+◌, List, map, not, eqb, drop}
use Rattle.model.specs.SetUp.{numbers}
use Rattle.held_model.specs.Memory.{number_at}
use Rattle.moir_model.specs.declared.Header.{Header}
use Rattle.moir_model.specs.declared.Segment.{Segment}
use Rattle.moir_model.specs.declared.Bench.{Bench}
use Rattle.moir_model.specs.declared.Process.{Process}
use Rattle.moir_model.specs.Machine.{Memory}
use Rattle.moir_held_model.specs.Layout.{header_place, tag_place, process_place, words_place}

-- a header, and a copy of a segment, whose numbers begin at k
abbrev pub header_from : List ℕ → ℕ → Header
header_from l k = record { tag = number_at l k; pid = record { 0 = number_at l (k + 1) } }

abbrev pub segment_from : List ℕ → ℕ → Segment
segment_from l k = record { tag = number_at l k; val = number_at l (k + 1) }

-- a process; a mark of 0 says that no WLL was answered, every other that one was
abbrev pub process_from : List ℕ → ℕ → Process
process_from l p = record {
  line = number_at l (process_place p);
  word = number_at l (process_place p + 1);
  count = number_at l (process_place p + 2);
  answered = not (eqb (number_at l (process_place p + 3)) 0);
  keep = number_at l (process_place p + 4);
  x = header_from l (process_place p + 5);
  oldhdr = header_from l (process_place p + 7);
  newhdr = header_from l (process_place p + 9);
  h = header_from l (process_place p + 11);
  y = segment_from l (process_place p + 13);
  z = segment_from l (process_place p + 15);
}

abbrev pub tag_from : List ℕ → ℕ → ℕ
tag_from l k = number_at l (tag_place k)

abbrev pub bench_from : List ℕ → Bench
bench_from l = record {
  n = number_at l 0;
  w = number_at l 1;
  header = header_from l header_place;
  tags = map (tag_from l) (numbers 0 64);
}

-- sixteen processes, and as many words as there are numbers left
abbrev pub memory_of : List ℕ → Memory
memory_of l = record { bench = bench_from l; records = map (process_from l) (numbers 0 16); words = drop words_place l }
