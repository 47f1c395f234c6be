-- The parts of a station's memory (CR 13): the shared items of each record, and what each process has for itself. Each
-- can be taken out and put back.
use Rattle.std.specs.Prelude.{◌<◌, set}
use Rattle.llsc.specs.declared.ProcessNumber.{ProcessNumber}
use Rattle.station.specs.declared.RecordNumber.{RecordNumber}
use Rattle.station.specs.declared.StationProcess.{StationProcess}
use Rattle.station.specs.Station.{StationMemory, process_at, layout_of}
use Rattle.station.specs.Projection.{bench_of, put_tables}
use Rattle.doings.specs.declared.Item.{Item}
use Rattle.doings.specs.Items.{InBench, Holding, item_in, put_in_bench, put_in_words}
use Rattle.doings.specs.Own.{Own, own_in, put_areas}

-- "Each record has its own X, Bank, Help, buffers and links": an item, with the number of its record
pub record StationItem : Type 0 where
  pub number : RecordNumber
  pub item : Item

-- one of the station's: a record below R, and an item of its bench
pub record InStation (s : StationMemory) (i : StationItem) : Type 0 where
  pub number : i.number.0 < s.r
  pub item : InBench (bench_of s i.number) i.item

-- what an item holds, with its links
abbrev pub item_of : StationItem → StationMemory → Holding
item_of i s = item_in (layout_of s i.number) i.item (bench_of s i.number) s.words

-- the memory in which it holds h
abbrev pub put_item : StationItem → Holding → StationMemory → StationMemory
put_item i h s = record {
  n = s.n;
  w = s.w;
  r = s.r;
  tables = set s.tables i.number.0 (put_tables (put_in_bench i.item h (bench_of s i.number)));
  processes = s.processes;
  words = put_in_words (layout_of s i.number) s.w i.item h s.words;
}

-- the areas are shared by the records, so that any record's layout has them
abbrev pub any_record : RecordNumber
any_record = record { 0 = 0 }

-- what p has for itself: its process record, its return area, its offer area; and the memory in which it has o
abbrev pub own_of : StationMemory → ProcessNumber → Own StationProcess
own_of s p = own_in (layout_of s any_record) s.w p (process_at s p.0) s.words

abbrev pub put_own : ProcessNumber → Own StationProcess → StationMemory → StationMemory
put_own p o s = record {
  n = s.n;
  w = s.w;
  r = s.r;
  tables = s.tables;
  processes = set s.processes p.0 o.process;
  words = put_areas (layout_of s any_record) s.w p o s.words;
}
