-- One record taken out of the station record, and its tables put back.
-- Inner: these are `station`'s `bench_of` and `embed`, on the station record alone.
use Rattle.std.specs.Prelude.{[], set}
use Rattle.model.specs.declared.Bench.{Bench}
use Rattle.station.specs.declared.RecordNumber.{RecordNumber}
use Rattle.station.specs.declared.Tables.{Tables}
use Rattle.station.specs.declared.Station.{Station}
use Rattle.station.specs.Station.{station_memory}
use Rattle.station.specs.Projection.{bench_of}

abbrev pub bench_in : Station → RecordNumber → Bench
bench_in s j = bench_of (station_memory s [] []) j

abbrev pub with_tables : Station → RecordNumber → Tables → Station
with_tables s j t = record { n = s.n; w = s.w; r = s.r; tables = set s.tables j.0 t }
