-- "CR 9's places are then read record by record": each of a record's 3N buffer numbers has one place among those that
-- the processes own and its own Bank and X keep.
use Rattle.std.specs.Prelude.{◌≡◌, ℕ, ◌<◌, List}
use Rattle.model.specs.Sizes.{buffers}
use Rattle.after_commands.specs.Buffers.{held, occurrences}
use Rattle.station.specs.declared.RecordNumber.{RecordNumber}
use Rattle.station.specs.Station.{StationMemory}
use Rattle.station.specs.Projection.{project}
use Rattle.station.specs.StationRefusals.{StationOrder, StationShaped}
use Rattle.station.specs.StationSetUp.{station_set_up}
use Rattle.station.specs.StationHistory.{station_after}

-- "after a set-up and any commands the 3N buffer numbers are each found exactly once among N owned and 2N kept" (CR 9),
-- of record j's own X, Bank, Help and mybufs
abbrev pub EveryBufferOnceByRecord : Type 0
EveryBufferOnceByRecord =
    (s : StationMemory) → StationShaped s → (n w r : ℕ) (value : List ℕ) (cs : List StationOrder)
    → (station_set_up s n w r value).0 ≡ 0 → (j : RecordNumber) → j.0 < r → (b : ℕ) → b < buffers n
    → occurrences b (held (project (station_after (station_set_up s n w r value).1 cs) j) n) ≡ 1
