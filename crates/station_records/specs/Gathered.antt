-- The lent process records by value, and stored back one by one where they lie: `lent`'s, with the record before any
-- set-up as the filler.
-- Inner: `lent`'s `GatheredLaws` proves that they are the lent ones, as far as N needs; `StoredLaws` what is stored back.
use Rattle.std.specs.Prelude.{◌≡◌, ℕ, List, Option, None, Some, length}
use Rattle.lent.specs.Gathered.{gathered, stored}
use Rattle.station.specs.declared.Station.{Station}
use Rattle.station.specs.declared.StationProcess.{StationProcess}
use Rattle.station.specs.Station.{StationMemory, station_memory}
use Rattle.station.specs.StationSetUp.{empty_process}
use Rattle.station_records.specs.declared.left.Left.{Left}

-- `all` holds the first sixteen of `len` lent process records, with a filler where there are fewer
pub record LentProcesses (all : List StationProcess) (len : ℕ) : Type 0 where
  pub lent : List StationProcess
  pub is : all ≡ gathered lent empty_process 16
  pub many : len ≡ length lent

-- l with its first i records taken from a
abbrev pub processes_stored : List StationProcess → List StationProcess → ℕ → List StationProcess
processes_stored l a i = stored l a empty_process i

-- the lent memory once what a run left is stored back, if it left anything
abbrev pub left_stored : Station → List StationProcess → List ℕ → Option Left → StationMemory
left_stored s l ws None = station_memory s l ws
left_stored s l ws (Some left) = station_memory left.station (processes_stored l left.all left.station.n) ws
