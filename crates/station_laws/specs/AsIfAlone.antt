-- A record of a station answers as its bench would alone, and so has promise 3.
use Rattle.std.specs.Prelude.{◌≡◌, ℕ, ◌<◌, List}
use Rattle.model.specs.Machine.{Memory, Shaped}
use Rattle.model.specs.SetUp.{set_up}
use Rattle.model.specs.History.{events}
use Rattle.model.specs.Linearizable.{Claim}
use Rattle.station.specs.declared.RecordNumber.{RecordNumber}
use Rattle.station.specs.Station.{StationMemory}
use Rattle.station.specs.StationRefusals.{StationOrder, StationShaped}
use Rattle.station.specs.StationSetUp.{station_set_up}
use Rattle.station.specs.StationHistory.{given_all, seen_all}

-- "after a set-up the accepted commands of one record are answered as if its bench stood alone", whatever memory that
-- bench was lent
abbrev pub AsIfAlone : Type 0
AsIfAlone =
    (s : StationMemory) → StationShaped s → (n w r : ℕ) (value : List ℕ) (cs : List StationOrder)
    → (station_set_up s n w r value).0 ≡ 0 → (j : RecordNumber) → j.0 < r
    → (m : Memory) → Shaped m → (set_up m n w value).0 ≡ 0 → let begun = (station_set_up s n w r value).1 in
    seen_all j begun cs ≡ events (set_up m n w value).1 (given_all j begun cs)

-- promise 3, record by record
abbrev pub Promise3ByRecord : Type 0
Promise3ByRecord =
    (s : StationMemory) → StationShaped s → (n w r : ℕ) (value : List ℕ) (cs : List StationOrder)
    → (station_set_up s n w r value).0 ≡ 0 → (j : RecordNumber) → j.0 < r
    → Claim w value (seen_all j (station_set_up s n w r value).1 cs)
