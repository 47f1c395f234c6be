-- "CR 1's histories .. are then read record by record": what is promised of the judge, of each record of a station.
use Rattle.std.specs.Prelude.{◌≡◌, ℕ, ◌≤◌, ◌<◌, List, map, length}
use Rattle.llsc.specs.History.{calls}
use Rattle.verdict_laws.specs.Promises.{most_commands, EarnsYes}
use Rattle.station.specs.declared.RecordNumber.{RecordNumber}
use Rattle.station.specs.Station.{StationMemory}
use Rattle.station.specs.StationRefusals.{StationOrder, StationShaped}
use Rattle.station.specs.StationSetUp.{station_set_up}
use Rattle.station.specs.StationHistory.{plain, seen_all}

-- "every bench history from a set-up, of at most 512 answered calls and 2 to the 50th commands, places being 1,024
-- times the command's number, has moments that earn a yes" (CR 1): of record j's answered calls, at most 512. The
-- commands, their bound and their numbers are the station's, those on other records counted.
abbrev pub EveryHistoryEarnsYesByRecord : Type 0
EveryHistoryEarnsYesByRecord =
    (s : StationMemory) → StationShaped s → (n w r : ℕ) (value : List ℕ) (cs : List StationOrder)
    → (station_set_up s n w r value).0 ≡ 0 → (j : RecordNumber) → j.0 < r → length cs ≤ most_commands
    → let history = calls (seen_all j (station_set_up s n w r value).1 cs) in
    length history ≤ 512 → EarnsYes n w value (map plain cs) history
