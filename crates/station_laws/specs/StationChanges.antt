-- The changes of one record's X over a list of commands to the station: as many as the SCs on that record that succeed.
use Rattle.std.specs.Prelude.{◌≡◌, ℕ, ◌+◌, ◌<◌, List, [], ◌∷◌, cond}
use Rattle.model.specs.declared.XContent.{XContent}
use Rattle.llsc.specs.History.{calls}
use Rattle.after_commands.specs.Changes.{same_content, successes}
use Rattle.station.specs.declared.RecordNumber.{RecordNumber}
use Rattle.station.specs.Station.{StationMemory, tables_at}
use Rattle.station.specs.StationRefusals.{StationOrder, StationShaped}
use Rattle.station.specs.StationCommand.{station_command}
use Rattle.station.specs.StationSetUp.{station_set_up}
use Rattle.station.specs.StationHistory.{seen_all}

-- the content of record j's X
abbrev pub x_of : StationMemory → RecordNumber → XContent
x_of s j = (tables_at s j).x.content

-- "X has changed": how many of the commands, on whichever record, leave in record j's X another content than they found
-- there
unfoldable pub changes_of : RecordNumber → StationMemory → List StationOrder → ℕ
changes_of j s [] = 0
changes_of j s (c ∷ cs) =
    cond (same_content (x_of s j) (x_of (station_command s c).1 j)) 0 1 + changes_of j (station_command s c).1 cs

-- A record's X changes once for each SC on that record that succeeds, and never else.
abbrev pub ChangesAreSuccessesByRecord : Type 0
ChangesAreSuccessesByRecord =
    (s : StationMemory) → StationShaped s → (n w r : ℕ) (value : List ℕ) (cs : List StationOrder)
    → (station_set_up s n w r value).0 ≡ 0 → (j : RecordNumber) → j.0 < r
    → changes_of j (station_set_up s n w r value).1 cs ≡ successes (calls (seen_all j (station_set_up s n w r value).1 cs))
