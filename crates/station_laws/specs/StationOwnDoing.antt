-- The station never refuses for its own doing: after a set-up no command meets rows 1, 2, 23, 3 or 9.
use Rattle.std.specs.Prelude.{◌≡◌, ℕ, List}
use Rattle.station.specs.Station.{StationMemory}
use Rattle.station.specs.StationRefusals.{StationOrder, StationShaped}
use Rattle.station.specs.StationCommand.{station_refusal}
use Rattle.station.specs.StationSetUp.{station_set_up}
use Rattle.station.specs.StationHistory.{station_after}

-- not a row that looks at lent memory
pub record NotLentStation (row : ℕ) : Type 0 where
  pub not_1 : row ≡ 1 → ⊥
  pub not_2 : row ≡ 2 → ⊥
  pub not_23 : row ≡ 23 → ⊥
  pub not_3 : row ≡ 3 → ⊥
  pub not_9 : row ≡ 9 → ⊥

abbrev pub StationNeverForItsOwnDoing : Type 0
StationNeverForItsOwnDoing =
    (s : StationMemory) → StationShaped s → (n w r : ℕ) (value : List ℕ) (cs : List StationOrder)
    → (station_set_up s n w r value).0 ≡ 0 → (c : StationOrder)
    → NotLentStation (station_refusal (station_after (station_set_up s n w r value).1 cs) c)
