-- Lists that a set-up and commands reached, and what is promised of them.
use Rattle.std.specs.Prelude.{◌≡◌, true, ℕ, List}
use Rattle.station.specs.Station.{StationMemory}
use Rattle.station.specs.StationRefusals.{StationOrder, StationShaped, station_in_range}
use Rattle.station.specs.StationSetUp.{station_set_up}
use Rattle.station.specs.StationHistory.{station_after}
use Rattle.held_model.specs.declared.Told.{Told}
use Rattle.held_model.specs.Memory.{memory_of}
use Rattle.held_model.specs.HeldCommand.{SetUpDone, Commanded, SteppedTo}

-- the list stands for what an accepted set-up and a list of commands, refused ones among them, left of some memory
pub record Reached (l : List ℕ) : Type 0 where
  pub before : StationMemory
  pub shaped : StationShaped before
  pub n : ℕ
  pub w : ℕ
  pub r : ℕ
  pub value : List ℕ
  pub commands : List StationOrder
  pub accepted : (station_set_up before n w r value).0 ≡ 0
  pub left : memory_of l ≡ station_after (station_set_up before n w r value).1 commands

-- what an accepted set-up leaves is reached, whatever stood in the list
abbrev pub SetUpReaches : Type 0
SetUpReaches = (l l' : List ℕ) (n w r : ℕ) (value : List ℕ) → SetUpDone l n w r value 0 l' → Reached l'

-- row 9 holds of nothing in a list that is reached
abbrev pub InRangeOnceReached : Type 0
InRangeOnceReached = (l : List ℕ) → Reached l → station_in_range (memory_of l) ≡ true

-- a command leaves a reached list reached
abbrev pub CommandReaches : Type 0
CommandReaches = (l l' : List ℕ) (c : StationOrder) (t : Told) → Reached l → Commanded l c t l' → Reached l'

-- and there a step that looks at what it reads alone is the command
abbrev pub StepIsCommand : Type 0
StepIsCommand = (l l' : List ℕ) (c : StationOrder) (t : Told) → Reached l → SteppedTo l c t l' → Commanded l c t l' × Reached l'
