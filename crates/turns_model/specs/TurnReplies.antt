-- What the reply of a turn says: 01's number and values for each of its cases.
use Rattle.std.specs.Prelude.{ℕ}
use Rattle.llsc.specs.Answers.{Said}
use Rattle.model.specs.Replies.{number_of}
use Rattle.station.specs.Station.{StationMemory}
use Rattle.station.specs.StationHistory.{station_says}
use Rattle.turns_model.specs.declared.TurnReply.{TurnReply}
use Rattle.turns_model.specs.declared.TurnReply.TheVariants.{Replied, Passed}

-- the number of a refusal, 0 for none; a pass has none
abbrev pub turn_number : TurnReply → ℕ
turn_number (Replied r) = number_of r
turn_number Passed = 0

-- "the command's reply, or pass"
pub data TurnSaid : Type 0 where
  passed : TurnSaid
  told : Said → TurnSaid

-- what the reply to process p says, with the memory as the turn left it
abbrev pub turn_says : StationMemory → ℕ → TurnReply → TurnSaid
turn_says m p (Replied r) = told (station_says m p r)
turn_says m p Passed = passed
