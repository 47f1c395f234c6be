-- A list of commands to a station, and what one record sees of it: "Counts, order .. are then read record by record".
use Rattle.std.specs.Prelude.{ℕ, List, [], ◌∷◌, Bool, ◌&&◌, cond, eqb}
use Rattle.llsc.specs.declared.Order.TheVariants.{Step}
use Rattle.model.specs.declared.Reply.{Reply}
use Rattle.model.specs.declared.Reply.TheVariants.{Refused, Accepted, LlAnswered, ScAnswered, VlAnswered}
use Rattle.llsc.specs.Answers.{Said, refused, accepted, answered, ll_words}
use Rattle.llsc.specs.Answers.{sc_truth, vl_truth}
use Rattle.llsc.specs.History.{Command, Event}
use Rattle.station.specs.declared.RecordNumber.{RecordNumber}
use Rattle.station.specs.Station.{StationMemory, return_area_of}
use Rattle.station.specs.StationRefusals.{StationOrder, record_for}
use Rattle.station.specs.StationCommand.{station_refusal, station_command}

-- what a reply says, with the words of an LL's answer
abbrev pub station_says : StationMemory → ℕ → Reply → Said
station_says s p (Refused c) = refused c
station_says s p Accepted = accepted
station_says s p (LlAnswered k) = answered (ll_words (return_area_of s (record { 0 = p }))) k
station_says s p (ScAnswered t k) = answered (sc_truth t) k
station_says s p (VlAnswered t k) = answered (vl_truth t) k

-- whether the station accepts the command, and on record j
abbrev pub is_for : RecordNumber → StationMemory → StationOrder → Bool
is_for j s c = eqb (station_refusal s c) 0 && eqb (record_for s c).0 j.0

-- the command without its record
abbrev pub plain : StationOrder → Command
plain c = record { process = c.process; order = c.order; value = c.value }

-- a command that a bench of n processes always refuses, by row 4
abbrev pub nobody : ℕ → Command
nobody n = record { process = n; order = Step; value = [] }

-- what record j is given of a command: itself, or a command that row 4 refuses, so that the numbers stay
abbrev pub given : RecordNumber → StationMemory → StationOrder → Command
given j s c = cond (is_for j s c) (plain c) (nobody s.n)

-- what it is said to answer
abbrev pub seen : RecordNumber → StationMemory → StationOrder → Event
seen j s c = cond (is_for j s c)
    (record { command = plain c; said = station_says (station_command s c).1 c.process (station_command s c).0 })
    (record { command = nobody s.n; said = refused 4 })

-- over a list: each command gets the memory that the one before it left
unfoldable pub given_all : RecordNumber → StationMemory → List StationOrder → List Command
given_all j s [] = []
given_all j s (c ∷ cs) = given j s c ∷ given_all j (station_command s c).1 cs

unfoldable pub seen_all : RecordNumber → StationMemory → List StationOrder → List Event
seen_all j s [] = []
seen_all j s (c ∷ cs) = seen j s c ∷ seen_all j (station_command s c).1 cs

unfoldable pub station_after : StationMemory → List StationOrder → StationMemory
station_after s [] = s
station_after s (c ∷ cs) = station_after (station_command s c).1 cs
