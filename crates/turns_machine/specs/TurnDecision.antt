-- A turn by value: `list` is the lent process records with a filler after them, `len` how many were lent.
-- Inner: `TurnDecisionLaws` proves that this, stored back, is `turn_of` of `turns_model`.
use Rattle.std.specs.Prelude.{ℕ, ◌-◌, List, [], Bool, ◌||◌, Option, Some, None, Ok, Err, Result, cond, eqb, ltb, leb, length, get_or, set}
use Rattle.llsc.specs.declared.Order.TheVariants.{Step}
use Rattle.model.specs.declared.Reply.TheVariants.{Refused}
use Rattle.station.specs.declared.Station.{Station}
use Rattle.station.specs.declared.StationProcess.{StationProcess}
use Rattle.station.specs.Station.{StationMemory, station_memory, no_station_process}
use Rattle.station.specs.Projection.{at_rest}
use Rattle.station_rows.specs.StationCommandRows.{station_memory_number}
use Rattle.station_machine.specs.declared.Outcome.{Outcome}
use Rattle.station_machine.specs.StationDecision.{Decided, station_decided}
use Rattle.turns_model.specs.declared.NextCall.{NextCall}
use Rattle.turns_model.specs.declared.TurnReply.{TurnReply}
use Rattle.turns_model.specs.declared.TurnReply.TheVariants.{Replied, Passed}
use Rattle.turns_model.specs.declared.Turned.{Turned}
use Rattle.llsc.specs.CallKinds.{start_of}
use Rattle.turns_machine.specs.declared.TurnOutcome.{TurnOutcome}

-- no command is obeyed
abbrev pub unchanged_turn : TurnReply → ℕ → TurnOutcome
unchanged_turn reply left = record { obeyed = None; turned = record { reply = reply; left = left } }

abbrev pub refused_turn : ℕ → ℕ → TurnOutcome
refused_turn number left = unchanged_turn (Replied (Refused number)) left

abbrev pub commanded_turn : ℕ → Result Outcome ℕ → TurnOutcome
commanded_turn left (Ok out) = record { obeyed = Some out; turned = record { reply = Replied out.reply; left = left } }
commanded_turn left (Err number) = refused_turn number left

abbrev pub commanded_at : ℕ → Decided → TurnOutcome × List ℕ
commanded_at left out = (commanded_turn left out.0, out.1)

-- a turn of an idle process, and of one that counts as idle;
abbrev pub idle_decided : Station → List StationProcess → ℕ → ℕ → NextCall → ℕ → List ℕ → List ℕ → TurnOutcome × List ℕ
idle_decided s list len p next left value words =
    cond (eqb left 0) (unchanged_turn Passed 0, words)
    (commanded_at (left - 1) (station_decided s list len p (start_of next.kind) next.named value words))

-- of a busy one
abbrev pub busy_decided : Station → List StationProcess → ℕ → ℕ → ℕ → List ℕ → TurnOutcome × List ℕ
busy_decided s list len p left words = commanded_at left (station_decided s list len p Step 0 [] words)

abbrev pub rests_in : ℕ → List StationProcess → ℕ → Bool
rests_in n list p = leb n p || at_rest (get_or list p no_station_process)

unfoldable pub turn_decided :
    Station → List StationProcess → ℕ → ℕ → NextCall → ℕ → List ℕ → List ℕ → TurnOutcome × List ℕ
turn_decided s list len p next left value words =
    cond (ltb 1 p) (refused_turn 22 left, words)
    (cond (eqb (station_memory_number s list len (length words)) 0)
    (cond (rests_in s.n list p) (idle_decided s list len p next left value words)
    (busy_decided s list len p left words))
    (refused_turn (station_memory_number s list len (length words)) left, words))

-- what the turn came to and all lent memory, once the caller has stored what a command that was obeyed left
abbrev pub memory_after : Station → List StationProcess → List ℕ → Option Outcome → StationMemory
memory_after s ps ws None = station_memory s ps ws
memory_after s ps ws (Some out) = station_memory out.station (set ps out.at out.process) ws

abbrev pub stored_turn : Station → List StationProcess → TurnOutcome × List ℕ → Turned × StationMemory
stored_turn s ps out = (out.0.turned, memory_after s ps out.1 out.0.obeyed)
