-- A turn of process 0 or 1 on a station (02, CR 5). `calls` is the list of that process.
use Rattle.std.specs.Prelude.{ℕ, List, [], ◌∷◌, Bool, ◌||◌, cond, eqb, ltb, leb, length, replicate}
use Rattle.llsc.specs.declared.Order.TheVariants.{Step}
use Rattle.llsc.specs.declared.calls.CallKind.{CallKind}
use Rattle.llsc.specs.CallKinds.{start_of}
use Rattle.llsc.specs.Rows.{first, row9}
use Rattle.model.specs.declared.Reply.TheVariants.{Refused}
use Rattle.station.specs.Station.{StationMemory, process_at}
use Rattle.station.specs.Projection.{at_rest}
use Rattle.station.specs.StationRefusals.{StationOrder, station_lent_rows, station_in_range}
use Rattle.station.specs.StationCommand.{station_command}
use Rattle.turns_model.specs.declared.NextCall.{NextCall}
use Rattle.turns_model.specs.declared.TurnReply.{TurnReply}
use Rattle.turns_model.specs.declared.TurnReply.TheVariants.{Replied, Passed}
use Rattle.turns_model.specs.declared.Turned.{Turned}

-- a call on a list: its kind, the record that it names, as a start does, and the words of an SC
pub record ListedCall : Type 0 where
  pub kind : CallKind
  pub named : ℕ
  pub value : List ℕ

-- "A turn of an idle process starts the next call on its list"
abbrev pub start_by : ℕ → ListedCall → StationOrder
start_by p c = record { process = p; order = start_of c.kind; called = c.named; value = c.value }

-- "a busy one steps"
abbrev pub step_by : ℕ → StationOrder
step_by p = record { process = p; order = Step; called = 0; value = [] }

-- "One entry .. gives the command's reply, or pass, and the calls left"
pub record AfterTurn : Type 0 where
  pub reply : TurnReply
  pub left : List ListedCall
  pub memory : StationMemory

-- "22 for another, first of all": a turn that is refused before it gives a command
abbrev pub turn_refused : ℕ → StationMemory → List ListedCall → AfterTurn
turn_refused number s calls = record { reply = Replied (Refused number); left = calls; memory = s }

-- "an idle one with an empty list passes and changes nothing"
abbrev pub turn_passed : StationMemory → AfterTurn
turn_passed s = record { reply = Passed; left = []; memory = s }

abbrev pub turn_commands : StationMemory → StationOrder → List ListedCall → AfterTurn
turn_commands s c calls =
    record { reply = Replied (station_command s c).0; left = calls; memory = (station_command s c).1 }

-- ".. the next call on its list, which leaves the list even if refused"
abbrev pub idle_turn : StationMemory → ℕ → List ListedCall → AfterTurn
idle_turn s p [] = turn_passed s
idle_turn s p (c ∷ calls) = turn_commands s (start_by p c) calls

-- "at N = 1 process 1 counts as idle": no record of it is looked at
abbrev pub counts_as_idle : StationMemory → ℕ → Bool
counts_as_idle s p = leb s.n p || at_rest (process_at s p)

abbrev pub turn_given : StationMemory → ℕ → List ListedCall → AfterTurn
turn_given s p calls = cond (counts_as_idle s p) (idle_turn s p calls) (turn_commands s (step_by p) calls)

-- "all of them at row 9 or one before it, checked for a pass too": rows 1, 2, 23, 3, 9
unfoldable pub lent_refusal : StationMemory → ℕ
lent_refusal s =
    first (station_lent_rows s.n s.w s.r (length s.processes) (length s.words)
    (row9 (station_in_range s) ∷ []))

-- "One entry takes a turn of 0 or 1 (22 for another, first of all)"
unfoldable pub turn : StationMemory → ℕ → List ListedCall → AfterTurn
turn s p calls =
    cond (ltb 1 p) (turn_refused 22 s calls)
    (cond (eqb (lent_refusal s) 0) (turn_given s p calls) (turn_refused (lent_refusal s) s calls))

-- The entry is given the next call by value and the count of the list, and gives back the count of the calls left. What
-- stands behind the next call makes no difference (turns_machine/proofs/NextAlone).
abbrev pub counted : AfterTurn → Turned × StationMemory
counted a = (record { reply = a.reply; left = length a.left }, a.memory)

abbrev pub listed_as : NextCall → List ℕ → ListedCall
listed_as next value = record { kind = next.kind; named = next.named; value = value }

unfoldable pub turn_of : StationMemory → ℕ → NextCall → List ℕ → ℕ → Turned × StationMemory
turn_of s p next value left = counted (turn s p (replicate left (listed_as next value)))
