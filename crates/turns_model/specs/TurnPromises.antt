-- What is promised of a turn's reply (02, CR 5), in the numbers and values of `TurnReplies`: "One entry takes a turn of 0
-- or 1 (22 for another, first of all) and gives the command's reply, or pass". Proved in `proofs/Theorems`.
use Rattle.std.specs.Prelude.{◌≡◌, ℕ, suc, ◌<◌, ◌≤◌, List, true, false}
use Rattle.llsc.specs.Answers.{refused}
use Rattle.model.specs.Replies.{number_of}
use Rattle.station.specs.Station.{StationMemory}
use Rattle.station.specs.StationRefusals.{StationOrder}
use Rattle.station.specs.StationCommand.{station_command}
use Rattle.station.specs.StationHistory.{station_says}
use Rattle.turns_model.specs.declared.NextCall.{NextCall}
use Rattle.turns_model.specs.TurnReplies.{turn_number, TurnSaid, passed, told, turn_says}
use Rattle.turns_model.specs.Turns.{start_by, step_by, counts_as_idle, lent_refusal, listed_as, turn_of}

-- number and values of the entry's reply, which is `turn_of`'s
abbrev pub turn_tells : StationMemory → ℕ → NextCall → List ℕ → ℕ → ℕ × TurnSaid
turn_tells s p next value left =
    let out = turn_of s p next value left in (turn_number out.0.reply, turn_says out.1 p out.0.reply)

-- number and values of a command's reply
abbrev pub command_tells : StationMemory → StationOrder → ℕ × TurnSaid
command_tells s c =
    let out = station_command s c in (number_of out.0, told (station_says out.1 c.process out.0))

-- a refusal before any command is given
abbrev pub refusal_tells : ℕ → ℕ × TurnSaid
refusal_tells number = (number, told (refused number))

-- In every case, and no other is left: a turn "of 0 or 1 (22 for another, first of all)"; "row 9 or one before it, checked
-- for a pass too"; "a busy one steps"; "A turn of an idle process starts the next call on its list"; "an idle one with an
-- empty list passes".
pub record TurnSays (s : StationMemory) (p : ℕ) (next : NextCall) (value : List ℕ) (left : ℕ) : Type 0 where
  pub another : 1 < p → turn_tells s p next value left ≡ refusal_tells 22
  pub lent : p ≤ 1 → (lent_refusal s ≡ 0 → ⊥) → turn_tells s p next value left ≡ refusal_tells (lent_refusal s)
  pub steps : p ≤ 1 → lent_refusal s ≡ 0 → counts_as_idle s p ≡ false
      → turn_tells s p next value left ≡ command_tells s (step_by p)
  pub starts : (k : ℕ) → left ≡ suc k → p ≤ 1 → lent_refusal s ≡ 0 → counts_as_idle s p ≡ true
      → turn_tells s p next value left ≡ command_tells s (start_by p (listed_as next value))
  pub passes : left ≡ 0 → p ≤ 1 → lent_refusal s ≡ 0 → counts_as_idle s p ≡ true → turn_tells s p next value left ≡ (0, passed)

abbrev pub EveryTurnSays : Type 0
EveryTurnSays = (s : StationMemory) (p : ℕ) (next : NextCall) (value : List ℕ) (left : ℕ) → TurnSays s p next value left
