-- A text's run on a held list, as the code has it.
-- Inner: `TurnLaws` and `StartLaws` prove that it is the run of `States`.
use Rattle.std.specs.Prelude.{◌≡◌, ℕ, ◌+◌, ◌*◌, ◌≤◌, List, [], Bool, false, not, cond, eqb, Result, length}
use Rattle.llsc.specs.declared.refusals.Refusal.{Refusal}
use Rattle.llsc.specs.Refusals.{number_told}
use Rattle.model.specs.Replies.{number_of}
use Rattle.listing.specs.declared.Writer.{Writer}
use Rattle.notation.specs.declared.Entry.{Entry}
use Rattle.notation.specs.declared.Entry.TheVariants.{StartLl, StartVl, StartSc, Step, Finish}
use Rattle.text_runs.specs.Machines.{Machine}
use Rattle.text_runs.specs.declared.runs.Run.{Run}
use Rattle.text_runs.specs.declared.runs.Finished.{Finished}
use Rattle.trace_parts.specs.TraceParts.{step_line}
use Rattle.text_runs.specs.TextRun.{Progress, most_entries, process_of, line_by}
use Rattle.text_runs.specs.Runs.{last_room}
use Rattle.station.specs.Station.{StationMemory}
use Rattle.station.specs.StationRefusals.{StationOrder}
use Rattle.station.specs.StationCommand.{station_command}
use Rattle.station_text_laws.specs.EntryByEntry.{station_machine}
use Rattle.whole_runs.specs.Whole.{progress_with, Ran}
use Rattle.held_model.specs.Memory.{number_at, laid_out, memory_of}
use Rattle.held_laws.specs.Reached.{Reached}
use Rattle.held_texts.specs.declared.running.Left.{Left}
use Rattle.held_text_model.specs.Upto.{nothing_shown, quiet, upto}

-- the command c of a reached list is carried out, or refused
pub record ObeyedOn (l : List ℕ) (c : StationOrder) (r : Result (Unit {0}) Refusal) (l' : List ℕ) : Type 0 where
  pub number : number_told r ≡ number_of (station_command (memory_of l) c).0
  pub memory : memory_of l' ≡ (station_command (memory_of l) c).1
  pub refused : (number_told r ≡ 0 → ⊥) → l' ≡ l
  pub reached : Reached l'

pub record Obeyed (l : List ℕ) (c : StationOrder) (r : Result (Unit {0}) Refusal) (l' : List ℕ) : Type 0 where
  pub on : Reached l → ObeyedOn l c r l'
  pub stays : length l' ≡ length l

-- whether `!` goes on, by its process's line
unfoldable pub line_of_finish : List ℕ → Entry → Bool
line_of_finish l (StartLl p) = false
line_of_finish l (StartVl p) = false
line_of_finish l (StartSc p k) = false
line_of_finish l (Step p) = false
line_of_finish l (Finish p) = not (eqb (number_at l (3 + 8 * p)) 0)

-- the line of an entry in a trace, which shows no access
abbrev pub lines : Bool → ℕ → Entry → List ℕ
lines t k e = cond t (line_by (step_line nothing_shown) k (record { process = process_of e }) e false) []

abbrev pub held_machine : Machine
held_machine = upto station_machine

-- a list that is laid out for one record, and how many commands are left
abbrev pub held_memory : Left → List ℕ → ℕ × StationMemory
held_memory s ws = (s.left, laid_out 1 ws)

abbrev pub held_progress : Run Left → ℕ → List ℕ → Writer → Progress held_machine
held_progress r k ws to = progress_with held_machine (held_memory r.held ws) r k to

-- a list on which entries are carried out
pub record Going (ws : List ℕ) : Type 0 where
  pub reached : Reached ws
  pub one : number_at ws 2 ≡ 1
  pub width : number_at ws 1 ≤ 64

-- a run at any moment
pub record Sound (r : Run Left) (k : ℕ) (ws : List ℕ) (to : Writer) : Type 0 where
  pub few : r.entries ≤ most_entries
  pub stop : k ≤ 15
  pub room : to.written + last_room ≤ length to.list.now
  pub going : k ≡ 0 → Going ws

-- a text's run for k commands: all but the bytes of its listing, which nobody sees
pub record RanFirst (k : ℕ) (l text : List ℕ) (r : Finished Left) (l' : List ℕ) : Type 0 where
  pub listing : List ℕ
  pub ran : Ran held_machine false text quiet (k, laid_out 1 l) r (held_memory r.held l') listing
