-- What is promised of a run (02, CR 12), in the terms of CR 10's lists of commands; proved in proofs/Theorems.
use Rattle.std.specs.Prelude.{ℕ, ◌≤◌, ◌≡◌, List, [], ◌∷◌, ◌++◌, map, length, take, drop}
use Rattle.model.specs.declared.Reply.TheVariants.{Refused}
use Rattle.boards.specs.Files.{decode, file_number}
use Rattle.station.specs.declared.RecordNumber.{RecordNumber}
use Rattle.station.specs.Station.{StationMemory}
use Rattle.station.specs.StationRefusals.{StationOrder}
use Rattle.station.specs.StationCommand.{station_refusal, station_command}
use Rattle.station.specs.StationHistory.{seen_all, station_after}
use Rattle.board_commands.specs.declared.FileRun.{FileRun}
use Rattle.board_commands.specs.BoardRun.{command_of, run_file}

-- the records of a file as commands to a station of W = w words
abbrev pub commands_of : ℕ → List ℕ → List StationOrder
commands_of w file = map (command_of w) (decode file)

-- each of these commands is accepted on the memory that the one before it left
abbrev pub AllAccepted : StationMemory → List StationOrder → Type 0
AllAccepted s [] = Unit {0}
AllAccepted s (c ∷ cs) = (station_refusal s c ≡ 0) × AllAccepted (station_command s c).1 cs

-- "number (0 for none)": no command is left, or the next one is refused with this number and changes nothing
abbrev pub StopsWith : ℕ → StationMemory → List StationOrder → Type 0
StopsWith number s [] = number ≡ 0
StopsWith number s (c ∷ cs) = (number ≡ 0 → ⊥) × (station_command s c ≡ (Refused number, s))

-- "up to the first refusal: memory, number (0 for none) and commands done are as if its records came one by one"
pub record OneByOne (s : StationMemory) (cs : List StationOrder) (out : FileRun × StationMemory) : Type 0 where
  pub so_many : out.0.done ≤ length cs
  pub accepted : AllAccepted s (take out.0.done cs)
  pub memory : out.1 ≡ station_after s (take out.0.done cs)
  pub number : StopsWith out.0.number out.1 (drop out.0.done cs)

-- of every file, right or not
pub record Runs (file : List ℕ) (s : StationMemory) : Type 0 where
  pub right : file_number file ≡ 0 → OneByOne s (commands_of s.w file) (run_file file s)
  -- "25 and 26 also before a run"
  pub wrong : (file_number file ≡ 0 → ⊥) → run_file file s ≡ (record { number = file_number file; done = 0 }, s)

abbrev pub EveryFileRuns : Type 0
EveryFileRuns = (file : List ℕ) (s : StationMemory) → Runs file s

-- So what CR 10 promises of lists of commands holds with a run among them: after commands cs, a run leaves what cs and
-- the commands that it did leave, and every record sees those after what it saw of cs.
pub record AmongCommands (s : StationMemory) (cs : List StationOrder) (file : List ℕ) : Type 0 where
  pub ran : List StationOrder
  pub ran_is : ran ≡ take (run_file file (station_after s cs)).0.done (commands_of s.w file)
  pub memory : (run_file file (station_after s cs)).1 ≡ station_after s (cs ++ ran)
  pub seen : (j : RecordNumber) → seen_all j s (cs ++ ran) ≡ seen_all j s cs ++ seen_all j (station_after s cs) ran

abbrev pub RunsAmongCommands : Type 0
RunsAmongCommands = (s : StationMemory) (cs : List StationOrder) (file : List ℕ) → AmongCommands s cs file
