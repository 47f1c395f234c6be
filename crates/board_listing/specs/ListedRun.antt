-- The run as the code holds it. Each record is an entry of a text run that has done none before it, so that 12 never
-- strikes; the commands done are counted beside it.
-- Inner: `RecordLaws` proves that a record so carried out is `BoardListing`'s, and `ListedLaws` puts the parts together.
use Rattle.std.specs.Prelude.{◌≡◌, ℕ, ◌+◌, ◌≤◌, List, false, Err, length, replicate}
use Rattle.llsc.specs.declared.refusals.Refusal.{Refusal}
use Rattle.llsc.specs.Refusals.{number_told}
use Rattle.std.proofs.lemmas.List.Edits.{sets}
use Rattle.boards.specs.Files.{BoardRecord}
use Rattle.text_entry.specs.declared.state.Held.{Held}
use Rattle.whole_runs.specs.Carrying.{in_run}
use Rattle.text_entry.specs.RunState.{RunState, state_with, progress, Sound}
use Rattle.text_machine.specs.Finished.{memory_of}
use Rattle.text_runs.specs.Runs.{fresh_run, last_of}
use Rattle.text_model.specs.TextRun.{Progress, Ended}
use Rattle.model.specs.Machine.{Memory}
use Rattle.model.specs.SetUp.{set_up}
use Rattle.board_listing.specs.declared.ending.Stopped.{Stopped}
use Rattle.board_listing.specs.BoardListing.{obey_all, run_listed, after_set_up}

-- the same with another count of commands done
abbrev pub recounted : ℕ → Progress → Progress
recounted k s = record { memory = s.memory; listing = s.listing; written = s.written; entries = k; stop = s.stop; traced = s.traced }

-- a run that has done none, with so many bytes written
abbrev pub fresh_state : Held → List ℕ → List ℕ → ℕ → RunState
fresh_state held ws list written = state_with (fresh_run held false) 0 ws list written

-- a run that has stopped
abbrev pub stopped_state : Stopped → List ℕ → List ℕ → RunState
stopped_state s ws list = state_with (in_run s.held s.entries false) (number_told s.outcome) ws list s.written

-- a state with another count of commands done
abbrev pub counted_state : ℕ → RunState → RunState
counted_state k h = state_with (in_run h.run.held k h.run.traced) h.stop h.words h.listing h.written

-- where 744 bytes were left there are 31 behind an answer line; the longest last line has 19
abbrev pub last_room : ℕ
last_room = 31

-- a run between two records
pub record Between (h : RunState) : Type 0 where
  pub sound : Sound 16 h
  pub goes : h.stop ≡ 0
  pub none : h.run.entries ≡ 0
  pub listed : h.run.traced ≡ false
  pub room : h.written + last_room ≤ length h.listing

-- records carried out, and room for the last line
pub record Obeys (rs : List BoardRecord) (h h' : RunState) : Type 0 where
  pub same : progress 16 h' ≡ obey_all rs (progress 16 h)
  pub words : length h'.words ≡ length h.words
  pub listing : length h'.listing ≡ length h.listing
  pub room : h'.written + last_room ≤ length h'.listing
  pub stop : h'.stop ≤ 15
  pub few : h'.run.entries ≤ 9999999

-- there is room for the last line
pub record Closable (s : Stopped) (list : List ℕ) : Type 0 where
  pub entries : s.entries ≤ 9999999
  pub stop : number_told s.outcome ≤ 99
  pub room : s.written + last_room ≤ length list

-- a run that is refused before its first command
abbrev pub refused_with : Held → Refusal → Stopped
refused_with held f = record { held = held; entries = 0; written = 0; outcome = Err f }

-- a run with its last line
abbrev pub closed : Stopped → List ℕ → Stopped × List ℕ
closed s list =
    (record { held = s.held; entries = s.entries; written = s.written + length (last_of s.entries s.outcome); outcome = s.outcome }, sets list s.written (last_of s.entries s.outcome))

-- what a closed run returns and leaves
abbrev pub end_of : Stopped → List ℕ → List ℕ → Ended
end_of s ws list =
    record { number = number_told s.outcome; entries = s.entries; written = s.written; memory = memory_of s.held 16 ws; listing = list }

-- the file run after a set-up, and the whole from the set-up on
pub record RunsFile (held : Held) (ws file list : List ℕ) (s : Stopped) (ws' list' : List ℕ) : Type 0 where
  pub same : end_of s ws' list' ≡ run_listed (memory_of held 16 ws) file list
  pub words : length ws' ≡ length ws

abbrev pub SetsUp : Memory → ℕ → ℕ → ℕ → List ℕ → List ℕ → Ended → Type 0
SetsUp m n w k file list e = e ≡ after_set_up m file list (set_up m n w (replicate w k))
