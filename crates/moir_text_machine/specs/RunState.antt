-- The run as the code holds it, and what holds of it at every moment.
-- Inner: `progress` gives `text_runs`' run of it; `TurnLaws` proves that a turn of the loop is `single` and keeps it sound.
use Rattle.std.specs.Prelude.{◌≡◌, ℕ, ◌+◌, ◌≤◌, ◌<◌, List, length}
use Rattle.notation.specs.declared.Entry.{Entry}
use Rattle.text_runs.specs.TextRun.{most_entries, lines_of}
use Rattle.text_runs.specs.Runs.{last_room}
use Rattle.text_runs.specs.TrueTraces.{outcome}
use Rattle.moir_model.specs.Machine.{Memory}
use Rattle.moir_text_model.specs.TextRun.{figure6, Progress}
use Rattle.moir_text_model.proofs.SmallWords.{Small}
use Rattle.listing.specs.declared.Writer.{Writer}
use Rattle.text_runs.specs.declared.runs.Run.{Run}
use Rattle.moir_text_machine.specs.declared.turns.Held.{Held}

-- its memory, with the lent words
abbrev pub memory_of : Held → List ℕ → Memory
memory_of held ws = record { bench = held.bench; records = held.all; words = ws }

-- the run, with the number that it stops with, 0 while it goes on, the lent words and where its listing goes
abbrev pub progress : Run Held → ℕ → List ℕ → Writer → Progress
progress r k words to = record {
  memory = record { bench = r.held.bench; records = r.held.all; words = words };
  listing = to.list.now;
  written = to.written;
  entries = r.entries;
  stop = k;
  traced = r.traced;
}

-- what holds of a run at every moment
pub record Sound (s : Progress) : Type 0 where
  pub sixteen : length s.memory.records ≡ 16
  pub entries : s.entries ≤ most_entries
  pub stop : s.stop ≤ 15
  pub room : s.written + last_room ≤ length s.listing
  pub going : s.stop ≡ 0 → Small s.memory

-- an entry that nothing refuses: its command is accepted, and its lines fit
pub record Free (e : Entry) (s : Progress) : Type 0 where
  pub sixteen : length s.memory.records ≡ 16
  pub more : s.entries < most_entries
  pub accepted : figure6.number_of (outcome figure6 e s).0 ≡ 0
  pub fits : s.written + length (lines_of figure6 s e (outcome figure6 e s)) ≤ length s.listing
