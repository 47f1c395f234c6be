-- The whole text run as the code holds it: what is lent to it and what it answers.
-- Inner: `RunLaws` proves `TextRan`, which says that it is `TextRun`'s run with `StopPlaces`' report.
use Rattle.std.specs.Prelude.{◌≡◌, Bool, false, cond, ℕ, ◌≤◌, List, ltb, length, take}
use Rattle.model.specs.Records.{no_process}
use Rattle.model.specs.Machine.{Memory}
use Rattle.model.specs.declared.Process.{Process}
use Rattle.lent.specs.Gathered.{gathered}
use Rattle.llsc.specs.Refusals.{number_told}
use Rattle.text_entry.specs.declared.state.Held.{Held}
use Rattle.text_runs.specs.declared.runs.Finished.{Finished}
use Rattle.text_runs.specs.TextRun.{room_needed}
use Rattle.text_model.specs.TextRun.{Ended, run_with}
use Rattle.text_model.specs.StopPlaces.{StopsAt}
use Rattle.text_entry.specs.RunState.{Filled}

-- the lent memory, with `len` records
abbrev pub memory_of : Held → ℕ → List ℕ → Memory
memory_of held len words = record { bench = held.bench; records = take len held.all; words = words }

-- of the lent records at most sixteen are looked at
abbrev pub at_most_sixteen : ℕ → ℕ
at_most_sixteen len = cond (ltb 16 len) 16 len

-- what a run returns and leaves, with the words and the listing after it
abbrev pub end_of : ℕ → Finished Held → List ℕ → List ℕ → Ended
end_of len r ws list = record { number = number_told r.outcome; entries = r.entries; written = r.written; memory = memory_of r.held len ws; listing = list }

-- what is lent to a text run
pub record Lending (len : ℕ) (all : List Process) (list : List ℕ) : Type 0 where
  pub few : len ≤ 16
  pub filled : Filled len all
  pub room : room_needed false ≤ length list

-- what a whole text run answers, in one of the two styles, where `held` has the first sixteen of `len` lent records:
-- the run of `text_model`, at any lent memory, with the filler in its place again, and where it stopped
pub record TextRan (t : Bool) (held : Held) (len : ℕ) (ws text list : List ℕ) (r : Finished Held) (ws' list' : List ℕ) : Type 0 where
  pub same : end_of len r ws' list' ≡ run_with t (memory_of held len ws) text list
  pub again : r.held.all ≡ gathered (take len r.held.all) no_process 16
  pub stops : StopsAt t (memory_of held len ws) text list r.report
