-- A text run with its message, in C's terms. Which words tell of a refusal is not said here: `messages` proves the lines of the
-- open calls, which are all of the message of a run that came to its end.
use Rattle.std.specs.Prelude.{◌≡◌, ◌≤◌, ℕ, List, map, Bool, true, length}
use Rattle.std.specs.Result.{IsOk}
use Rattle.std.proofs.lemmas.List.Edits.{sets}
use Rattle.model.specs.Machine.{Memory}
use Rattle.messages.specs.declared.Ended.{Ended}
use Rattle.messages.specs.declared.Left.{Left}
use Rattle.messages.specs.declared.calls.Figure.TheVariants.{Two}
use Rattle.messages.specs.OpenCalls.{call_of}
use Rattle.messages.specs.OpenLines.{still_open}
use Rattle.text_model.specs.TextRun.{run_with}
use Rattle.besklaun.specs.declared.explained.ExplainedRun.{ExplainedRun}
use Rattle.besklaun.specs.declared.explained.Told.{Told}
use Rattle.besklaun.specs.OwnBench.{all_words, own_memory}
use Rattle.besklaun.specs.TextReports.{ReportedOn}

-- bytes put to the front, and nothing else has changed
pub record AtFront (words told : List ℕ) (k : ℕ) (words' : List ℕ) : Type 0 where
  pub put : words' ≡ sets words 0 told
  pub count : k ≡ length told
  pub room : k ≤ length words

-- a message, as far as there is room; whole, it is that of the open calls where the run was not refused
pub record Message (e : Ended) (words : List ℕ) (r : Told) (words' : List ℕ) : Type 0 where
  pub told : List ℕ
  pub front : AtFront words told r.count words'
  pub ended : IsOk e.outcome → r.whole ≡ true → told ≡ still_open e.left e.report

-- the calls that a memory of sixteen processes leaves
abbrev pub left_by : Memory → Left
left_by m = record { figure = Two; calls = map call_of m.records }

-- the run of `text_model` on a bench of its own, its stop and its message
pub record Explained (traced : Bool) (text bytes words : List ℕ) (r : ExplainedRun) (bytes' words' : List ℕ) : Type 0 where
  pub run : ReportedOn all_words traced text bytes (record { run = r.run; stop = r.stop }) bytes'
  pub told : List ℕ
  pub front : AtFront words told r.told words'
  pub ended : r.run.number ≡ 0 → r.whole ≡ true
      → told ≡ still_open (left_by (run_with traced (own_memory all_words) text bytes).memory) run.report
