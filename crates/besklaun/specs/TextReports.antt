-- A text run on a bench of its own with the report of its stop, in C's terms: no enum crosses to C.
use Rattle.std.specs.Prelude.{◌≡◌, ℕ, List, Bool}
use Rattle.positions.specs.declared.StopReport.{StopReport}
use Rattle.positions.specs.declared.StopReport.TheVariants.{NotRead, AtFault, AtNoItem, AtItem}
use Rattle.text_runs.specs.Machines.{Machine}
use Rattle.text_runs.specs.StopPlaces.{StopsAt}
use Rattle.text_runs.specs.declared.returned.TextRun.{TextRun}
use Rattle.text_model.specs.TextRun.{figure2}
use Rattle.besklaun.specs.declared.texts.TextStop.{TextStop}
use Rattle.besklaun.specs.declared.texts.ReportedRun.{ReportedRun}
use Rattle.besklaun.specs.OwnBench.{own_memory, own_words, run_on}

-- 0 before the run looked at the text, 1 at the text's fault, 2 at no item of a right text, 3 at the item whose entry is
-- refused; and what is known there, 0 for what is not
abbrev pub stop_of : StopReport → TextStop
stop_of NotRead = record { kind = 0; place = 0; n = 0; w = 0; process = 0 }
stop_of (AtFault at) = record { kind = 1; place = at; n = 0; w = 0; process = 0 }
stop_of (AtNoItem s) = record { kind = 2; place = 0; n = s.n; w = s.w; process = 0 }
stop_of (AtItem s i) = record { kind = 3; place = i.place; n = s.n; w = s.w; process = i.process }

-- the run on a machine from the memory m, which shows `ran`, and its stop, as `StopPlaces` has it
pub record ReportedBy (M : Machine) (m : M.Memory) (ran : TextRun × List ℕ) (traced : Bool) (text bytes : List ℕ) (r : ReportedRun) (after : List ℕ) : Type 0 where
  pub run : (r.run, after) ≡ ran
  pub report : StopReport
  pub told : r.stop ≡ stop_of report
  pub stops : StopsAt M traced m text bytes report

-- on a bench with these words
abbrev pub ReportedOn : List ℕ → Bool → List ℕ → List ℕ → ReportedRun → List ℕ → Type 0
ReportedOn words traced text bytes r after = ReportedBy figure2 (own_memory words) (run_on traced words text bytes) traced text bytes r after

-- on the words that the text needs
abbrev pub Reported : Bool → List ℕ → List ℕ → ReportedRun → List ℕ → Type 0
Reported traced text bytes r after = ReportedOn (own_words text) traced text bytes r after
