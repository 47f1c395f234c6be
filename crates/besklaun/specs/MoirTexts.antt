-- A text run on Moir's bench (02, CR 8: "its own text run and trace"), on a bench of its own, for callers that lend a text
-- and room and nothing else.
use Rattle.std.specs.Prelude.{ℕ, List, Bool}
use Rattle.notation.proofs.ReadingLaws.{reader}
use Rattle.text_runs.specs.TextRun.{run_with}
use Rattle.text_runs.specs.declared.returned.TextRun.{TextRun}
use Rattle.moir_text_model.specs.TextRun.{figure6}
use Rattle.moir_text_machine.specs.TextRan.{at_start}
use Rattle.besklaun.specs.declared.texts.ReportedRun.{ReportedRun}
use Rattle.besklaun.specs.OwnBench.{seen}
use Rattle.besklaun.specs.TextReports.{ReportedBy}

-- a text run into these bytes, of its listing or, where `traced`, of its trace; what the caller sees of it is what it sees
-- of the first bench's
abbrev pub moir_text_run : Bool → List ℕ → List ℕ → TextRun × List ℕ
moir_text_run traced text bytes = seen (run_with figure6 reader traced at_start text bytes)

-- the same with its stop
abbrev pub MoirReported : Bool → List ℕ → List ℕ → ReportedRun → List ℕ → Type 0
MoirReported traced text bytes r after = ReportedBy figure6 at_start (moir_text_run traced text bytes) traced text bytes r after
