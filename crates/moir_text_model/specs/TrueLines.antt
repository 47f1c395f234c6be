-- What it means that each line of a trace of Moir's bench is true of its own command.
use Rattle.std.specs.Prelude.{◌≡◌, ℕ, List, true, replicate}
use Rattle.notation.specs.declared.Entry.{Entry}
use Rattle.notation.specs.declared.Entry.TheVariants.{StartLl, StartVl, StartSc, Step, Finish}
use Rattle.notation.specs.Grammar.{Said}
use Rattle.moir_model.specs.declared.Reply.{Reply}
use Rattle.moir_model.specs.Records.{record_at}
use Rattle.moir_model.specs.Points.{point_of}
use Rattle.moir_model.specs.Machine.{Memory}
use Rattle.moir_model.specs.SetUp.{set_up}
use Rattle.moir_access.specs.Truth.{TellsTruth, Untouched, Gets, figure_line}
use Rattle.text_runs.specs.TextRun.{begun}
use Rattle.text_runs.specs.TrueTraces as T
use Rattle.moir_text_model.specs.TextRun.{figure6, Progress}

-- What the trace line of an entry says of its command, which found the memory m and left a reply and a memory.
-- Of a step: the access shown tells the truth, its process gets what is shown, and the line is Figure 6's.
pub record StepTrue (p : ℕ) (m : Memory) (out : Reply × Memory) : Type 0 where
  pub tells : TellsTruth (figure6.shows m p) m.bench m.words out.1.bench out.1.words
  pub gets : let q = record_at m.records (record { 0 = p }) in
      Gets (point_of q.line) (figure6.shows m p) q (record { bench = out.1.bench; process = record_at out.1.records (record { 0 = p }); reply = out.0 })
  pub line : (figure6.shows m p).line ≡ figure_line (point_of (record_at m.records (record { 0 = p })).line)

-- Of a start: docs/TRACE.md, "a start touches nothing shared".
abbrev pub StartTrue : Memory → Reply × Memory → Type 0
StartTrue m out = Untouched m.bench m.words out.1.bench out.1.words

abbrev pub EntryTrue : Entry → Memory → Reply × Memory → Type 0
EntryTrue (StartLl p) m out = StartTrue m out
EntryTrue (StartVl p) m out = StartTrue m out
EntryTrue (StartSc p k) m out = StartTrue m out
EntryTrue (Step p) m out = StepTrue p m out
EntryTrue (Finish p) m out = StepTrue p m out

-- a line that is true of its command, and a run that goes on only by such
abbrev pub TrueLine : Entry → Progress → Type 0
TrueLine e s = T.TrueLine figure6 EntryTrue e s

abbrev pub Told : Progress → Progress → Type 0
Told s t = T.Told figure6 TrueLine s t

-- the run of a text that says `a`, after its set-up of the lent memory m
abbrev pub trace_begun : Memory → Said → List ℕ → Progress
trace_begun m a listing = begun figure6 true (set_up m a.n a.w (replicate a.w a.initial)).1 listing 0
