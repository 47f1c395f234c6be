-- What it means that each line of a trace is true of its own command.
use Rattle.std.specs.Prelude.{◌≡◌, ℕ, List, true, replicate}
use Rattle.model.specs.Records.{record_at}
use Rattle.model.specs.Points.{point_of}
use Rattle.model.specs.Machine.{Memory}
use Rattle.model.specs.SetUp.{set_up}
use Rattle.notation.specs.declared.Entry.{Entry}
use Rattle.notation.specs.declared.Entry.TheVariants.{StartLl, StartVl, StartSc, Step, Finish}
use Rattle.notation.specs.Grammar.{Said}
use Rattle.doings.specs.declared.Item.{Item}
use Rattle.doings.specs.Items.{InBench, item_at}
use Rattle.access.specs.Accesses.{item_of}
use Rattle.access.specs.Truth.{TellsTruth, DependsOn}
use Rattle.text_runs.specs.TrueTraces as T
use Rattle.text_model.specs.TextRun.{figure2, Progress, begun}

-- What the trace line of an entry says of its command, which found the memory m and left m'.
-- Of a step: README, "every access that led to them": the access shown tells the truth, in the sense of `TellsTruth`.
-- And the item shown is the one that the step depends on, in the sense of `DependsOn`.
pub record StepTrue (p : ℕ) (m m' : Memory) : Type 0 where
  pub tells : TellsTruth (record { 0 = p }) (figure2.shows m p) m.bench m.words m'.bench m'.words
  pub depends : let q = record_at m.records (record { 0 = p }) in
      DependsOn (point_of q.line) (record { 0 = p }) m.bench q m.words (item_of (figure2.shows m p).act)

-- Of a start: docs/TRACE.md, "a start touches nothing shared".
abbrev pub StartTrue : Memory → Memory → Type 0
StartTrue m m' = (i : Item) → InBench m.bench i → item_at i m'.bench m'.words ≡ item_at i m.bench m.words

abbrev pub EntryTrue : Entry → Memory → Memory → Type 0
EntryTrue (StartLl p) m m' = StartTrue m m'
EntryTrue (StartVl p) m m' = StartTrue m m'
EntryTrue (StartSc p k) m m' = StartTrue m m'
EntryTrue (Step p) m m' = StepTrue p m m'
EntryTrue (Finish p) m m' = StepTrue p m m'

-- a line that is true of its command, and a run that goes on only by such
abbrev pub TrueLine : Entry → Progress → Type 0
TrueLine e s = T.TrueLine figure2 (λ e m out. EntryTrue e m out.1) e s

abbrev pub Told : Progress → Progress → Type 0
Told s t = T.Told figure2 TrueLine s t

-- the run of a text that says `a`, after its set-up of the lent memory m
abbrev pub trace_begun : Memory → Said → List ℕ → Progress
trace_begun m a listing = begun true (set_up m a.n a.w (replicate a.w a.initial)).1 listing 0
