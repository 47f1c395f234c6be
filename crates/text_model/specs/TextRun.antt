-- The text run on the first bench: `text_runs`' own, on the machine of Figure 2.
use Rattle.std.specs.Prelude.{ℕ, List, [], Bool, true, false}
use Rattle.model.specs.declared.Reply.{Reply}
use Rattle.model.specs.declared.Reply.TheVariants.{Refused, Accepted, LlAnswered, ScAnswered, VlAnswered}
use Rattle.model.specs.Words.{return_area}
use Rattle.model.specs.Records.{record_at}
use Rattle.model.specs.Points.{point_of}
use Rattle.model.specs.Machine.{Memory}
use Rattle.model.specs.Refusals.{is_idle}
use Rattle.model.specs.Command.{command}
use Rattle.model.specs.Replies.{number_of}
use Rattle.model.specs.SetUp.{set_up}
use Rattle.notation.specs.declared.Entry.{Entry}
use Rattle.notation.specs.Grammar.{Said}
use Rattle.notation.specs.Readings.{Reading}
use Rattle.notation.proofs.ReadingLaws.{reader}
use Rattle.listing.specs.Lines.{letter_s, letter_v, ll_line, truth_line}
use Rattle.access.specs.declared.Access.{Access}
use Rattle.access.specs.Accesses.{access_of}
use Rattle.access.specs.TraceLines.{step_line}
use Rattle.text_runs.specs.Machines.{Machine}
use Rattle.text_runs.specs.TextRun as T

-- "The listing has a line for each answer": the bytes that the reply to process p adds, with the memory as the command
-- left it
abbrev pub line_of : Memory → ℕ → Reply → List ℕ
line_of m p (Refused c) = []
line_of m p Accepted = []
line_of m p (LlAnswered k) = ll_line p k (return_area m.bench.n m.bench.w (record { 0 = p }) m.words)
line_of m p (ScAnswered t k) = truth_line p letter_s k t
line_of m p (VlAnswered t k) = truth_line p letter_v k t

-- whether a reply answers the call
abbrev pub answers : Reply → Bool
answers (Refused c) = false
answers Accepted = false
answers (LlAnswered k) = true
answers (ScAnswered t k) = true
answers (VlAnswered t k) = true

-- the access that a step of process p makes on this memory
abbrev pub access_now : Memory → ℕ → Access
access_now m p = access_of (point_of (record_at m.records (record { 0 = p })).line) (record { 0 = p }) m.bench (record_at m.records (record { 0 = p })) m.words

-- the machine of Figure 2
abbrev pub figure2 : Machine
figure2 = record {
  Memory = Memory;
  Reply = Reply;
  set_up = set_up;
  command = command;
  width = λ m. m.bench.w;
  idle = λ m p. is_idle (record_at m.records (record { 0 = p }));
  number_of = number_of;
  answers = answers;
  line_of = line_of;
  Shown = Access;
  shows = access_now;
  step_line = step_line;
}

-- a run in progress on it, and what a run returns
abbrev pub Progress : Type 0
Progress = T.Progress figure2

abbrev pub Ended : Type 0
Ended = T.Ended figure2

-- the parts of a run
abbrev pub stopped : ℕ → Progress → Progress
stopped k s = T.stopped figure2 k s

abbrev pub entry_line : ℕ → Access → Entry → Reply → List ℕ
entry_line k a e r = T.entry_line figure2 k a e r

abbrev pub trace_line : ℕ → Memory → Entry → Reply → List ℕ
trace_line k m e r = T.trace_line figure2 k m e r

abbrev pub lines_of : Progress → Entry → Reply × Memory → List ℕ
lines_of s e out = T.lines_of figure2 s e out

abbrev pub counted : Progress → Memory → List ℕ → Progress
counted s m lines = T.counted figure2 s m lines

abbrev pub replied : Progress → Entry → Reply × Memory → Progress
replied s e out = T.replied figure2 s e out

abbrev pub commanded : Entry → Progress → Progress
commanded e s = T.commanded figure2 e s

abbrev pub single : Entry → Progress → Progress
single e s = T.single figure2 e s

abbrev pub unanswered : ℕ → Progress → Bool
unanswered p s = T.unanswered figure2 p s

abbrev pub steps : ℕ → ℕ → Progress → Progress
steps left p s = T.steps figure2 left p s

abbrev pub finish : ℕ → Progress → Progress
finish p s = T.finish figure2 p s

abbrev pub carry : Entry → Progress → Progress
carry e s = T.carry figure2 e s

abbrev pub carry_all : List Entry → Progress → Progress
carry_all es s = T.carry_all figure2 es s

abbrev pub last_line : Progress → List ℕ
last_line s = T.last_line figure2 s

abbrev pub ended : Progress → Ended
ended s = T.ended figure2 s

abbrev pub begun : Bool → Memory → List ℕ → ℕ → Progress
begun t m listing stop = T.begun figure2 t m listing stop

abbrev pub started : Bool → Memory → List ℕ → Said → ℕ × Memory → Ended
started t m listing a prepared = T.started figure2 t m listing a prepared

abbrev pub carried_out : Bool → Memory → List ℕ → Reading → Ended
carried_out t m listing r = T.carried_out figure2 t m listing r

abbrev pub run_with : Bool → Memory → List ℕ → List ℕ → Ended
run_with t m text listing = T.run_with figure2 reader t m text listing

-- the text run that writes the listing, and the one that writes the trace
abbrev pub run_text : Memory → List ℕ → List ℕ → Ended
run_text m text listing = run_with false m text listing

abbrev pub trace_text : Memory → List ℕ → List ℕ → Ended
trace_text m text listing = run_with true m text listing
