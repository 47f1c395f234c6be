-- The text run on Moir's bench (02, CR 8): `text_runs`' own, on the machine of Figure 6.
use Rattle.std.specs.Prelude.{ℕ, List, [], ◌∷◌, ◌++◌, Bool, true, false}
use Rattle.notation.proofs.ReadingLaws.{reader}
use Rattle.listing.specs.Quoted.{byte}
use Rattle.listing.specs.Lines.{line_feed, letter_s, letter_v, answer_head, ll_line, truth_line}
use Rattle.trace_parts.specs.TraceParts as Parts
use Rattle.trace_parts.specs.TraceParts.{spaced}
use Rattle.moir_model.specs.declared.Reply.{Reply}
use Rattle.moir_model.specs.declared.Reply.TheVariants.{Refused, Accepted, WllAnswered, WllNamed, ScAnswered, VlAnswered}
use Rattle.moir_model.specs.Words.{return_area}
use Rattle.moir_model.specs.Records.{record_at}
use Rattle.moir_model.specs.Points.{point_of}
use Rattle.moir_model.specs.Machine.{Memory}
use Rattle.moir_model.specs.Refusals.{is_idle}
use Rattle.moir_model.specs.Command.{command}
use Rattle.moir_model.specs.Replies.{number_of}
use Rattle.moir_model.specs.SetUp.{set_up}
use Rattle.moir_access.specs.declared.Access.{Access}
use Rattle.moir_access.specs.Accesses.{access_of}
use Rattle.moir_access.specs.TraceParts.{access_text}
use Rattle.text_runs.specs.Machines.{Machine}
use Rattle.text_runs.specs.TextRun as T

-- a WLL that names a process has the letter N and that process's number (docs/NOTATION.md)
abbrev pub letter_n : ℕ
letter_n = byte "N"

unfoldable pub named_line : ℕ → ℕ → ℕ → List ℕ
named_line process count named = answer_head process letter_n count ++ (spaced named ++ (line_feed ∷ []))

-- "The listing has a line for each answer": the bytes that the reply to process p adds, with the memory as the command
-- left it
abbrev pub line_of : Memory → ℕ → Reply → List ℕ
line_of m p (Refused c) = []
line_of m p Accepted = []
line_of m p (WllAnswered k) = ll_line p k (return_area m.bench.n m.bench.w (record { 0 = p }) m.words)
line_of m p (WllNamed q k) = named_line p k q.0
line_of m p (ScAnswered t k) = truth_line p letter_s k t
line_of m p (VlAnswered t k) = truth_line p letter_v k t

-- whether a reply answers the call
abbrev pub answers : Reply → Bool
answers (Refused c) = false
answers Accepted = false
answers (WllAnswered k) = true
answers (WllNamed q k) = true
answers (ScAnswered t k) = true
answers (VlAnswered t k) = true

-- the access that a step of process p makes on this memory
abbrev pub access_now : Memory → ℕ → Access
access_now m p = access_of (point_of (record_at m.records (record { 0 = p })).line) (record { 0 = p }) m.bench (record_at m.records (record { 0 = p })) m.words

-- the line of a step
abbrev pub step_line : ℕ → ℕ → Access → Bool → List ℕ
step_line entry p a answered = Parts.step_line access_text entry p a answered

-- the machine of Figure 6
abbrev pub figure6 : Machine
figure6 = record {
  Memory = Memory;
  Reply = Reply;
  set_up = set_up;
  command = command;
  width = λ m. m.bench.w;
  idle = λ m p. is_idle (record_at m.records (record { 0 = p }));
  number_of = number_of;
  answers = answers;
  line_of = line_of;
  Shown = Access;
  shows = access_now;
  step_line = step_line;
}

-- a run in progress on it, and what a run returns
abbrev pub Progress : Type 0
Progress = T.Progress figure6

abbrev pub Ended : Type 0
Ended = T.Ended figure6

-- the text run that writes the listing, and the one that writes the trace
abbrev pub run_text : Memory → List ℕ → List ℕ → Ended
run_text m text listing = T.run_with figure6 reader false m text listing

abbrev pub trace_text : Memory → List ℕ → List ℕ → Ended
trace_text m text listing = T.run_with figure6 reader true m text listing
