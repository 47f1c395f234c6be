-- The run as the code holds it, what holds of it at every moment, and what its inner functions promise of it.
-- Inner: `progress` gives `TextRun`'s run of it, and `TurnLaws` (crate `text_machine`) proves that an entry of it is
-- `single`.
use Rattle.std.specs.Prelude.{◌≡◌, ℕ, ◌+◌, ◌≤◌, ◌<◌, List, [], Option, length, get_or, take, replicate}
use Rattle.model.specs.declared.Process.{Process}
use Rattle.model.specs.declared.Reply.{Reply}
use Rattle.model.specs.declared.Reply.TheVariants.{Refused, Accepted, LlAnswered, ScAnswered, VlAnswered}
use Rattle.model.specs.Sizes.{lent_words}
use Rattle.model.specs.Words.{return_area}
use Rattle.model.specs.Records.{no_process}
use Rattle.model.specs.Machine.{Memory}
use Rattle.model.specs.SetUp.{empty_bench}
use Rattle.notation.specs.declared.Entry.{Entry}
use Rattle.notation.specs.Grammar.{largest}
use Rattle.notation.specs.Stretches as S
use Rattle.listing.specs.Lines.{letter_s, letter_v, ll_line, truth_line}
use Rattle.listing.specs.declared.Writer.{Writer}
use Rattle.listing.specs.Writing.{Fits}
use Rattle.access.specs.declared.Access.{Access}
use Rattle.access.specs.TraceLines.{access_text}
use Rattle.text_entry.specs.declared.state.Held.{Held}
use Rattle.text_runs.specs.declared.runs.Run.{Run}
use Rattle.text_runs.specs.TextRun.{most_entries, room_needed}
use Rattle.text_runs.specs.Runs.{last_room}
use Rattle.text_runs.specs.Parts as Parts
use Rattle.text_model.specs.TextRun.{Progress, answers}
use Rattle.text_model.specs.Reached.{Reached}

-- an empty bench, and sixteen records that stand for none
abbrev pub empty_held : Held
empty_held = record { bench = empty_bench; all = replicate 16 no_process }

-- the run, the number of the refusal that stopped it, 0 while it goes on, the lent words, the listing and how many of its
-- bytes are written
pub record RunState : Type 0 where
  pub run : Run Held
  pub stop : ℕ
  pub words : List ℕ
  pub listing : List ℕ
  pub written : ℕ

abbrev pub state_with : Run Held → ℕ → List ℕ → List ℕ → ℕ → RunState
state_with r k words listing written = record { run = r; stop = k; words = words; listing = listing; written = written }

-- the same with the writer that its lines go to
abbrev pub state_of : Run Held → ℕ → List ℕ → Writer → RunState
state_of r k words to = state_with r k words to.list.now to.written

-- what that is as a run in progress, where `len` records are lent
abbrev pub progress : ℕ → RunState → Progress
progress len h = record {
  memory = record { bench = h.run.held.bench; records = take len h.run.held.all; words = h.words };
  listing = h.listing;
  written = h.written;
  entries = h.run.entries;
  stop = h.stop;
  traced = h.run.traced;
}

-- sixteen records, with the filler from `len` on
pub record Filled (len : ℕ) (list : List Process) : Type 0 where
  pub sixteen : length list ≡ 16
  pub rest : (j : ℕ) → len ≤ j → get_or list j no_process ≡ no_process

-- a set-up and commands made the memory, W fits, and no word of the 5N rows has more than ten digits
pub record Fit (m : Memory) : Type 0 where
  pub reached : Reached m
  pub width : m.bench.w ≤ 64
  pub small : (i : ℕ) → i < lent_words m.bench.n m.bench.w → get_or m.words i 0 ≤ largest

-- what holds of a run at every moment
pub record Sound (len : ℕ) (h : RunState) : Type 0 where
  pub few : len ≤ 16
  pub filled : Filled len h.run.held.all
  pub entries : h.run.entries ≤ most_entries
  pub stop : h.stop ≤ 15
  pub room : h.written + last_room ≤ length h.listing
  pub going : h.stop ≡ 0 → Fit (progress len h).memory

-- it goes on, and neither 12 nor 14 holds
pub record Ready (h : RunState) : Type 0 where
  pub goes : h.stop ≡ 0
  pub entries : h.run.entries < most_entries
  pub room : h.written + room_needed h.run.traced ≤ length h.listing

-- the run stays sound, and as much is lent as before
pub record Kept (len : ℕ) (h h' : RunState) : Type 0 where
  pub sound : Sound len h'
  pub words : length h'.words ≡ length h.words
  pub listing : length h'.listing ≡ length h.listing

-- one run becomes another
pub record Becomes (len : ℕ) (f : Progress → Progress) (h h' : RunState) : Type 0 where
  pub same : progress len h' ≡ f (progress len h)
  pub kept : Kept len h h'

-- the numbers of an entry are those that a text may have
abbrev pub Small : Entry → Type 0
Small e = S.Small e

-- `line_of` over the parts of the memory that it reads
abbrev pub answer_line : ℕ → ℕ → List ℕ → ℕ → Reply → List ℕ
answer_line n w ws p (Refused c) = []
answer_line n w ws p Accepted = []
answer_line n w ws p (LlAnswered k) = ll_line p k (return_area n w (record { 0 = p }) ws)
answer_line n w ws p (ScAnswered t k) = truth_line p letter_s k t
answer_line n w ws p (VlAnswered t k) = truth_line p letter_v k t

-- the line can be written: its process is one of N, its words are lent, and there is room
pub record Listable (r : Reply) (p n w : ℕ) (ws : List ℕ) (to : Writer) : Type 0 where
  pub process : p < n
  pub n_most : n ≤ 16
  pub w_most : w ≤ 64
  pub lent : lent_words n w ≤ length ws
  pub room : Fits to (answer_line n w ws p r)

-- the trace's line of an accepted entry, none where no access is shown
abbrev pub shown_line : ℕ → Option Access → Entry → Reply → List ℕ
shown_line k a e r = Parts.shown_line access_text k a e (answers r)
