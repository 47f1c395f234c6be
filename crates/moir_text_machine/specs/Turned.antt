-- One entry carried out, as the code does it.
-- Inner: `TurnLaws` proves that such an entry is `single` of `text_runs/specs/TextRun`.
use Rattle.std.specs.Prelude.{ℕ, ◌≤◌, ◌<◌, List, [], Bool, false, not, cond, Option, Some, None, length}
use Rattle.llsc.specs.declared.ProcessNumber.{ProcessNumber}
use Rattle.notation.specs.declared.Entry.{Entry}
use Rattle.notation.specs.declared.Entry.TheVariants.{StartLl, StartVl, StartSc, Step, Finish}
use Rattle.listing.specs.declared.Writer.{Writer}
use Rattle.listing.specs.Writing.{Fits}
use Rattle.text_runs.specs.Parts as Parts
use Rattle.moir_model.specs.declared.Bench.{Bench}
use Rattle.moir_model.specs.declared.Process.{Process}
use Rattle.moir_model.specs.declared.Reply.{Reply}
use Rattle.moir_model.specs.Sizes.{lent_words}
use Rattle.moir_model.specs.Points.{point_of}
use Rattle.moir_model.specs.Records.{record_at}
use Rattle.moir_model.specs.Refusals.{is_idle}
use Rattle.moir_access.specs.declared.Access.{Access}
use Rattle.moir_access.specs.Accesses.{access_of}
use Rattle.moir_access.specs.TraceParts.{access_text}
use Rattle.moir_text_model.specs.TextRun.{line_of, answers}

-- "The value k has k in all W words": k, and as many words as an entry brings
abbrev pub brought_by : Entry → Option ℕ
brought_by (StartLl p) = None
brought_by (StartVl p) = None
brought_by (StartSc p k) = Some k
brought_by (Step p) = None
brought_by (Finish p) = None

abbrev pub words_brought : Entry → ℕ → ℕ
words_brought (StartLl p) w = 0
words_brought (StartVl p) w = 0
words_brought (StartSc p k) w = w
words_brought (Step p) w = 0
words_brought (Finish p) w = 0

-- "`!` is steps until the call answers": whether the entry is not over with a step that leaves these records
abbrev pub stays_in : Entry → List Process → Bool
stays_in (StartLl p) list = false
stays_in (StartVl p) list = false
stays_in (StartSc p k) list = false
stays_in (Step p) list = false
stays_in (Finish p) list = not (is_idle (record_at list (record { 0 = p })))

-- `line_of` over the parts of the memory that it reads
abbrev pub answer_line : Bench → List ℕ → ℕ → Reply → List ℕ
answer_line b ws p r = line_of (record { bench = b; records = []; words = ws }) p r

-- the line can be written: its process is one of N, its words are lent, and there is room
pub record Listable (r : Reply) (p : ℕ) (b : Bench) (ws : List ℕ) (to : Writer) : Type 0 where
  pub process : p < b.n
  pub n_most : b.n ≤ 16
  pub w_most : b.w ≤ 64
  pub lent : lent_words b.n b.w ≤ length ws
  pub room : Fits to (answer_line b ws p r)

-- the access that a trace shows of an entry; a listing shows none
abbrev pub access_seen : Bool → ProcessNumber → Bench → Process → List ℕ → Option Access
access_seen t p b q ws = cond t (Some (access_of (point_of q.line) p b q ws)) None

-- the trace's line of an accepted entry, none where no access is shown
abbrev pub shown_line : ℕ → Option Access → Entry → Reply → List ℕ
shown_line k a e r = Parts.shown_line access_text k a e (answers r)
