-- One entry carried out on the places taken out for it, as the code does it.
-- Inner: `EntryLaws` proves that such an entry is `single` of `text_model/specs/TextRun`; `text_machine::carrying` is a
-- turn of the loop.
use Rattle.std.specs.Prelude.{ℕ, ◌≡◌, List, [], ◌∷◌, ◌++◌, Bool, false, not, Option, Some, None, cond, eqb, ltb, leb, length}
use Rattle.llsc.specs.declared.ProcessNumber.{ProcessNumber}
use Rattle.model.specs.declared.Process.{Process}
use Rattle.llsc.specs.declared.Order.{Order}
use Rattle.model.specs.Points.{point_of}
use Rattle.llsc.specs.Rows.{first, row4}
use Rattle.model.specs.Refusals.{row5, row6, row7}
use Rattle.taken.specs.declared.Taken.{Taken}
use Rattle.taken.specs.declared.Stepped.{Stepped}
use Rattle.steps.specs.Steps.{offered, obey_on}
use Rattle.taken.specs.Ranges.{Ready}
use Rattle.notation.specs.declared.Entry.{Entry}
use Rattle.notation.specs.declared.Entry.TheVariants.{StartLl, StartVl, StartSc, Step, Finish}
use Rattle.listing.specs.declared.Writer.{Writer}
use Rattle.listing.specs.Writing.{Fits, Writes}
use Rattle.access.specs.declared.Access.{Access}
use Rattle.access.specs.AccessOn.{access_on}
use Rattle.text_runs.specs.TextRun.{most_entries, process_of, order_of, value_of}
use Rattle.text_entry.specs.RunState.{answer_line, shown_line}

-- what refuses an entry of a run that goes on, where no row that speaks of the lent memory holds: "before each entry
-- 12, then 14", then rows 4, 5, 6, 7; 0 for nothing. They are said out, and not by the late rows of a command
-- (`late_number`, crate `rows`), among which is 8: a text's SC brings W words, so the code does not look at it.
abbrev pub refusal_of : Order → ℕ → ℕ → ℕ → ℕ → ℕ → Process → ℕ
refusal_of o entries room needed n p q =
    cond (leb most_entries entries) 12 (cond (ltb room needed) 14 (first (row4 n p ∷ row5 o q ∷ row6 o q ∷ row7 o q ∷ [])))

-- the record that is looked at for a process number of the list
abbrev pub place_of : ℕ → ℕ
place_of p = cond (ltb p 16) p 0

abbrev pub number_of : Entry → ProcessNumber
number_of e = record { 0 = process_of e }

-- what an accepted entry makes of the places, its process and the words
abbrev pub turned : Entry → ℕ → ℕ → Taken → Process → List ℕ → Stepped × List ℕ
turned e n w t q ws = obey_on (order_of e) (number_of e) n w t q (offered (order_of e) (number_of e) n w (value_of w e) ws)

-- the access that a trace shows of it; a listing shows none
abbrev pub access_seen : Bool → ProcessNumber → ℕ → ℕ → Taken → Process → List ℕ → Option Access
access_seen traced p n w t q ws = cond traced (Some (access_on (point_of q.line) p n w t q ws)) None

-- the lines that it writes: the trace's, and then the answer's
abbrev pub turn_lines : Bool → ℕ → Entry → ℕ → ℕ → Taken → Process → List ℕ → List ℕ
turn_lines traced k e n w t q ws =
    shown_line k (access_seen traced (number_of e) n w t q ws) e (turned e n w t q ws).0.reply ++ answer_line n w (turned e n w t q ws).1 (process_of e) (turned e n w t q ws).0.reply

-- it can be carried out: its process and the words are in range, and its lines fit
pub record Turnable (traced : Bool) (k : ℕ) (e : Entry) (n w : ℕ) (t : Taken) (q : Process) (ws : List ℕ) (to : Writer) : Type 0 where
  pub ready : Ready n w q (number_of e) ws
  pub lent : length (turned e n w t q ws).1 ≡ length ws
  pub fits : Fits to (turn_lines traced k e n w t q ws)

pub record Turns (traced : Bool) (k : ℕ) (e : Entry) (n w : ℕ) (t : Taken) (q : Process) (ws : List ℕ) (to : Writer) (r : Stepped) (ws' : List ℕ) (to' : Writer) : Type 0 where
  pub taken : r.taken ≡ (turned e n w t q ws).0.taken
  pub process : r.process ≡ (turned e n w t q ws).0.process
  pub reply : r.reply ≡ (turned e n w t q ws).0.reply
  pub words : ws' ≡ (turned e n w t q ws).1
  pub wrote : Writes to (turn_lines traced k e n w t q ws) to'

-- "`!` is steps until the call answers": whether the entry is not over with a step that leaves its process at this line
abbrev pub stays_at : Entry → ℕ → Bool
stays_at (StartLl p) line = false
stays_at (StartVl p) line = false
stays_at (StartSc p k) line = false
stays_at (Step p) line = false
stays_at (Finish p) line = not (eqb line 0)
