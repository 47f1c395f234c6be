-- Why the judge says no, and which call a refusal is about. A call is told by its index in the log, from 0 on.
use Rattle.std.specs.Prelude.{ℕ, zero, suc, ◌+◌, ◌/◌, List, [], ◌∷◌, Bool, not, ◌&&◌, cond, eqb, leb, length}
use Rattle.std.specs.Prelude.{Option, Some, None, Result, Ok, Err}
use Rattle.llsc.specs.Answers.{Answer, ll_words, sc_truth, vl_truth}
use Rattle.llsc.specs.Object.{Object, fresh, tell, feed}
use Rattle.llsc.specs.Linearizable.{Timed}
use Rattle.llsc.specs.Rows.{some, row1, row2}
use Rattle.llsc.specs.declared.refusals.Refusal.{Refusal}
use Rattle.llsc.specs.declared.refusals.Refusal.TheVariants.{NOutOfRange as NOutOfRange·row, WOutOfRange as WOutOfRange·row}
use Rattle.llsc.specs.declared.refusals.Refusal.TheVariants.{NoSuchProcess as NoSuchProcess·row, ValueNotWWords as ValueNotWWords·row}
use Rattle.llsc.specs.declared.refusals.Refusal.TheVariants.{TooManyCalls as TooManyCalls·row, AnswerNotAfterStart as AnswerNotAfterStart·row}
use Rattle.verdicts.specs.declared.Verdict.{Verdict}
use Rattle.verdicts.specs.declared.Verdict.TheVariants.{Refused as Refused·said, Yes as Yes·said, No as No·said}
use Rattle.verdicts.specs.declared.Shown.{Shown}
use Rattle.verdicts.specs.declared.Shown.TheVariants.{Value as Value·shown, WordsOf, Truth}
use Rattle.verdicts.specs.declared.Fault.{Fault}
use Rattle.verdicts.specs.declared.Fault.TheVariants.{Unknown, Overlap, Moment, Outside, Answer as Answer·fault, Unled}
use Rattle.verdicts.specs.declared.Place.{Place}
use Rattle.verdicts.specs.declared.Place.TheVariants.{Value, Call}
use Rattle.verdicts.specs.declared.LogRefusal.{LogRefusal}
use Rattle.verdicts.specs.declared.LogRefusal.TheVariants.{NOutOfRange, WOutOfRange, NoSuchProcess, ValueNotWWords, TooManyCalls, AnswerNotAfterStart}
use Rattle.verdicts.specs.declared.Judgement.{Judgement}
use Rattle.verdicts.specs.declared.Judgement.TheVariants.{Refused, Yes, No}
use Rattle.verdicts.specs.Log.{Entry, width, entries, begun}
use Rattle.verdicts.specs.Verdicts.{timed_of, kind_of, answer_of, kind_known, apart, differ, inside, truth_told, answers_alike, ll_before}
use Rattle.verdicts.specs.Verdicts.{row4log, row8log, row16, row17, first_cause}

-- how many entries stand before the first that passes a test: the index of that entry
abbrev pub first_with : (Entry → Bool) → List Entry → ℕ
first_with f [] = 0
first_with f (e ∷ es) = cond (f e) 0 (suc (first_with f es))

-- a condition fails at an entry: the first in the log of which f holds is told
abbrev pub one_at_fault : (Entry → Bool) → List Entry → Option ℕ
one_at_fault f es = cond (some f es) (Some (first_with f es)) None

-- a condition fails at two entries: the first in the log that is at fault with a later one, and the first of those later
-- ones. The list begins with the call of index k.
abbrev pub two_at_fault : (Entry → Entry → Bool) → ℕ → List Entry → Option (ℕ × ℕ)
two_at_fault f k [] = None
two_at_fault f k (e ∷ es) = cond (some (f e) es) (Some (k, suc k + first_with (f e) es)) (two_at_fault f (suc k) es)

-- an entry with its index
pub record Numbered : Type 0 where
  pub index : ℕ
  pub entry : Entry

abbrev pub numbered : ℕ → List Entry → List Numbered
numbered k [] = []
numbered k (e ∷ es) = record { index = k; entry = e } ∷ numbered (suc k) es

-- "in moment order": promise 3's sort, with the index going along (`numbered_in_order_lem` says that it is `in_order`)
abbrev pub insert_numbered : Numbered → List Numbered → List Numbered
insert_numbered c [] = c ∷ []
insert_numbered c (d ∷ ds) = cond (leb d.entry.moment c.entry.moment) (d ∷ insert_numbered c ds) (c ∷ d ∷ ds)

abbrev pub sort_numbered : List Numbered → List Numbered → List Numbered
sort_numbered [] sorted = sorted
sort_numbered (c ∷ cs) sorted = sort_numbered cs (insert_numbered c sorted)

abbrev pub numbered_in_order : List Entry → List Numbered
numbered_in_order es = sort_numbered (numbered 0 es) []

-- a call as the object is fed it
abbrev pub timed_of_numbered : Numbered → Timed
timed_of_numbered c = timed_of c.entry

-- the object's answer to an entry's call is the entry's: a truth that is neither 0 nor 1 is like none
abbrev pub tells_alike : Entry → Object → Bool
tells_alike e o = truth_told e && answers_alike (tell e.process (kind_of e) o) (answer_of e)

abbrev pub feed_entry : Entry → Object → Object
feed_entry e o = feed e.process (kind_of e) o

-- where the words stand that the object holds: they are the value given, or those that the SC of this index offered
abbrev pub Standing : Type 0
Standing = Option ℕ

abbrev pub in_value : Standing
in_value = None

-- an SC of a process with its link set writes its words
abbrev pub writes : Entry → Object → Bool
writes e o = eqb e.kind 2 && o.link e.process

abbrev pub standing_after : Numbered → Object → Standing → Standing
standing_after c o s = cond (writes c.entry o) (Some c.index) s

-- condition 5 fails at this call: what the object would have answered it, as where the words stand or as a truth
abbrev pub words_shown : Standing → Shown
words_shown None = Value·shown
words_shown (Some k) = WordsOf k

abbrev pub object_answers : Numbered → Object → Standing → Fault
object_answers c o s = Answer·fault c.index (cond (eqb c.entry.kind 1) (words_shown s) (Truth (o.link c.entry.process)))

-- what that says of the entry's call: the answer that the object gives
abbrev pub words_at : ℕ → List Entry → List ℕ
words_at k [] = []
words_at zero (e ∷ es) = e.words
words_at (suc k) (e ∷ es) = words_at k es

abbrev pub answer_told : List ℕ → List Entry → Entry → Shown → Answer
answer_told value es e Value·shown = ll_words value
answer_told value es e (WordsOf k) = ll_words (words_at k es)
answer_told value es e (Truth t) = cond (eqb e.kind 2) (sc_truth t) (vl_truth t)

-- "Figure 1's object .. answers each call alike in moment order": the first call, in the order of the list, that it does
-- not, and what it answers there
abbrev pub not_alike : Object → Standing → List Numbered → Option Fault
not_alike o s [] = None
not_alike o s (c ∷ cs) =
    cond (tells_alike c.entry o) (not_alike (feed_entry c.entry o) (standing_after c o s) cs) (Some (object_answers c o s))

-- a call, or two, at fault with a condition
abbrev pub at_one : (ℕ → Fault) → Option ℕ → Option Fault
at_one f None = None
at_one f (Some k) = Some (f k)

abbrev pub at_two : (ℕ → ℕ → Fault) → Option (ℕ × ℕ) → Option Fault
at_two f None = None
at_two f (Some ks) = Some (f ks.0 ks.1)

-- The six of `conditions` in the order of the request: what is at fault where one fails.
abbrev pub reasons : List ℕ → List Entry → List (Option Fault)
reasons value es =
    at_one Unknown (one_at_fault (λ e. not (kind_known e)) es)
    ∷ at_two Overlap (two_at_fault (λ e f. not (apart e f)) 0 es)
    ∷ at_two Moment (two_at_fault (λ e f. not (differ e f)) 0 es)
    ∷ at_one Outside (one_at_fault (λ e. not (inside e)) es)
    ∷ not_alike (fresh value) in_value (numbered_in_order es)
    ∷ at_one Unled (one_at_fault (λ e. not (ll_before es e)) es)
    ∷ []

-- one reason, or else another; the first that fails
abbrev pub or_else : Option Fault → Option Fault → Option Fault
or_else None r = r
or_else (Some f) r = Some f

abbrev pub first_reason : List (Option Fault) → Option Fault
first_reason [] = None
first_reason (r ∷ rs) = or_else r (first_reason rs)

unfoldable pub reason_of_no : List ℕ → List Entry → Option Fault
reason_of_no value es = first_reason (reasons value es)

-- a condition's number in the request
abbrev pub condition_of : Fault → ℕ
condition_of (Unknown k) = 1
condition_of (Overlap k j) = 2
condition_of (Moment k j) = 3
condition_of (Outside k) = 4
condition_of (Answer·fault k s) = 5
condition_of (Unled k) = 6

-- of 8 the value where it is not of W words, else the call that is cut off
abbrev pub cut_off : ℕ → List ℕ → List ℕ → Place
cut_off w value log = cond (eqb (length value) w) (Call (length log / width w)) Value

-- the row that refuses a log, and what it is about: of 4, 8 and 17 the value or a call
abbrev pub cause_of : LogRefusal → Refusal
cause_of NOutOfRange = NOutOfRange·row
cause_of WOutOfRange = WOutOfRange·row
cause_of (NoSuchProcess k) = NoSuchProcess·row
cause_of (ValueNotWWords p) = ValueNotWWords·row
cause_of TooManyCalls = TooManyCalls·row
cause_of (AnswerNotAfterStart k) = AnswerNotAfterStart·row

abbrev pub place_of : LogRefusal → Option Place
place_of NOutOfRange = None
place_of WOutOfRange = None
place_of (NoSuchProcess k) = Some (Call k)
place_of (ValueNotWWords p) = Some p
place_of TooManyCalls = None
place_of (AnswerNotAfterStart k) = Some (Call k)

-- `log_causes` with what each is about: the first call with a process not below N, or with an answer not after its start
-- (`checked_is`, proofs/ReasonLaws)
abbrev pub log_faults : ℕ → ℕ → List ℕ → List ℕ → List (Bool × LogRefusal)
log_faults n w value log =
    ((row1 n).holds, NOutOfRange)
    ∷ ((row2 w).holds, WOutOfRange)
    ∷ ((row4log n (begun w log)).holds, NoSuchProcess (first_with (λ (e : Entry). leb n e.process) (begun w log)))
    ∷ ((row8log w value log).holds, ValueNotWWords (cut_off w value log))
    ∷ ((row16 (entries w log)).holds, TooManyCalls)
    ∷ ((row17 (entries w log)).holds, AnswerNotAfterStart (first_with (λ (e : Entry). leb e.answer e.start) (entries w log)))
    ∷ []

unfoldable pub log_refused : ℕ → ℕ → List ℕ → List ℕ → Result (Unit {0}) LogRefusal
log_refused n w value log = first_cause (log_faults n w value log)

-- verdict and reason
abbrev pub explained : Result (Unit {0}) LogRefusal → Option Fault → Judgement
explained (Err r) f = Refused r
explained (Ok _) None = Yes
explained (Ok _) (Some f) = No f

abbrev pub judged_with_reason : ℕ → ℕ → List ℕ → List ℕ → Judgement
judged_with_reason n w value log = explained (log_refused n w value log) (reason_of_no value (entries w log))

-- its two parts: the verdict (`verdict_of_reason`, proofs/ReasonLaws, says that it is `judged`), and the reason of a no
abbrev pub verdict_of : Judgement → Verdict
verdict_of (Refused r) = Refused·said (cause_of r)
verdict_of Yes = Yes·said
verdict_of (No f) = No·said

abbrev pub reason_given : Judgement → Option Fault
reason_given (Refused r) = None
reason_given Yes = None
reason_given (No f) = Some f

abbrev pub reason_for : ℕ → ℕ → List ℕ → List ℕ → Option Fault
reason_for n w value log = reason_given (judged_with_reason n w value log)
