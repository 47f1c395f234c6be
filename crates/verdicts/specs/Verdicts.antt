-- What the judge says of a log (02, CR 1).
use Rattle.std.specs.Prelude.{◌≡◌, ℕ, ◌%◌, List, [], ◌∷◌, map, Bool, true, false, not, ◌&&◌, ◌||◌, cond, eqb, ltb, leb, length}
use Rattle.std.specs.Prelude.{Result, Ok, Err}
use Rattle.llsc.specs.Answers.{Answer, ll_words, sc_truth, vl_truth}
use Rattle.llsc.specs.Object.{Kind, ll, sc, vl, fresh, serve}
use Rattle.llsc.specs.History.{Call}
use Rattle.llsc.specs.Linearizable.{Timed, in_moment_order, fed}
use Rattle.llsc.specs.Rows.{Row, first, every, some, between, row1, row2}
use Rattle.llsc.specs.declared.refusals.Refusal.{Refusal}
use Rattle.llsc.specs.declared.refusals.Refusal.TheVariants.{NOutOfRange, WOutOfRange, NoSuchProcess, ValueNotWWords}
use Rattle.llsc.specs.declared.refusals.Refusal.TheVariants.{TooManyCalls, AnswerNotAfterStart}
use Rattle.llsc.specs.Refusals.{refusal_number, number_told}
use Rattle.verdicts.specs.declared.Verdict.{Verdict}
use Rattle.verdicts.specs.declared.Verdict.TheVariants.{Refused, Yes, No}
use Rattle.verdicts.specs.Log.{Entry, width, entries, begun}

-- the number of a refusal, 0 for none
abbrev pub number_of : Verdict → ℕ
number_of (Refused r) = refusal_number r
number_of Yes = 0
number_of No = 0

-- whether "It says yes"
abbrev pub says_yes : Verdict → Bool
says_yes (Refused r) = false
says_yes Yes = true
says_yes No = false

-- The call that an entry tells, "1 for LL, 2 for SC or 3 for VL". (A log tells no steps and no count.)
abbrev pub kind_of : Entry → Kind
kind_of e = cond (eqb e.kind 1) ll (cond (eqb e.kind 2) (sc e.words) vl)

abbrev pub answer_of : Entry → Answer
answer_of e = cond (eqb e.kind 1) (ll_words e.words) (cond (eqb e.kind 2) (sc_truth (eqb e.truth 1)) (vl_truth (eqb e.truth 1)))

abbrev pub call_of : Entry → Call
call_of e = record { process = e.process; kind = kind_of e; start = e.start; end = e.answer; steps = 0; answer = answer_of e; count = 0 }

abbrev pub timed_of : Entry → Timed
timed_of e = record { call = call_of e; moment = e.moment }

-- holds of each two entries, the earlier in the log first
abbrev pub each_two : (Entry → Entry → Bool) → List Entry → Bool
each_two r [] = true
each_two r (e ∷ es) = every (r e) es && each_two r es

-- "every kind is 1 for LL, 2 for SC or 3 for VL"
abbrev pub kind_known : Entry → Bool
kind_known e = between 1 3 e.kind

-- "of any two calls of one process one's answer place is before the other's start place"
abbrev pub apart : Entry → Entry → Bool
apart e f = not (eqb e.process f.process) || (ltb e.answer f.start || ltb f.answer e.start)

-- "the moments are all different"
abbrev pub differ : Entry → Entry → Bool
differ e f = not (eqb e.moment f.moment)

-- "each lies after its start and not after its answer"
abbrev pub inside : Entry → Bool
inside e = ltb e.start e.moment && leb e.moment e.answer

-- "SC's or VL's 1 or 0": any other number is like no answer. An LL's is not looked at.
abbrev pub truth_told : Entry → Bool
truth_told e = eqb e.kind 1 || leb e.truth 1

-- two answers are alike: the same words, the same truth
abbrev pub same_words : List ℕ → List ℕ → Bool
same_words [] [] = true
same_words [] (b ∷ bs) = false
same_words (a ∷ rest) [] = false
same_words (a ∷ rest) (b ∷ bs) = eqb a b && same_words rest bs

abbrev pub same_truth : Bool → Bool → Bool
same_truth s t = cond s t (not t)

abbrev pub answers_alike : Answer → Answer → Bool
answers_alike (ll_words a) (ll_words b) = same_words a b
answers_alike (ll_words a) (sc_truth t) = false
answers_alike (ll_words a) (vl_truth t) = false
answers_alike (sc_truth s) (ll_words b) = false
answers_alike (sc_truth s) (sc_truth t) = same_truth s t
answers_alike (sc_truth s) (vl_truth t) = false
answers_alike (vl_truth s) (ll_words b) = false
answers_alike (vl_truth s) (sc_truth t) = false
answers_alike (vl_truth s) (vl_truth t) = same_truth s t

abbrev pub same_answers : List Answer → List Answer → Bool
same_answers [] [] = true
same_answers [] (b ∷ bs) = false
same_answers (a ∷ rest) [] = false
same_answers (a ∷ rest) (b ∷ bs) = answers_alike a b && same_answers rest bs

-- the calls "in moment order": promise 3's own sort
abbrev pub in_order : List Entry → List Timed
in_order es = in_moment_order (map timed_of es)

abbrev pub answers_of : List Timed → List Answer
answers_of ts = map (λ (t : Timed). t.call.answer) ts

-- Figure 1's object, begun with the value, gives the calls, in this order, their answers
abbrev pub served_so : List ℕ → List Timed → Bool
served_so value ts = same_answers (serve (fresh value) (map fed ts)) (answers_of ts)

-- "Figure 1's object, begun with the value given, answers each call alike in moment order"
abbrev pub served_alike : List ℕ → List Entry → Bool
served_alike value es = every truth_told es && served_so value (in_order es)

-- f is an LL of e's process, before e in moment order
abbrev pub leads : Entry → Entry → Bool
leads e f = eqb f.process e.process && (eqb f.kind 1 && ltb f.moment e.moment)

-- "each SC or VL has an LL of its process before it in that order"
abbrev pub ll_before : List Entry → Entry → Bool
ll_before es e = eqb e.kind 1 || some (leads e) es

-- "It says yes exactly when" these six hold, in the order of the request.
abbrev pub conditions : List ℕ → List Entry → List Bool
conditions value es =
    every kind_known es ∷ each_two apart es ∷ each_two differ es ∷ every inside es ∷ served_alike value es ∷ every (ll_before es) es ∷ []

unfoldable pub earns_yes : List ℕ → List Entry → Bool
earns_yes value es = every (λ b. b) (conditions value es)

-- Row 4, "process number not below N": of a call that is cut off, too, where its first number stands.
abbrev pub row4log : ℕ → List Entry → Row
row4log n es = record { number = 4; holds = some (λ (e : Entry). leb n e.process) es }

-- Row 8, "value not of W words": the value given, or a call that is cut off
abbrev pub row8log : ℕ → List ℕ → List ℕ → Row
row8log w value log = record { number = 8; holds = not (eqb (length value) w) || not (eqb (length log % width w) 0) }

-- "16 for more than 512 calls, 17 for an answer place not after its start place"
abbrev pub row16 : List Entry → Row
row16 es = record { number = 16; holds = ltb 512 (length es) }

abbrev pub row17 : List Entry → Row
row17 es = record { number = 17; holds = some (λ (e : Entry). leb e.answer e.start) es }

-- "over the whole log after 1, 2, 4 and 8, in that order"
abbrev pub log_rows : ℕ → ℕ → List ℕ → List ℕ → List Row
log_rows n w value log = row1 n ∷ row2 w ∷ row4log n (begun w log) ∷ row8log w value log ∷ row16 (entries w log) ∷ row17 (entries w log) ∷ []

unfoldable pub log_refusal : ℕ → ℕ → List ℕ → List ℕ → ℕ
log_refusal n w value log = first (log_rows n w value log)

-- the same by name: the first cause that holds, a row's truth beside its name
abbrev pub first_cause : {A : Type 0} → List (Bool × A) → Result (Unit {0}) A
first_cause [] = Ok tt
first_cause (c ∷ cs) = cond c.0 (Err c.1) (first_cause cs)

abbrev pub log_causes : ℕ → ℕ → List ℕ → List ℕ → List (Bool × Refusal)
log_causes n w value log =
    ((row1 n).holds, NOutOfRange)
    ∷ ((row2 w).holds, WOutOfRange)
    ∷ ((row4log n (begun w log)).holds, NoSuchProcess)
    ∷ ((row8log w value log).holds, ValueNotWWords)
    ∷ ((row16 (entries w log)).holds, TooManyCalls)
    ∷ ((row17 (entries w log)).holds, AnswerNotAfterStart)
    ∷ []

unfoldable pub log_checked : ℕ → ℕ → List ℕ → List ℕ → Result (Unit {0}) Refusal
log_checked n w value log = first_cause (log_causes n w value log)

-- refused for a cause, or else what the log earns
abbrev pub said_of : Result (Unit {0}) Refusal → Bool → Verdict
said_of (Ok _) earned = cond earned Yes No
said_of (Err r) earned = Refused r

-- What is said of the log: N, W, the value with which the object begins, and the log's numbers.
unfoldable pub judged : ℕ → ℕ → List ℕ → List ℕ → Verdict
judged n w value log = said_of (log_checked n w value log) (earns_yes value (entries w log))

-- What is promised of a verdict's number and word: the first row that holds, 0 for none; and "It says yes exactly when" no
-- row and all six conditions hold. Proved in `proofs/VerdictLaws`.
pub record VerdictSays (n w : ℕ) (value log : List ℕ) : Type 0 where
  pub checked : number_told (log_checked n w value log) ≡ log_refusal n w value log
  pub number : number_of (judged n w value log) ≡ log_refusal n w value log
  pub yes : says_yes (judged n w value log) ≡ (eqb (log_refusal n w value log) 0 && earns_yes value (entries w log))
