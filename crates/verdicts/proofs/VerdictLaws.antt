-- The number and the word of every verdict.
use mathlib.Core.Path.{◌≡◌, refl, sym, ap, ◌∙◌}
use Prim.Native.Nat.{ℕ}
use mathlib.Core.List.{List, [], ◌∷◌, map}
use mathlib.Core.Bool.{Bool, true, false, ◌&&◌, cond}
use native.Mathlib.Omega.{arith}
use lib.Dec.{eqb}
use Rattle.std.specs.Prelude.{Result, Ok, Err}
use Rattle.llsc.specs.declared.refusals.Refusal.{Refusal}
use Rattle.llsc.specs.Refusals.{refusal_number, number_told}
use Rattle.llsc.specs.Rows.{Row, first}
use Rattle.llsc.specs.declared.refusals.Refusal.TheVariants.{NOutOfRange, WOutOfRange, TooLittleLent, NoSuchProcess, StartAtBusy}
use Rattle.llsc.specs.declared.refusals.Refusal.TheVariants.{StepAtIdle, NeverLinked, ValueNotWWords, NumberOutOfRange, TextBroken}
use Rattle.llsc.specs.declared.refusals.Refusal.TheVariants.{TooDeep, TooMuch, NoRoom, NoSuchSuccess, TooManyCalls}
use Rattle.llsc.specs.declared.refusals.Refusal.TheVariants.{AnswerNotAfterStart, NoListing, SeasonFull, TooManyTurns, NoSuchNumber}
use Rattle.llsc.specs.declared.refusals.Refusal.TheVariants.{NotASchedule, ROutOfRange, NoSuchRecord, BadTrailer, BadRecord}
use Rattle.llsc.specs.declared.refusals.Refusal.TheVariants.{ProcessInBoth, TooLittleRoom}
use Rattle.verdicts.specs.declared.Verdict.TheVariants.{Yes, No}
use Rattle.verdicts.specs.Log.{entries}
use Rattle.verdicts.specs.Verdicts.{number_of, says_yes, earns_yes, log_refusal, judged, VerdictSays}
use Rattle.verdicts.specs.Verdicts.{first_cause, log_causes, log_checked, said_of}

-- the rows by number and by name
abbrev row_of : Bool × Refusal → Row
row_of c = record { number = refusal_number c.1; holds = c.0 }

same_first : (cs : List (Bool × Refusal)) → number_told (first_cause cs) ≡ first (map row_of cs)
same_first [] = refl
same_first (c ∷ cs) = go c.0 (same_first cs)
  where
    go : (b : Bool) → number_told (first_cause cs) ≡ first (map row_of cs)
        → number_told (cond b (Err c.1) (first_cause cs)) ≡ cond b (refusal_number c.1) (first (map row_of cs))
    go true e = refl
    go false e = e

number_said : (c : Result (Unit {0}) Refusal) (t : Bool) → number_of (said_of c t) ≡ number_told c
number_said (Ok x) true = refl
number_said (Ok x) false = refl
number_said (Err r) t = refl

-- no refusal has the number 0
not_0 : (r : Refusal) → eqb (refusal_number r) 0 ≡ false
not_0 NOutOfRange = refl
not_0 WOutOfRange = refl
not_0 TooLittleLent = refl
not_0 NoSuchProcess = refl
not_0 StartAtBusy = refl
not_0 StepAtIdle = refl
not_0 NeverLinked = refl
not_0 ValueNotWWords = refl
not_0 NumberOutOfRange = refl
not_0 TextBroken = refl
not_0 TooDeep = refl
not_0 TooMuch = refl
not_0 NoRoom = refl
not_0 NoSuchSuccess = refl
not_0 TooManyCalls = refl
not_0 AnswerNotAfterStart = refl
not_0 NoListing = refl
not_0 SeasonFull = refl
not_0 TooManyTurns = refl
not_0 NoSuchNumber = refl
not_0 NotASchedule = refl
not_0 ROutOfRange = refl
not_0 NoSuchRecord = refl
not_0 BadTrailer = refl
not_0 BadRecord = refl
not_0 ProcessInBoth = refl
not_0 TooLittleRoom = refl

yes_said : (c : Result (Unit {0}) Refusal) (t : Bool) → says_yes (said_of c t) ≡ (eqb (number_told c) 0 && t)
yes_said (Ok x) true = refl
yes_said (Ok x) false = refl
yes_said (Err r) t = sym (ap (λ b. b && t) (not_0 r))

pub verdict_says : (n w : ℕ) (value log : List ℕ) → VerdictSays n w value log
unfolding judged log_refusal log_checked
verdict_says n w value log =
    let c = log_checked n w value log in
    let t = earns_yes value (entries w log) in
    let checked = same_first (log_causes n w value log) in
    record { checked = checked; number = number_said c t ∙ checked; yes = yes_said c t ∙ ap (λ k. eqb k 0 && t) checked }

-- where no number is told, the log is taken, and its verdict is what it earns
pub taken_ok : (c : Result (Unit {0}) Refusal) → number_told c ≡ 0 → c ≡ Ok tt
taken_ok (Ok x) e = refl
taken_ok (Err r) e = absurd (let z : ◌≡◌ {A = ℕ} 0 1 = ap (λ b. cond b 1 0) (sym (not_0 r) ∙ ap (λ k. eqb k 0) e) in omega arith)

module _ (n w : ℕ) (value log : List ℕ) (e : log_refusal n w value log ≡ 0) where
  pub checked_ok : log_checked n w value log ≡ Ok tt
  checked_ok = taken_ok (log_checked n w value log) ((verdict_says n w value log).checked ∙ e)

  pub judged_earns : judged n w value log ≡ cond (earns_yes value (entries w log)) Yes No
  unfolding judged
  judged_earns = ap (λ c. said_of c (earns_yes value (entries w log))) checked_ok
