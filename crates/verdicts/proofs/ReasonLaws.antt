-- A reason is given exactly where the verdict is no.
use mathlib.Core.Path.{◌≡◌, refl, sym, ap, ap₂, subst, ◌∙◌}
use Prim.Native.Nat.{ℕ, suc}
use mathlib.Core.List.{List, [], ◌∷◌, map}
use mathlib.Core.Bool.{Bool, true, false, not, ◌&&◌, ◌||◌, cond}
use native.Mathlib.Omega.{arith}
use lib.Dec.{leb}
use Rattle.llsc.specs.Object.{Object, fresh, serve}
use Rattle.llsc.specs.Linearizable.{Timed, fed, insert, sort_into}
use Rattle.llsc.specs.Rows.{every, some}
use Rattle.std.specs.Prelude.{Option, Some, None, Result, Ok, Err}
use Rattle.llsc.specs.declared.refusals.Refusal.{Refusal}
use Rattle.verdicts.specs.declared.Verdict.{Verdict}
use Rattle.verdicts.specs.declared.Verdict.TheVariants.{Refused, Yes, No}
use Rattle.verdicts.specs.declared.LogRefusal.{LogRefusal}
use Rattle.verdicts.specs.declared.Fault.{Fault}
use Rattle.verdicts.specs.Log.{Entry, entries}
use Rattle.verdicts.specs.Verdicts.{timed_of, each_two, kind_known, apart, differ, inside, truth_told, same_answers, in_order, answers_of, served_alike, ll_before}
use Rattle.verdicts.specs.Verdicts.{earns_yes, first_cause, log_checked, said_of, judged}
use Rattle.verdicts.specs.Reasons.{timed_of_numbered, first_with, one_at_fault, two_at_fault, Numbered, numbered, insert_numbered, sort_numbered, numbered_in_order}
use Rattle.verdicts.specs.Reasons.{tells_alike, feed_entry, standing_after, Standing, in_value, object_answers, not_alike}
use Rattle.verdicts.specs.Reasons.{at_one, at_two, reasons, first_reason, reason_of_no, cause_of, log_faults, log_refused, explained, judged_with_reason}
use Rattle.verdicts.specs.Reasons.{verdict_of, reason_given, reason_for}

-- no condition of CR 1 is told to fail
abbrev pub none : {A : Type 0} → Option A → Bool
none None = true
none (Some a) = false

not_not : (b : Bool) → not (not b) ≡ b
not_not true = refl
not_not false = refl

not_or : (a b : Bool) → (not a || not b) ≡ not (a && b)
not_or true b = refl
not_or false b = refl

pub and_true : (b : Bool) → (b && true) ≡ b
and_true true = refl
and_true false = refl

pub across : (a b x y : Bool) → ((a && x) && (b && y)) ≡ ((a && b) && (x && y))
across false b x y = refl
across true true x y = refl
across true false true y = refl
across true false false y = refl

swap : (a b c : Bool) → (a && (b && c)) ≡ (b && (a && c))
swap true b c = refl
swap false true c = refl
swap false false c = refl

past : (a b c : Bool) → (a && (b && c)) ≡ ((b && a) && c)
past true true c = refl
past true false c = refl
past false true c = refl
past false false c = refl

pub some_not : (f : Entry → Bool) (es : List Entry) → some (λ e. not (f e)) es ≡ not (every f es)
some_not f [] = refl
some_not f (e ∷ es) = ap (λ b. not (f e) || b) (some_not f es) ∙ not_or (f e) (every f es)

-- something, or another
chosen : {A : Type 0} (a : A) (x : Option A) (b : Bool) → none (cond b (Some a) x) ≡ (not b && none x)
chosen a x true = refl
chosen a x false = refl

pub one_none : (f : Entry → Bool) (es : List Entry) → none (one_at_fault (λ e. not (f e)) es) ≡ every f es
one_none f es =
    chosen (first_with (λ e. not (f e)) es) None (some (λ e. not (f e)) es)
    ∙ and_true (not (some (λ e. not (f e)) es)) ∙ ap not (some_not f es) ∙ not_not (every f es)

pub two_none : (r : Entry → Entry → Bool) (k : ℕ) (es : List Entry) → none (two_at_fault (λ e f. not (r e f)) k es) ≡ each_two r es
two_none r k [] = refl
two_none r k (e ∷ es) =
    chosen _ (two_at_fault (λ e f. not (r e f)) (suc k) es) (some (λ f. not (r e f)) es)
    ∙ ap₂ (λ b t. not b && t) (some_not (r e) es) (two_none r (suc k) es) ∙ ap (λ b. b && each_two r es) (not_not (every (r e) es))

-- a fault is told where something is
one_told : (f : ℕ → Fault) (r : Option ℕ) → none (at_one f r) ≡ none r
one_told f None = refl
one_told f (Some k) = refl

two_told : (f : ℕ → ℕ → Fault) (r : Option (ℕ × ℕ)) → none (at_two f r) ≡ none r
two_told f None = refl
two_told f (Some ks) = refl

insert_is : (c : Numbered) (ds : List Numbered) → map timed_of_numbered (insert_numbered c ds) ≡ insert (timed_of_numbered c) (map timed_of_numbered ds)
insert_is c [] = refl
insert_is c (d ∷ ds) = go (leb d.entry.moment c.entry.moment) (insert_is c ds)
  where
    go : (b : Bool) → map timed_of_numbered (insert_numbered c ds) ≡ insert (timed_of_numbered c) (map timed_of_numbered ds)
        → map timed_of_numbered (cond b (d ∷ insert_numbered c ds) (c ∷ d ∷ ds))
        ≡ cond b (timed_of_numbered d ∷ insert (timed_of_numbered c) (map timed_of_numbered ds)) (timed_of_numbered c ∷ timed_of_numbered d ∷ map timed_of_numbered ds)
    go true e = ap (timed_of_numbered d ∷◌) e
    go false e = refl

sort_is : (cs ds : List Numbered) → map timed_of_numbered (sort_numbered cs ds) ≡ sort_into (map timed_of_numbered cs) (map timed_of_numbered ds)
sort_is [] ds = refl
sort_is (c ∷ cs) ds = sort_is cs (insert_numbered c ds) ∙ ap (sort_into (map timed_of_numbered cs)) (insert_is c ds)

numbered_is : (k : ℕ) (es : List Entry) → map timed_of_numbered (numbered k es) ≡ map timed_of es
numbered_is k [] = refl
numbered_is k (e ∷ es) = ap (timed_of e ∷◌) (numbered_is (suc k) es)

pub numbered_in_order_lem : (es : List Entry) → map timed_of_numbered (numbered_in_order es) ≡ in_order es
numbered_in_order_lem es = sort_is (numbered 0 es) [] ∙ ap (λ ts. sort_into ts []) (numbered_is 0 es)

-- a test of every call holds in any order
module _ (f : Entry → Bool) where
  abbrev of : Numbered → Bool
  of c = f c.entry

  every_insert : (c : Numbered) (ds : List Numbered) → every of (insert_numbered c ds) ≡ (of c && every of ds)
  every_insert c [] = refl
  every_insert c (d ∷ ds) = go (leb d.entry.moment c.entry.moment) (every_insert c ds)
    where
      go : (b : Bool) → every of (insert_numbered c ds) ≡ (of c && every of ds) → every of (cond b (d ∷ insert_numbered c ds) (c ∷ d ∷ ds)) ≡ (of c && (of d && every of ds))
      go true e = ap (of d &&◌) e ∙ swap (of d) (of c) (every of ds)
      go false e = refl

  every_sort : (cs ds : List Numbered) → every of (sort_numbered cs ds) ≡ (every of cs && every of ds)
  every_sort [] ds = refl
  every_sort (c ∷ cs) ds = every_sort cs (insert_numbered c ds) ∙ ap (every of cs &&◌) (every_insert c ds) ∙ past (every of cs) (of c) (every of ds)

  every_numbered : (k : ℕ) (es : List Entry) → every of (numbered k es) ≡ every f es
  every_numbered k [] = refl
  every_numbered k (e ∷ es) = ap (f e &&◌) (every_numbered (suc k) es)

  every_in_order : (es : List Entry) → every of (numbered_in_order es) ≡ every f es
  every_in_order es = every_sort (numbered 0 es) [] ∙ and_true (every of (numbered 0 es)) ∙ every_numbered 0 es

-- no call is answered otherwise exactly where the object answers each alike
pub alike_none : (o : Object) (s : Standing) (cs : List Numbered)
    → none (not_alike o s cs) ≡ (every (of truth_told) cs && same_answers (serve o (map fed (map timed_of_numbered cs))) (answers_of (map timed_of_numbered cs)))
alike_none o s [] = refl
alike_none o s (c ∷ cs) = go (tells_alike c.entry o) _ ∙ ap (tells_alike c.entry o &&◌) (alike_none (feed_entry c.entry o) (standing_after c o s) cs) ∙ sym (across (truth_told c.entry) _ _ _)
  where
    go : (b : Bool) (x : Option Fault) → none (cond b x (Some (object_answers c o s))) ≡ (b && none x)
    go true x = refl
    go false x = refl

pub served_none : (value : List ℕ) (es : List Entry) → none (not_alike (fresh value) in_value (numbered_in_order es)) ≡ served_alike value es
served_none value es =
    alike_none (fresh value) in_value (numbered_in_order es)
    ∙ ap₂ (λ t ts. t && same_answers (serve (fresh value) (map fed ts)) (answers_of ts)) (every_in_order truth_told es) (numbered_in_order_lem es)

-- the first that fails
first_none : (rs : List (Option Fault)) → none (first_reason rs) ≡ every none rs
first_none [] = refl
first_none (None ∷ rs) = first_none rs
first_none (Some f ∷ rs) = refl

pub no_reason_earns : (value : List ℕ) (es : List Entry) → none (reason_of_no value es) ≡ earns_yes value es
unfolding reason_of_no earns_yes
no_reason_earns value es =
    first_none (reasons value es)
    ∙ ap₂ ◌&&◌ (one_told _ _ ∙ one_none kind_known es)
    (ap₂ ◌&&◌ (two_told _ _ ∙ two_none apart 0 es)
    (ap₂ ◌&&◌ (two_told _ _ ∙ two_none differ 0 es)
    (ap₂ ◌&&◌ (one_told _ _ ∙ one_none inside es)
    (ap₂ ◌&&◌ (served_none value es) (ap (λ b. b && true) (one_told _ _ ∙ one_none (ll_before es) es))))))

-- a refusal without what it is about; the first that holds is that of the rows by their names
abbrev pub cause_told : Result (Unit {0}) LogRefusal → Result (Unit {0}) Refusal
cause_told (Ok x) = Ok x
cause_told (Err r) = Err (cause_of r)

same_cause : (cs : List (Bool × LogRefusal)) → cause_told (first_cause cs) ≡ first_cause (map (λ c. (c.0, cause_of c.1)) cs)
same_cause [] = refl
same_cause (c ∷ cs) = go c.0 (same_cause cs)
  where
    go : (b : Bool) → cause_told (first_cause cs) ≡ first_cause (map (λ c. (c.0, cause_of c.1)) cs)
        → cause_told (cond b (Err c.1) (first_cause cs)) ≡ cond b (Err (cause_of c.1)) (first_cause (map (λ c. (c.0, cause_of c.1)) cs))
    go true e = refl
    go false e = e

pub checked_is : (n w : ℕ) (value log : List ℕ) → cause_told (log_refused n w value log) ≡ log_checked n w value log
unfolding log_refused log_checked
checked_is n w value log = same_cause (log_faults n w value log)

-- the verdict is the judge's
pub verdict_of_reason : (n w : ℕ) (value log : List ℕ) → verdict_of (judged_with_reason n w value log) ≡ judged n w value log
unfolding judged
verdict_of_reason n w value log =
    go (log_refused n w value log) (reason_of_no value (entries w log)) _ (no_reason_earns value (entries w log))
    ∙ ap (λ c. said_of c (earns_yes value (entries w log))) (checked_is n w value log)
  where
    go : (c : Result (Unit {0}) LogRefusal) (r : Option Fault) (e : Bool) → none r ≡ e → verdict_of (explained c r) ≡ said_of (cause_told c) e
    go (Ok t) None e h = ap (λ e. cond e Yes No) h
    go (Ok t) (Some f) e h = ap (λ e. cond e Yes No) h
    go (Err c) r e h = refl

abbrev is_no : Verdict → Bool
is_no (Refused c) = false
is_no Yes = false
is_no No = true

-- "a reason is given exactly where the verdict is no"
pub record ExactlyAtNo (v : Verdict) (r : Option Fault) : Type 0 where
  pub at_no : v ≡ No → r ≡ None → ⊥
  pub only : (r ≡ None → ⊥) → v ≡ No

unlike : (a b : Bool) → a ≡ true → b ≡ false → a ≡ b → ⊥
unlike a b e f z = let y : ◌≡◌ {A = ℕ} 1 0 = ap (λ b. cond b 1 0) (sym e ∙ z ∙ f) in omega arith

pub reason_exactly_at_no : (n w : ℕ) (value log : List ℕ) → ExactlyAtNo (judged n w value log) (reason_for n w value log)
unfolding judged
reason_exactly_at_no n w value log =
    subst (λ c. ExactlyAtNo (said_of c (earns_yes value (entries w log))) (reason_for n w value log)) (checked_is n w value log)
    (go (log_refused n w value log) (reason_of_no value (entries w log)) _ (no_reason_earns value (entries w log)))
  where
    go : (c : Result (Unit {0}) LogRefusal) (r : Option Fault) (e : Bool) → none r ≡ e → ExactlyAtNo (said_of (cause_told c) e) (reason_given (explained c r))
    go (Ok t) None true h = record { at_no = λ y. absurd (unlike (is_no No) (is_no Yes) refl refl (sym (ap is_no y))); only = λ y. absurd (y refl) }
    go (Ok t) None false h = absurd (unlike true false refl refl h)
    go (Ok t) (Some f) true h = absurd (unlike true false refl refl (sym h))
    go (Ok t) (Some f) false h = record { at_no = λ y v. unlike (none {A = Fault} None) (none (Some f)) refl refl (sym (ap none v)); only = λ y. refl }
    go (Err c) r e h = record { at_no = λ y. absurd (unlike (is_no No) (is_no (Refused (cause_of c))) refl refl (sym (ap is_no y))); only = λ y. absurd (y refl) }
