-- The replies of the three entries, at each place where the code returns.
use mathlib.Core.Path.{◌≡◌, refl, sym, ap, ap₂, subst, ◌∙◌}
use Prim.Native.Nat.{ℕ, ◌+◌, ◌≤◌, ◌<◌}
use mathlib.Core.List.{List}
use mathlib.Core.Logic.{◌⊎◌, inl, inr}
use mathlib.Core.Bool.{Bool, true, false, not, ◌||◌, cond}
use native.Mathlib.Omega.{arith}
use lib.Dec.{ltb, leb}
use borrow.Author.Tests.{lt-ltb, le-ltb, le-leb, lt-leb, ltb-false, ltb-true, leb-false}
use Rattle.std.specs.Prelude.{Option, Some, None, Result, Ok, Err, MatchResult, ok_or}
use Rattle.std.proofs.lemmas.Option.{none-some, same_Some}
use Rattle.llsc.specs.declared.refusals.Refusal.{Refusal}
use Rattle.llsc.specs.declared.refusals.Refusal.TheVariants.{TooManyTurns, NoSuchNumber, NotASchedule}
use Rattle.enumeration.specs.declared.Schedule.{Schedule}
use Rattle.ways.specs.Ways.{ways}
use Rattle.enumeration_model.specs.Schedules.{is_schedule, schedule_for, number_for, schedule_after}
use Rattle.enumeration.specs.Replies.{row20, row21, row22, number_refusal, turns_refusal, refusal_of}
use Rattle.enumeration.specs.Replies.{kept, found_for, numbered_for, following_of, following_for}
use Rattle.enumeration.specs.Turns.{placed}
use Rattle.enumeration.proofs.Theorems.{number_of_schedule}
use Rattle.std.proofs.lemmas.Result.{err_from_is_err_and}
use Rattle.enumeration.proofs.LoopLaws.{ways_fit}

-- the refusals are the rows' numbers, in their order
pub found_refusal : (a b k : ℕ) → refusal_of (found_for a b k) ≡ number_refusal a b k
unfolding found_for
found_refusal a b k = go (row20 a b).holds (row21 a b k).holds
  where
    go : (x y : Bool) → refusal_of (cond x (Err TooManyTurns) (cond y (Err NoSuchNumber) (Ok (kept a b (schedule_for a b k)))))
        ≡ cond x 20 (cond y 21 0)
    go true y = refl
    go false true = refl
    go false false = refl

after_rows : {A : Type 0} (x y : Bool) (r : A)
    → refusal_of (cond x (Err TooManyTurns) (cond y (Err NotASchedule) (Ok r))) ≡ cond x 20 (cond y 22 0)
after_rows true y r = refl
after_rows false true r = refl
after_rows false false r = refl

pub numbered_refusal : (a b : ℕ) (ts : List ℕ) → refusal_of (numbered_for a b ts) ≡ turns_refusal a b ts
unfolding numbered_for
numbered_refusal a b ts = after_rows (row20 a b).holds (row22 a b ts).holds (number_for a b ts)

pub following_refusal : (a b : ℕ) (ts : List ℕ) → refusal_of (following_for a b ts) ≡ turns_refusal a b ts
unfolding following_for
following_refusal a b ts = after_rows (row20 a b).holds (row22 a b ts).holds (following_of a b (schedule_after a b ts))

-- row 20
module _ (a b : ℕ) where
  or_true : (t : Bool) → (t || true) ≡ true
  or_true true = refl
  or_true false = refl

  over_a : 32 < a → (row20 a b).holds ≡ true
  over_a h = ap (λ x. x || ltb 32 b) (lt-ltb 32 a h)

  over_b : 32 < b → (row20 a b).holds ≡ true
  over_b h = ap (λ x. ltb 32 a || x) (lt-ltb 32 b h) ∙ or_true (ltb 32 a)

  pub over : (32 < a) ⊎ ((a ≤ 32) × (32 < b)) → (row20 a b).holds ≡ true
  over (inl h) = over_a h
  over (inr h) = over_b h.1

  pub not_over : a ≤ 32 → b ≤ 32 → (row20 a b).holds ≡ false
  not_over ha hb = ap₂ ◌||◌ (le-ltb 32 a ha) (le-ltb 32 b hb)

-- the schedule for a number
module _ (a b k : ℕ) where
  pub found_20 : (row20 a b).holds ≡ true → Err TooManyTurns ≡ found_for a b k
  unfolding found_for
  found_20 e = rw e

  module _ (ha : a ≤ 32) (hb : b ≤ 32) where
    abbrev given : Bool → Result Schedule Refusal
    given t = cond t (Err NoSuchNumber) (Ok (kept a b (schedule_for a b k)))

    found_given : found_for a b k ≡ given (leb (ways a b) k)
    unfolding found_for
    found_given = ap (λ x. cond x (Err TooManyTurns) (given (leb (ways a b) k))) (not_over a b ha hb)

    pub found_21 : ways a b ≤ k → Err NoSuchNumber ≡ found_for a b k
    found_21 h = sym (found_given ∙ ap given (le-leb (ways a b) k h))

    pub found_0 : k < ways a b → Ok (kept a b (schedule_for a b k)) ≡ found_for a b k
    found_0 h = sym (found_given ∙ ap given (lt-leb (ways a b) k h))

err_ok : {A : Type 0} {r : Refusal} {x : A} → Err r ≡ Ok x → ⊥
err_ok e = subst (λ z. MatchResult z (λ _. ⊥) (λ _. Unit {0})) e tt

same_ok : {A : Type 0} {x y : A} → ◌≡◌ {A = Result A Refusal} (Ok x) (Ok y) → x ≡ y
same_ok {x = x} e = subst (λ z. MatchResult z (λ v. x ≡ v) (λ _. Unit {0})) e refl

same_err : {A : Type 0} {r q : Refusal} → ◌≡◌ {A = Result A Refusal} (Err r) (Err q) → r ≡ q
same_err {r = r} e = subst (λ z. MatchResult z (λ _. Unit {0}) (λ v. r ≡ v)) e refl

-- nothing is refused
pub record Given (a b k : ℕ) : Type 0 where
  pub less_a : a ≤ 32
  pub less_b : b ≤ 32
  pub below : k < ways a b

pub found_is : (a b k : ℕ) (s : Schedule) → found_for a b k ≡ Ok s → Given a b k × (kept a b (schedule_for a b k) ≡ s)
unfolding found_for
found_is a b k s e = go (ltb 32 a) refl (ltb 32 b) refl (leb (ways a b) k) refl e
  where
    go : (x : Bool) → ltb 32 a ≡ x → (y : Bool) → ltb 32 b ≡ y → (t : Bool) → leb (ways a b) k ≡ t
        → cond (x || y) (Err TooManyTurns) (cond t (Err NoSuchNumber) (Ok (kept a b (schedule_for a b k)))) ≡ Ok s
        → Given a b k × (kept a b (schedule_for a b k) ≡ s)
    go true ex y ey t et e = absurd (err_ok e)
    go false ex true ey t et e = absurd (err_ok e)
    go false ex false ey true et e = absurd (err_ok e)
    go false ex false ey false et e = (
      record { less_a = ltb-false 32 a ex; less_b = ltb-false 32 b ey; below = leb-false (ways a b) k et },
      same_ok e,
    )

-- the number for a schedule
module _ (a b : ℕ) (ts : List ℕ) where
  pub numbered_20 : (row20 a b).holds ≡ true → Err TooManyTurns ≡ numbered_for a b ts
  unfolding numbered_for
  numbered_20 e = rw e

  pub numbered_placed : a ≤ 32 → b ≤ 32 → ok_or (placed a b ts) NotASchedule ≡ numbered_for a b ts
  unfolding numbered_for
  numbered_placed ha hb =
      tested (is_schedule a b ts) ∙ sym (ap (λ x. cond x (Err TooManyTurns) (replied (is_schedule a b ts))) (not_over a b ha hb))
    where
      replied : Bool → Result ℕ Refusal
      replied t = cond (not t) (Err NotASchedule) (Ok (number_for a b ts))

      tested : (t : Bool) → ok_or (cond t (Some (number_for a b ts)) None) NotASchedule ≡ replied t
      tested true = refl
      tested false = refl

  -- nothing is refused
  pub record Taken : Type 0 where
    pub less_a : a ≤ 32
    pub less_b : b ≤ 32
    pub test : is_schedule a b ts ≡ true

  pub numbered_is : (k : ℕ) → numbered_for a b ts ≡ Ok k → Taken × (number_for a b ts ≡ k)
  unfolding numbered_for
  numbered_is k e = go (ltb 32 a) refl (ltb 32 b) refl (is_schedule a b ts) refl e
    where
      go : (x : Bool) → ltb 32 a ≡ x → (y : Bool) → ltb 32 b ≡ y → (t : Bool) → is_schedule a b ts ≡ t
          → cond (x || y) (Err TooManyTurns) (cond (not t) (Err NotASchedule) (Ok (number_for a b ts))) ≡ Ok k
          → Taken × (number_for a b ts ≡ k)
      go true ex y ey t et e = absurd (err_ok e)
      go false ex true ey t et e = absurd (err_ok e)
      go false ex false ey false et e = absurd (err_ok e)
      go false ex false ey true et e =
          (record { less_a = ltb-false 32 a ex; less_b = ltb-false 32 b ey; test = et }, same_ok e)

-- the schedule after a given one
module _ (a b : ℕ) (ts : List ℕ) where
  pub following_refused : (r : Refusal) → numbered_for a b ts ≡ Err r → Err r ≡ following_for a b ts
  unfolding numbered_for following_for
  following_refused r e = go (row20 a b).holds (row22 a b ts).holds e
    where
      go : (x y : Bool) → cond x (Err TooManyTurns) (cond y (Err NotASchedule) (Ok (number_for a b ts))) ≡ Err r
          → Err r ≡ cond x (Err TooManyTurns) (cond y (Err NotASchedule) (Ok (following_of a b (schedule_after a b ts))))
      go true y e = ap Err (sym (same_err e))
      go false true e = ap Err (sym (same_err e))
      go false false e = absurd (err_ok (sym e))

  pub following_20 : (row20 a b).holds ≡ true → Err TooManyTurns ≡ following_for a b ts
  following_20 e = following_refused TooManyTurns (sym (numbered_20 a b ts e))

  module _ (k : ℕ) (e : numbered_for a b ts ≡ Ok k) where
    pub taken : Taken a b ts
    taken = (numbered_is a b ts k e).0

    pub below : k < ways a b
    below = omega (arith, (numbered_is a b ts k e).1, number_of_schedule a b ts taken.test)

    abbrev next : Bool → Option (List ℕ)
    next t = cond t (Some (schedule_for a b (k + 1))) None

    abbrev checked : Bool → Bool → Result (Option Schedule) Refusal
    checked x t = cond x (Err TooManyTurns) (cond (not t) (Err NotASchedule) (Ok (following_of a b (schedule_after a b ts))))

    after_is : schedule_after a b ts ≡ next (ltb (k + 1) (ways a b))
    unfolding schedule_after
    after_is = ap (λ k. cond (ltb (k + 1) (ways a b)) (Some (schedule_for a b (k + 1))) None) (numbered_is a b ts k e).1

    then : (t : Bool) → ltb (k + 1) (ways a b) ≡ t → Ok (following_of a b (next t)) ≡ following_for a b ts
    unfolding following_for
    then t f =
        sym (ap₂ checked (not_over a b taken.less_a taken.less_b) taken.test
        ∙ ap (λ n. Ok (following_of a b n)) (after_is ∙ ap next f))

    pub following_last : ways a b ≤ k + 1 → Ok None ≡ following_for a b ts
    following_last h = then false (le-ltb (k + 1) (ways a b) h)

    pub following_next : k + 1 < ways a b → Ok (Some (kept a b (schedule_for a b (k + 1)))) ≡ following_for a b ts
    following_next h = then true (lt-ltb (k + 1) (ways a b) h)

-- a schedule that follows is the one for a number
pub record Followed (a b : ℕ) (s : Schedule) : Type 0 where
  pub number : ℕ
  pub below : number < ways a b
  pub is : kept a b (schedule_for a b number) ≡ s

pub following_is : (a b : ℕ) (ts : List ℕ) (s : Schedule) → following_for a b ts ≡ Ok (Some s) → Followed a b s
unfolding following_for schedule_after
following_is a b ts s e = go (row20 a b).holds (row22 a b ts).holds (ltb (k + 1) (ways a b)) refl e
  where
    k : ℕ
    k = number_for a b ts

    next : Bool → Option (List ℕ)
    next t = cond t (Some (schedule_for a b (k + 1))) None

    go : (x y t : Bool) → ltb (k + 1) (ways a b) ≡ t
        → cond x (Err TooManyTurns) (cond y (Err NotASchedule) (Ok (following_of a b (next t)))) ≡ Ok (Some s) → Followed a b s
    go true y t et e = absurd (err_ok e)
    go false true t et e = absurd (err_ok e)
    go false false false et e = absurd (none-some s (same_ok e))
    go false false true et e =
        record { number = k + 1; below = ltb-true (k + 1) (ways a b) et; is = same_Some _ _ (same_ok e) }

-- what `schedule_for` rests on
pub ruleset found_laws = (err_from_is_err_and, over, found_20, found_21, found_0)

-- what `number_for` rests on
pub ruleset numbered_laws = (err_from_is_err_and, over, numbered_20, numbered_placed)

-- what `schedule_after` rests on
pub ruleset following_laws = (err_from_is_err_and, over, following_20, following_refused, ways_fit, taken, below, following_last, following_next)
