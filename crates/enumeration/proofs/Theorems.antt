-- What CR 5 asks to show of the numbering: every schedule comes once, both translations undo each other, and the order
-- is the dictionary's, process 0 before process 1.
use mathlib.Core.Path.{◌≡◌, sym, ap, ◌∙◌}
use Prim.Native.Nat.{ℕ, ◌+◌, ◌≤◌, ◌<◌}
use mathlib.Core.List.{List}
use mathlib.Core.Bool.{true, false}
use native.Mathlib.Omega.{arith}
use lib.Dec.{ltb}
use borrow.Author.Tests.{ltb-true, ltb-false, lt-ltb, le-ltb}
use Rattle.laws.proofs.Updates.{by_test}
use Rattle.std.specs.Prelude.{Some, None}
use Rattle.ways.specs.Ways.{ways}
use Rattle.enumeration_model.specs.Schedules.{is_schedule, before, schedule_for, number_for, schedule_after, ComesOnce, Follows}
use Rattle.enumeration.proofs.ScheduleFacts.{built, is_schedule_lem, schedule_built, number_schedule, number_below, schedule_number, in_order}

-- each number below the count has a schedule, whose number it is;
pub schedule_of_number : (a b k : ℕ) → k < ways a b → is_schedule a b (schedule_for a b k) ≡ true
schedule_of_number a b k h = is_schedule_lem a b _ (schedule_built a b k h)

pub number_undoes : (a b k : ℕ) → k < ways a b → number_for a b (schedule_for a b k) ≡ k
number_undoes = number_schedule

-- each schedule has a number below the count, whose schedule it is.
pub number_of_schedule : (a b : ℕ) (ts : List ℕ) → is_schedule a b ts ≡ true → number_for a b ts < ways a b
number_of_schedule a b ts e = number_below a b ts (built a b ts e)

pub schedule_undoes : (a b : ℕ) (ts : List ℕ) → is_schedule a b ts ≡ true → schedule_for a b (number_for a b ts) ≡ ts
schedule_undoes a b ts e = schedule_number a b ts (built a b ts e)

pub every_schedule_once : (a b : ℕ) (ts : List ℕ) → is_schedule a b ts ≡ true → ComesOnce a b ts
every_schedule_once a b ts e =
    record {
      number = number_for a b ts;
      below = number_of_schedule a b ts e;
      comes = schedule_undoes a b ts e;
      once = λ k h same. sym (number_undoes a b k h) ∙ ap (number_for a b) same;
    }

pub in_dictionary_order : (a b : ℕ) (ts us : List ℕ) → is_schedule a b ts ≡ true → is_schedule a b us ≡ true
    → before ts us ≡ ltb (number_for a b ts) (number_for a b us)
in_dictionary_order a b ts us e f = in_order a b ts us (built a b ts e) (built a b us f)

-- The schedule after one is the next in dictionary order, and the last has none after it.
pub after_follows : (a b : ℕ) (ts : List ℕ) → is_schedule a b ts ≡ true → Follows a b ts (schedule_after a b ts)
unfolding schedule_after
after_follows a b ts e = by_test (Follows a b ts) (ltb (k + 1) (ways a b)) there none
  where
    k : ℕ
    k = number_for a b ts

    there : ltb (k + 1) (ways a b) ≡ true → Follows a b ts (Some (schedule_for a b (k + 1)))
    there t =
        let us = schedule_for a b (k + 1) in
        let h = ltb-true (k + 1) (ways a b) t in
        let v = schedule_of_number a b (k + 1) h in
        let n : number_for a b us ≡ k + 1 = number_undoes a b (k + 1) h in
        let later : k < number_for a b us = omega arith in (
          v,
          (
            in_dictionary_order a b ts us e v ∙ lt-ltb k _ later,
            λ vs i q.
                let z : k < number_for a b vs = ltb-true k (number_for a b vs) (sym (in_dictionary_order a b ts vs e i) ∙ q) in
                let y : number_for a b us ≤ number_for a b vs = omega arith in
                in_dictionary_order a b vs us i v ∙ le-ltb _ _ y,
          ),
        )

    none : ltb (k + 1) (ways a b) ≡ false → Follows a b ts None
    none t vs i =
        let h = ltb-false (k + 1) (ways a b) t in
        let z = number_of_schedule a b vs i in
        let y : number_for a b vs ≤ k = omega arith in
        in_dictionary_order a b ts vs e i ∙ le-ltb k _ y
