-- Schedules as they are built, turn by turn, and what follows from that for their numbers and their order.
use mathlib.Core.Path.{◌≡◌, refl, sym, ap, ap₂, subst, ◌∙◌}
use Prim.Native.Nat.{ℕ, zero, suc, ◌+◌, ◌-◌, ◌≤◌, ◌<◌}
use mathlib.Core.List.{List, [], ◌∷◌}
use mathlib.Core.Bool.{Bool, true, false, ◌&&◌, ◌||◌}
use native.Mathlib.Omega.{arith}
use native.Mathlib.Decide.{dec_lt}
use lib.Dec.{eqb, ltb, leb}
use lib.ListN.{length, replicate}
use borrow.Author.Tests.{eqb-true, eq-eqb, ltb-true, ltb-false, lt-ltb, le-ltb, leb-true}
use Rattle.llsc.specs.Rows.{every}
use Rattle.laws.proofs.AndLaws.{left, right}
use Rattle.laws.proofs.Updates.{by_test}
use Rattle.ways.specs.Ways.{ways}
use Rattle.enumeration_model.specs.Schedules.{turns_of, is_schedule, before, schedule_for, number_for}

pub data Turns : ℕ → ℕ → List ℕ → Type 0 where
  done : Turns 0 0 []
  first0 : {a b : ℕ} {ts : List ℕ} → Turns a b ts → Turns (suc a) b (0 ∷ ts)
  first1 : {a b : ℕ} {ts : List ℕ} → Turns a b ts → Turns a (suc b) (1 ∷ ts)

abbrev known : List ℕ → Bool
known ts = every (λ t. leb t 1) ts

turns_test : {a b : ℕ} {ts : List ℕ} → Turns a b ts → (known ts ≡ true) × ((turns_of 0 ts ≡ a) × (turns_of 1 ts ≡ b))
turns_test done = (refl, (refl, refl))
turns_test (first0 s) = let z = turns_test s in let x = z.1.0 in let y = z.1.1 in (z.0, (omega arith, omega arith))
turns_test (first1 s) = let z = turns_test s in let x = z.1.0 in let y = z.1.1 in (z.0, (omega arith, omega arith))

retotal : {a b c d : ℕ} {ts : List ℕ} → a ≡ c → b ≡ d → Turns a b ts → Turns c d ts
retotal {b = b} {c = c} {ts = ts} e f s = subst (λ k. Turns c k ts) f (subst (λ k. Turns k b ts) e s)

test_turns : (ts : List ℕ) → known ts ≡ true → Turns (turns_of 0 ts) (turns_of 1 ts) ts
test_turns [] e = done
test_turns (zero ∷ ts) e = retotal (omega arith) (omega arith) (first0 (test_turns ts e))
test_turns (suc zero ∷ ts) e = retotal (omega arith) (omega arith) (first1 (test_turns ts e))
test_turns (suc (suc t) ∷ ts) e =
    absurd (let z = leb-true (suc (suc t)) 1 (left (leb (suc (suc t)) 1) (known ts) e) in omega arith)

pub built : (a b : ℕ) (ts : List ℕ) → is_schedule a b ts ≡ true → Turns a b ts
built a b ts e =
    let k = left (known ts) _ e in
    let z = right (known ts) _ e in
    retotal (eqb-true _ a (left (eqb (turns_of 0 ts) a) _ z)) (eqb-true _ b (right (eqb (turns_of 0 ts) a) _ z)) (test_turns ts k)

pub is_schedule_lem : (a b : ℕ) (ts : List ℕ) → Turns a b ts → is_schedule a b ts ≡ true
is_schedule_lem a b ts s = let z = turns_test s in ap₂ ◌&&◌ z.0 (ap₂ ◌&&◌ (eq-eqb _ a z.1.0) (eq-eqb _ b z.1.1))

pub turns_length : {a b : ℕ} {ts : List ℕ} → Turns a b ts → length ts ≡ a + b
turns_length done = refl
turns_length (first0 s) = let z = turns_length s in omega arith
turns_length (first1 s) = let z = turns_length s in omega arith

-- one process alone
only1 : (b : ℕ) → Turns 0 b (replicate b 1)
only1 zero = done
only1 (suc b) = first1 (only1 b)

only0 : (a : ℕ) → Turns a 0 (replicate a 0)
only0 zero = done
only0 (suc a) = first0 (only0 a)

is_only1 : (b : ℕ) (ts : List ℕ) → Turns 0 b ts → ts ≡ replicate b 1
is_only1 zero [] done = refl
is_only1 zero (_ ∷ ts) s = elim s [ ]
is_only1 (suc b) [] s = elim s [ ]
is_only1 (suc b) (_ ∷ ts) (first1 s) = ap (1 ∷◌) (is_only1 b ts s)

is_only0 : (a : ℕ) (ts : List ℕ) → Turns a 0 ts → ts ≡ replicate a 0
is_only0 zero [] done = refl
is_only0 zero (_ ∷ ts) s = elim s [ ]
is_only0 (suc a) [] s = elim s [ ]
is_only0 (suc a) (_ ∷ ts) (first0 s) = ap (0 ∷◌) (is_only0 a ts s)

-- the schedule for a number is one, and has that number
pub schedule_built : (a b k : ℕ) → k < ways a b → Turns a b (schedule_for a b k)
unfolding schedule_for ways
schedule_built zero b k h = only1 b
schedule_built (suc a) zero k h = only0 (suc a)
schedule_built (suc a) (suc b) k h =
    let zeros = ways a (suc b) in
    by_test (Turns (suc a) (suc b)) (ltb k zeros) (λ e. first0 (schedule_built a (suc b) k (ltb-true k zeros e)))
    (λ e. let z = ltb-false k zeros e in first1 (schedule_built (suc a) b (k - zeros) (omega arith)))

pub number_schedule : (a b k : ℕ) → k < ways a b → number_for a b (schedule_for a b k) ≡ k
unfolding schedule_for number_for ways
number_schedule zero b k h = omega arith
number_schedule (suc a) zero k h = omega arith
number_schedule (suc a) (suc b) k h =
    let zeros = ways a (suc b) in
    by_test (λ ts. number_for (suc a) (suc b) ts ≡ k) (ltb k zeros) (λ e. number_schedule a (suc b) k (ltb-true k zeros e))
    (λ e. let z = ltb-false k zeros e in let y = number_schedule (suc a) b (k - zeros) (omega arith) in omega arith)

-- the number of a schedule is below the count, and leads back to it
pub number_below : (a b : ℕ) (ts : List ℕ) → Turns a b ts → number_for a b ts < ways a b
unfolding number_for ways
number_below zero b ts s = omega arith
number_below (suc a) zero ts s = omega arith
number_below (suc a) (suc b) [] s = elim s [ ]
number_below (suc a) (suc b) (_ ∷ ts) (first0 s) = let z = number_below a (suc b) ts s in omega arith
number_below (suc a) (suc b) (_ ∷ ts) (first1 s) = let z = number_below (suc a) b ts s in omega arith

pub schedule_number : (a b : ℕ) (ts : List ℕ) → Turns a b ts → schedule_for a b (number_for a b ts) ≡ ts
unfolding schedule_for number_for
schedule_number zero b ts s = sym (is_only1 b ts s)
schedule_number (suc a) zero ts s = sym (is_only0 (suc a) ts s)
schedule_number (suc a) (suc b) [] s = elim s [ ]
schedule_number (suc a) (suc b) (_ ∷ ts) (first0 s) =
    rw (lt-ltb (number_for a (suc b) ts) (ways a (suc b)) (number_below a (suc b) ts s))
    (ap (0 ∷◌) (schedule_number a (suc b) ts s))
schedule_number (suc a) (suc b) (_ ∷ ts) (first1 s) =
    let zeros = ways a (suc b) in
    let rest = number_for (suc a) b ts in
    let z : zeros + rest - zeros ≡ rest = omega arith in
    rw (le-ltb (zeros + rest) zeros (omega arith), z) (ap (1 ∷◌) (schedule_number (suc a) b ts s))

-- dictionary order is the order of the numbers
before_not : (ts : List ℕ) → before ts ts ≡ false
before_not [] = refl
before_not (t ∷ ts) = ap₂ (λ x y. x || (eqb t t && y)) (le-ltb t t (omega arith)) (before_not ts) ∙ neither (eqb t t)
  where
    neither : (x : Bool) → (false || (x && false)) ≡ false
    neither true = refl
    neither false = refl

ltb_add : (c x y : ℕ) → ltb x y ≡ ltb (c + x) (c + y)
ltb_add c x y = go (dec_lt x y)
  where
    go : Dec (x < y) → ltb x y ≡ ltb (c + x) (c + y)
    go (yes h) = lt-ltb x y h ∙ sym (lt-ltb (c + x) (c + y) (omega arith))
    go (no h) = le-ltb x y (omega arith) ∙ sym (le-ltb (c + x) (c + y) (omega arith))

pub in_order : (a b : ℕ) (ts us : List ℕ) → Turns a b ts → Turns a b us
    → before ts us ≡ ltb (number_for a b ts) (number_for a b us)
unfolding number_for
in_order zero b ts us s r = rw (is_only1 b ts s, is_only1 b us r) (before_not (replicate b 1))
in_order (suc a) zero ts us s r = rw (is_only0 (suc a) ts s, is_only0 (suc a) us r) (before_not (replicate (suc a) 0))
in_order (suc a) (suc b) [] us s r = elim s [ ]
in_order (suc a) (suc b) (_ ∷ ts) [] s r = elim r [ ]
in_order (suc a) (suc b) (_ ∷ ts) (_ ∷ us) (first0 s) (first0 r) = in_order a (suc b) ts us s r
in_order (suc a) (suc b) (_ ∷ ts) (_ ∷ us) (first0 s) (first1 r) =
    let z = number_below a (suc b) ts s in
    let y : number_for a (suc b) ts < ways a (suc b) + number_for (suc a) b us = omega arith in
    sym (lt-ltb _ _ y)
in_order (suc a) (suc b) (_ ∷ ts) (_ ∷ us) (first1 s) (first0 r) =
    let z = number_below a (suc b) us r in
    let y : number_for a (suc b) us ≤ ways a (suc b) + number_for (suc a) b ts = omega arith in
    sym (le-ltb _ _ y)
in_order (suc a) (suc b) (_ ∷ ts) (_ ∷ us) (first1 s) (first1 r) =
    in_order (suc a) b ts us s r ∙ ltb_add (ways a (suc b)) _ _
