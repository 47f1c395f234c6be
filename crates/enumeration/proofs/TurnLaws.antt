-- The code's way through a schedule: one turn chosen for a number, one turn taken from a list.
use mathlib.Core.Path.{◌≡◌, refl, sym, ap, ap₂, ◌∙◌}
use Prim.Native.Nat.{ℕ, zero, suc, ◌+◌, ◌-◌, ◌≤◌, ◌<◌}
use mathlib.Core.List.{List, ◌∷◌}
use mathlib.Core.Bool.{Bool, true, false, ◌&&◌}
use native.Mathlib.Omega.{arith}
use native.Mathlib.Decide.{ℕ_discrete}
use lib.Dec.{eqb, ltb, leb}
use lib.ListN.{replicate}
use borrow.Author.Tests.{eq-eqb, ne_eqb, ltb-true, ltb-false, lt-ltb, le-ltb, lt-leb}
use Rattle.std.specs.Prelude.{Option, Some, None}
use Rattle.llsc.specs.Rows.{every}
use Rattle.laws.proofs.Updates.{by_test}
use Rattle.ways.specs.Ways.{ways}
use Rattle.enumeration_model.specs.Schedules.{turns_of, is_schedule, schedule_for, number_for}
use Rattle.enumeration.specs.Turns.{Choice, Taking, zero_first, chosen, taken}

-- at an edge there is one way, and its number is 0
ways_0 : (b : ℕ) → ways 0 b ≡ 1
unfolding ways
ways_0 b = refl

pub ways_edge : (a : ℕ) → ways a 0 ≡ 1
unfolding ways
ways_edge zero = refl
ways_edge (suc a) = refl

ways_sum : (a b : ℕ) → ways (suc a) (suc b) ≡ ways a (suc b) + ways (suc a) b
unfolding ways
ways_sum a b = refl

-- The turn chosen for number k, and what is left.
pub record Begins (a b k : ℕ) (r : Choice) : Type 0 where
  pub begins : schedule_for a b k ≡ r.turn ∷ schedule_for r.a r.b r.number
  pub below : r.number < ways r.a r.b
  pub less_a : r.a ≤ a
  pub less_b : r.b ≤ b
  pub one_less : r.a + r.b + 1 ≡ a + b

only_zeros : (a k : ℕ) → schedule_for a 0 k ≡ replicate a 0
unfolding schedule_for
only_zeros zero k = refl
only_zeros (suc a) k = refl

only_ones : (b k : ℕ) → schedule_for 0 b k ≡ replicate b 1
unfolding schedule_for
only_ones b k = refl

low : (a b k : ℕ) → k < ways a (suc b) → schedule_for (suc a) (suc b) k ≡ 0 ∷ schedule_for a (suc b) k
unfolding schedule_for
low a b k h = rw (lt-ltb k (ways a (suc b)) h)

high : (a b k : ℕ) → ways a (suc b) ≤ k → schedule_for (suc a) (suc b) k ≡ 1 ∷ schedule_for (suc a) b (k - ways a (suc b))
unfolding schedule_for
high a b k h = rw (le-ltb k (ways a (suc b)) h)

pred : (a : ℕ) → suc a - 1 ≡ a
pred a = omega arith

some : (a : ℕ) → eqb (suc a) 0 ≡ false
some a = ne_eqb (suc a) 0 (λ z. omega arith)

no_zero_first : (b : ℕ) → zero_first 0 b ≡ 0
unfolding zero_first
no_zero_first b = refl

zero_first_lem : (a b : ℕ) → zero_first (suc a) b ≡ ways a b
unfolding zero_first
zero_first_lem a b = rw (some a, pred a)

pub begins : (a b k : ℕ) → 0 < a + b → k < ways a b → Begins a b k (chosen a b k)
unfolding chosen
begins zero zero k p h = absurd (omega arith)
begins zero (suc b) k p h =
    let whole : k - 0 ≡ k = omega arith in
    rw (no_zero_first (suc b), le-ltb k 0 (omega arith), pred b, whole)
    (record {
      begins = only_ones (suc b) k ∙ ap (1 ∷◌) (sym (only_ones b k));
      below = omega (arith, ways_0 b, ways_0 (suc b));
      less_a = omega arith;
      less_b = omega arith;
      one_less = omega arith;
    })
begins (suc a) zero k p h =
    let e = ways_edge a in
    let f = ways_edge (suc a) in
    rw (zero_first_lem a 0, lt-ltb k (ways a 0) (omega arith), pred a)
    (record {
      begins = only_zeros (suc a) k ∙ ap (0 ∷◌) (sym (only_zeros a k));
      below = omega arith;
      less_a = omega arith;
      less_b = omega arith;
      one_less = omega arith;
    })
begins (suc a) (suc b) k p h =
    let zeros = ways a (suc b) in
    let e = ways_sum a b in
    rw (zero_first_lem a (suc b), pred a, pred b)
    (by_test (Begins (suc a) (suc b) k) (ltb k zeros)
    (λ t.
    let z = ltb-true k zeros t in
    record { begins = low a b k z; below = z; less_a = omega arith; less_b = omega arith; one_less = omega arith })
    (λ t.
    let z = ltb-false k zeros t in
    record { begins = high a b k z; below = omega arith; less_a = omega arith; less_b = omega arith; one_less = omega arith }))

-- a turn is there to be chosen
pub zero_there : (a b zeros : ℕ) → zeros ≡ zero_first a b → 0 < zeros → 1 ≤ a
zero_there zero b zeros z h = absurd (omega (arith, no_zero_first b))
zero_there (suc a) b zeros z h = omega arith

pub one_there : (a b k zeros : ℕ) → zeros ≡ zero_first a b → zeros ≤ k → 0 < a + b → k < ways a b → 1 ≤ b
one_there zero zero k zeros z l p h = absurd (omega arith)
one_there (suc a) zero k zeros z l p h = absurd (omega (arith, zero_first_lem a 0, ways_edge a, ways_edge (suc a)))
one_there a (suc b) k zeros z l p h = omega arith

-- The turn t taken from a list, or one with which no schedule begins.
pub record Fits (a b t : ℕ) (r : Taking) : Type 0 where
  pub fits : (ts : List ℕ) → is_schedule a b (t ∷ ts) ≡ is_schedule r.a r.b ts
  pub number : (ts : List ℕ) → number_for a b (t ∷ ts) ≡ r.skipped + number_for r.a r.b ts
  pub below : r.skipped + ways r.a r.b ≤ ways a b
  pub less_a : r.a ≤ a
  pub less_b : r.b ≤ b

abbrev pub Takes : ℕ → ℕ → ℕ → Option Taking → Type 0
Takes a b t (Some r) = Fits a b t r
Takes a b t None = (ts : List ℕ) → is_schedule a b (t ∷ ts) ≡ false

-- a schedule's test, without its first turn
eqb_suc : (x y : ℕ) → eqb (1 + x) (suc y) ≡ eqb x y
eqb_suc x y = go (ℕ_discrete x y)
  where
    go : Dec (x ≡ y) → eqb (1 + x) (suc y) ≡ eqb x y
    go (yes e) = eq-eqb (1 + x) (suc y) (omega arith) ∙ sym (eq-eqb x y e)
    go (no e) = ne_eqb (1 + x) (suc y) (λ z. e (omega arith)) ∙ sym (ne_eqb x y e)

eqb_same : (x y : ℕ) → eqb (0 + x) y ≡ eqb x y
eqb_same x y = ap (λ k. eqb k y) (let z : 0 + x ≡ x = omega arith in z)

abbrev known : List ℕ → Bool
known ts = every (λ t. leb t 1) ts

test_0 : (a b : ℕ) (ts : List ℕ) → is_schedule (suc a) b (0 ∷ ts) ≡ is_schedule a b ts
test_0 a b ts = ap₂ (λ x y. known ts && (x && y)) (eqb_suc (turns_of 0 ts) a) (eqb_same (turns_of 1 ts) b)

test_1 : (a b : ℕ) (ts : List ℕ) → is_schedule a (suc b) (1 ∷ ts) ≡ is_schedule a b ts
test_1 a b ts = ap₂ (λ x y. known ts && (x && y)) (eqb_same (turns_of 0 ts) a) (eqb_suc (turns_of 1 ts) b)

and_false : (x : Bool) → x && false ≡ false
and_false true = refl
and_false false = refl

none_0 : (b : ℕ) (ts : List ℕ) → is_schedule 0 b (0 ∷ ts) ≡ false
none_0 b ts =
    ap (λ x. known ts && (x && eqb (0 + turns_of 1 ts) b)) (ne_eqb (1 + turns_of 0 ts) 0 (λ z. omega arith))
    ∙ and_false (known ts)

none_1 : (a : ℕ) (ts : List ℕ) → is_schedule a 0 (1 ∷ ts) ≡ false
none_1 a ts =
    ap (λ x. known ts && (eqb (0 + turns_of 0 ts) a && x)) (ne_eqb (1 + turns_of 1 ts) 0 (λ z. omega arith))
    ∙ ap (known ts &&◌) (and_false (eqb (0 + turns_of 0 ts) a)) ∙ and_false (known ts)

none_2 : (a b t : ℕ) (ts : List ℕ) → is_schedule a b (suc (suc t) ∷ ts) ≡ false
none_2 a b t ts =
    let third = suc (suc t) ∷ ts in
    ap (λ x. (x && known ts) && (eqb (turns_of 0 third) a && eqb (turns_of 1 third) b)) (lt-leb (suc (suc t)) 1 (omega arith))

ways_less : (a b : ℕ) → ways a b ≤ ways (suc a) b
unfolding ways
ways_less zero zero = omega arith
ways_less (suc a) zero = omega arith
ways_less zero (suc b) = omega arith
ways_less (suc a) (suc b) = omega arith

number_edge : (a : ℕ) (ts : List ℕ) → number_for a 0 ts ≡ 0
unfolding number_for
number_edge zero ts = refl
number_edge (suc a) ts = refl

number_0 : (a b : ℕ) (ts : List ℕ) → number_for (suc a) b (0 ∷ ts) ≡ 0 + number_for a b ts
unfolding number_for
number_0 a zero ts = omega (arith, number_edge a ts)
number_0 a (suc b) ts = omega arith

number_1 : (a b : ℕ) (ts : List ℕ) → number_for a (suc b) (1 ∷ ts) ≡ zero_first a (suc b) + number_for a b ts
unfolding number_for
number_1 zero b ts = omega (arith, no_zero_first (suc b))
number_1 (suc a) b ts = rw (zero_first_lem a (suc b))

skipped_1 : (a b : ℕ) → zero_first a (suc b) + ways a b ≤ ways a (suc b)
skipped_1 zero b = omega (arith, no_zero_first (suc b), ways_0 b, ways_0 (suc b))
skipped_1 (suc a) b = omega (arith, zero_first_lem a (suc b), ways_sum a b)

pub takes : (a b t : ℕ) → Takes a b t (taken a b t)
unfolding taken
takes zero b zero = none_0 b
takes (suc a) b zero =
    rw (some a, pred a)
    (record {
      fits = test_0 a b;
      number = number_0 a b;
      below = omega (arith, ways_less a b);
      less_a = omega arith;
      less_b = omega arith;
    })
takes a zero (suc zero) = none_1 a
takes a (suc b) (suc zero) =
    rw (some b, pred b)
    (record {
      fits = test_1 a b;
      number = number_1 a b;
      below = skipped_1 a b;
      less_a = omega arith;
      less_b = omega arith;
    })
takes a b (suc (suc t)) =
    let third = suc (suc t) in
    rw (ne_eqb third 0 (λ z. omega arith), ne_eqb third 1 (λ z. omega arith)) (none_2 a b t)
