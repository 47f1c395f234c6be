-- The two loops: the turns of a schedule written one after the other, and a list of turns counted through.
use mathlib.Core.Path.{◌≡◌, refl, sym, ap, ap₂, subst, ◌∙◌}
use Prim.Native.Nat.{ℕ, zero, suc, ◌+◌, ◌-◌, ◌^◌, ◌≤◌, ◌<◌}
use mathlib.Core.List.{List, [], ◌∷◌, ◌++◌}
use mathlib.Core.Bool.{Bool, false, ◌&&◌, cond}
use native.Mathlib.Omega.{arith}
use native.Mathlib.Nat.{zero-add, two-pow-succ, one-le-pow, pow-le-pow_right}
use lib.Dec.{eqb}
use lib.ListN.{length, get_or, set, drop, replicate, drop_of_length-le}
use lib.Seq.{sets, sets-eq, drop-cons}
use borrow.Author.Tests.{eq-eqb, ne_eqb}
use Rattle.std.specs.Prelude.{Option, Some, None}
use Rattle.ways.specs.Ways.{ways}
use Rattle.enumeration_model.specs.Schedules.{is_schedule, schedule_for, number_for}
use Rattle.enumeration.specs.Replies.{padded}
use Rattle.enumeration.specs.Turns.{Choice, Taking, chosen, taken, placed}
use Rattle.enumeration.proofs.ScheduleFacts.{turns_length, schedule_built}
use Rattle.enumeration.proofs.TurnLaws.{ways_edge, Begins, begins, Fits, Takes, takes}

-- a number fits in 64 bits
few_ways : (a b : ℕ) → ways a (suc b) ≤ 2 ^ (a + b)
unfolding ways
few_ways zero b = one-le-pow (0 + b) 2 (omega arith)
few_ways (suc a) zero =
    let e : suc a + 0 ≡ suc (a + 0) = omega arith in
    rw e (omega (arith, few_ways a zero, two-pow-succ (a + 0), one-le-pow (a + 0) 2 (omega arith)))
few_ways (suc a) (suc b) =
    let e : suc a + suc b ≡ suc (a + suc b) = omega arith in
    let f : suc a + b ≡ a + suc b = omega arith in
    let z : ways (suc a) (suc b) ≤ 2 ^ (a + suc b) = rw (sym f) (few_ways (suc a) b) in
    rw e (omega (arith, few_ways a (suc b), z, two-pow-succ (a + suc b)))

pub ways_fit : (a b : ℕ) → a ≤ 32 → b ≤ 32 → ways a b < 18446744073709551616
ways_fit a zero ha hb = omega (arith, ways_edge a)
ways_fit a (suc b) ha hb =
    let h : a + b ≤ 63 = omega arith in
    let z : 2 ^ (a + b) ≤ 9223372036854775808 = pow-le-pow_right {n = 2} (omega arith) h in
    omega (arith, few_ways a b)

-- The turns from place i on are those of schedule k with x and y turns to take.
pub record Filling (a b number : ℕ) (turns : List ℕ) (i x y k : ℕ) : Type 0 where
  pub rest : sets turns i (schedule_for x y k) ≡ padded (schedule_for a b number)
  pub below : k < ways x y
  pub less_a : x ≤ 32
  pub less_b : y ≤ 32
  pub left : i + (x + y) ≡ a + b

zeros : ℕ → List ℕ
zeros n = replicate n 0

drop_zeros : (n k : ℕ) → drop k (zeros n) ≡ zeros (n - k)
unfolding zeros
drop_zeros zero zero = refl
drop_zeros zero (suc k) = ap zeros (let z : 0 ≡ 0 - suc k = omega arith in z)
drop_zeros (suc n) zero = ap zeros (let z : suc n ≡ suc n - 0 = omega arith in z)
drop_zeros (suc n) (suc k) = drop_zeros n k ∙ ap zeros (let z : n - k ≡ suc n - suc k = omega arith in z)

pub fill_begins : (a b number : ℕ) → a ≤ 32 → b ≤ 32 → number < ways a b → Filling a b number (replicate 64 0) 0 a b number
unfolding zeros
fill_begins a b number ha hb h =
    let ts = schedule_for a b number in
    let long = turns_length (schedule_built a b number h) in
    record {
      rest = sets-eq ts (zeros 64) 0 (omega arith) ∙ ap (ts ++◌) (ap (λ j. drop j (zeros 64)) (zero-add (length ts)) ∙ drop_zeros 64 (length ts));
      below = h;
      less_a = ha;
      less_b = hb;
      left = omega arith;
    }

module _ (a b number : ℕ) (turns : List ℕ) (i x y k : ℕ) (v : Filling a b number turns i x y k) where
  pub fill_goes_on : 0 < x + y → (r : Choice) → r ≡ chosen x y k
      → Filling a b number (set turns i r.turn) (i + 1) r.a r.b r.number
  fill_goes_on some r e =
      let z = begins x y k some v.below in
      let s : Begins x y k r = rw e z in
      let next : i + 1 ≡ suc i = omega arith in
      let x1 = s.one_less in
      let x2 = s.less_a in
      let x3 = s.less_b in
      let x4 = v.left in
      let x5 = v.less_a in
      let x6 = v.less_b in
      record {
        rest = ap (λ j. sets (set turns i r.turn) j (schedule_for r.a r.b r.number)) next ∙ sym (ap (sets turns i) s.begins) ∙ v.rest;
        below = s.below;
        less_a = omega arith;
        less_b = omega arith;
        left = omega arith;
      }

  none : (k : ℕ) → schedule_for 0 0 k ≡ []
  unfolding schedule_for
  none k = refl

  pub fill_ends : x + y ≡ 0 → turns ≡ padded (schedule_for a b number)
  fill_ends e =
      let ex : x ≡ 0 = omega arith in
      let ey : y ≡ 0 = omega arith in
      sym (ap (sets turns i) (ap₂ (λ m n. schedule_for m n k) ex ey ∙ none k)) ∙ v.rest

-- The turns from place i on are a schedule of x and y turns exactly where all are one of a and b, and k more schedules
-- come before it.
pub record Counting (a b : ℕ) (turns : List ℕ) (i x y k : ℕ) : Type 0 where
  pub low : i ≤ length turns
  pub less_a : x ≤ 32
  pub less_b : y ≤ 32
  pub below : k + ways x y ≤ ways a b
  pub test : is_schedule x y (drop i turns) ≡ is_schedule a b turns
  pub number : k + number_for x y (drop i turns) ≡ number_for a b turns

pub count_begins : (a b : ℕ) (turns : List ℕ) → a ≤ 32 → b ≤ 32 → Counting a b turns 0 a b 0
count_begins a b turns ha hb =
    record { low = omega arith; less_a = ha; less_b = hb; below = omega arith; test = refl; number = omega arith }

module _ (a b : ℕ) (turns : List ℕ) (i x y k : ℕ) (v : Counting a b turns i x y k) where
  abbrev verdict : Bool → Option ℕ
  verdict t = cond t (Some (number_for a b turns)) None

  no_schedule_is : is_schedule a b turns ≡ false → None ≡ placed a b turns
  no_schedule_is e = sym (ap verdict e)

  module _ (h : i < length turns) where
    abbrev rest : List ℕ
    rest = drop (suc i) turns

    begun : drop i turns ≡ get_or turns i 0 ∷ rest
    begun = drop-cons turns i 0 h

    next : suc i ≡ i + 1
    next = omega arith

    module _ (r : Taking) (e : Some r ≡ taken x y (get_or turns i 0)) where
      one : Fits x y (get_or turns i 0) r
      one = subst (Takes x y (get_or turns i 0)) (sym e) (takes x y (get_or turns i 0))

      pub count_fits : k + r.skipped ≤ ways a b
      count_fits = omega (arith, one.below, v.below)

      pub count_goes_on : Counting a b turns (i + 1) r.a r.b (k + r.skipped)
      count_goes_on =
          let x1 = one.below in
          let x2 = v.below in
          let x3 = one.less_a in
          let x4 = one.less_b in
          let x5 = v.less_a in
          let x6 = v.less_b in
          let n1 = one.number rest in
          let n2 = v.number in
          let n3 = ap (number_for x y) begun in
          let n4 = ap (λ j. number_for r.a r.b (drop j turns)) next in
          record {
            low = omega arith;
            less_a = omega arith;
            less_b = omega arith;
            below = omega arith;
            test = ap (λ j. is_schedule r.a r.b (drop j turns)) (sym next) ∙ sym (ap (is_schedule x y) begun ∙ one.fits rest) ∙ v.test;
            number = omega arith;
          }

    pub count_stops : None ≡ taken x y (get_or turns i 0) → None ≡ placed a b turns
    count_stops e =
        let none : Takes x y (get_or turns i 0) None = subst (Takes x y (get_or turns i 0)) (sym e) (takes x y (get_or turns i 0)) in
        no_schedule_is (sym v.test ∙ ap (is_schedule x y) begun ∙ none rest)

  module _ (h : length turns ≤ i) where
    over : drop i turns ≡ []
    over = drop_of_length-le turns {i = i} h

    pub count_short : 0 < x + y → None ≡ placed a b turns
    count_short p = no_schedule_is (sym v.test ∙ ap (is_schedule x y) over ∙ some_left x y p)
      where
        some_left : (x y : ℕ) → 0 < x + y → (eqb 0 x && eqb 0 y) ≡ false
        some_left zero zero p = absurd (omega arith)
        some_left zero (suc y) p = ne_eqb 0 (suc y) (λ z. omega arith)
        some_left (suc x) y p = ap (λ t. t && eqb 0 y) (ne_eqb 0 (suc x) (λ z. omega arith))

    none_left : (x y : ℕ) (ts : List ℕ) → x + y ≡ 0 → number_for x y ts ≡ 0
    unfolding number_for
    none_left zero y ts p = refl
    none_left (suc x) y ts p = absurd (omega arith)

    pub count_ends : x + y ≡ 0 → Some k ≡ placed a b turns
    count_ends p =
        let z : k ≡ number_for a b turns = omega (arith, v.number, none_left x y (drop i turns) p) in
        ap Some z
        ∙ sym (ap verdict (sym v.test ∙ ap (is_schedule x y) over ∙ ap₂ ◌&&◌ (eq-eqb 0 x (omega arith)) (eq-eqb 0 y (omega arith))))
