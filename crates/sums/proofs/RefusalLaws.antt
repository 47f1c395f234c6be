-- Laws of rows 1, 2 and 9.
use Prim.Native.Nat.{ℕ, zero, suc, ◌≤◌, ◌<◌}
use mathlib.Core.Path.{◌≡◌, refl, sym, ap, subst, ◌∙◌}
use mathlib.Core.List.{List}
use mathlib.Core.Bool.{Bool, true, false, not, ◌&&◌, cond, true≢false}
use native.Mathlib.Omega.{arith}
use borrow.Author.Tests.{leb-true, ltb-true, ltb-false, lt-ltb}
use lib.Dec.{eqb, leb, ltb}
use lib.ListN.{length, take, get_or}
use Rattle.std.specs.Prelude.{◌↔◌}
use Rattle.std.specs.List.{AllPass}
use Rattle.std.proofs.lemmas.List.{get_or-take, length-take-le, get_or_default}
use Rattle.llsc.specs.declared.refusals.Refusal.{Refusal}
use Rattle.llsc.specs.declared.refusals.Refusal.TheVariants as refusal
use Rattle.llsc.specs.Refusals.{refusal_number}
use Rattle.answers.specs.declared.Sum.{Sum}
use Rattle.answers.specs.Gains.{no_sum}
use Rattle.answers.specs.Ranges.{Below, AllBelow}
use Rattle.sums.specs.declared.Sums.{Sums}
use Rattle.sums.specs.Season.{sum_limit, small_sum, all_small, sums_refusal}

pub and_true : (a b : Bool) → (a && b) ≡ true → (a ≡ true) × (b ≡ true)
and_true true b e = (refl, e)
and_true false b e = absurd (true≢false (sym e))

-- every refusal has a number
pub some_number : (r : Refusal) → eqb (refusal_number r) 0 ≡ false
some_number refusal.NOutOfRange = refl
some_number refusal.WOutOfRange = refl
some_number refusal.TooLittleLent = refl
some_number refusal.NoSuchProcess = refl
some_number refusal.StartAtBusy = refl
some_number refusal.StepAtIdle = refl
some_number refusal.NeverLinked = refl
some_number refusal.ValueNotWWords = refl
some_number refusal.NumberOutOfRange = refl
some_number refusal.TextBroken = refl
some_number refusal.TooDeep = refl
some_number refusal.TooMuch = refl
some_number refusal.NoRoom = refl
some_number refusal.NoSuchSuccess = refl
some_number refusal.TooManyCalls = refl
some_number refusal.AnswerNotAfterStart = refl
some_number refusal.NoListing = refl
some_number refusal.SeasonFull = refl
some_number refusal.TooManyTurns = refl
some_number refusal.NoSuchNumber = refl
some_number refusal.NotASchedule = refl
some_number refusal.ROutOfRange = refl
some_number refusal.NoSuchRecord = refl
some_number refusal.BadTrailer = refl
some_number refusal.BadRecord = refl
some_number refusal.ProcessInBoth = refl
some_number refusal.TooLittleRoom = refl

-- all processes
cond_true : (t u : Bool) → cond t u false ≡ true → (t ≡ true) × (u ≡ true)
cond_true true u e = (refl, e)
cond_true false u e = absurd (true≢false (sym e))

at_or_below : (q k : ℕ) (t : Bool) → ltb q k ≡ t → q < suc k → (P : ℕ → Type 0) → P k → (q < k → P q) → P q
at_or_below q k true e h P a f = f (ltb-true q k e)
at_or_below q k false e h P a f = subst P (omega (arith, ltb-false q k e)) a

all_from : (k : ℕ) (l : List Sum) → ((q : ℕ) → q < k → small_sum (get_or l q no_sum) ≡ true) → all_small k l ≡ true
unfolding all_small
all_from zero l h = refl
all_from (suc k) l h =
    ap (λ (t : Bool). cond t (all_small k l) false) (h k (omega arith)) ∙ all_from k l (λ q r. h q (omega arith))

each_small : (k : ℕ) (l : List Sum) → all_small k l ≡ true → (q : ℕ) → q < k → small_sum (get_or l q no_sum) ≡ true
unfolding all_small
each_small zero l e q h = absurd (omega arith)
each_small (suc k) l e q h =
    let a = cond_true (small_sum (get_or l k no_sum)) (all_small k l) e in
    at_or_below q k (ltb q k) refl h (λ x. small_sum (get_or l x no_sum) ≡ true) a.0 (λ r. each_small k l a.1 q r)

pub small_decided : (t : Bool) (k : ℕ) (l : List Sum) → k ≤ length l → (t ≡ true ↔ AllPass small_sum (take k l)) → t ≡ all_small k l
small_decided true k l h e =
    sym (all_from k l (λ q r. ap small_sum (sym (get_or-take k l q no_sum r)) ∙ e.0 refl q no_sum (omega (arith, length-take-le k l h))))
small_decided false k l h e = pick (all_small k l) refl
  where
    pick : (u : Bool) → all_small k l ≡ u → false ≡ u
    pick false q = refl
    pick true q = e.1 (λ i d r.
        let s : i < k = omega (arith, length-take-le k l h) in
        ap small_sum (get_or-take k l i d s ∙ get_or_default l i d no_sum (omega (arith, s))) ∙ each_small k l q i s)

-- what these rows leave
cond_zero : (t : Bool) (k x : ℕ) → (k ≡ 0 → ⊥) → cond (not t) k x ≡ 0 → (t ≡ true) × (x ≡ 0)
cond_zero true k x h e = (refl, e)
cond_zero false k x h e = absurd (h e)

pub record Passes (s : Sums) : Type 0 where
  pub few : s.n ≤ 16
  pub small : all_small s.n s.each ≡ true

pub passes : (s : Sums) → sums_refusal s ≡ 0 → Passes s
unfolding sums_refusal
passes s e =
    let a = cond_zero (leb 1 s.n && leb s.n 16) 1 _ (λ z. omega arith) e in
    let b = cond_zero (leb 1 s.w && leb s.w 64) 2 (cond (not (all_small s.n s.each)) 9 0) (λ z. omega arith) a.1 in
    record {
      few = leb-true s.n 16 (and_true (leb 1 s.n) (leb s.n 16) a.0).1;
      small = (cond_zero (all_small s.n s.each) 9 0 (λ z. omega arith) b.1).0;
    }

pub few_pass : (s : Sums) → sums_refusal s ≡ 0 → s.n ≤ 16
few_pass s e = (passes s e).few

-- small sums are below 2 to the 56th
small_one : (s : Sum) → small_sum s ≡ true → Below 72057594037927935 s
small_one s e =
    let a = and_true (ltb s.successes sum_limit) (ltb s.scs sum_limit && (ltb s.steps sum_limit && ltb s.lls sum_limit)) e in
    let b = and_true (ltb s.scs sum_limit) (ltb s.steps sum_limit && ltb s.lls sum_limit) a.1 in
    let d = and_true (ltb s.steps sum_limit) (ltb s.lls sum_limit) b.1 in
    record {
      successes = omega (arith, ltb-true s.successes sum_limit a.0);
      scs = omega (arith, ltb-true s.scs sum_limit b.0);
      steps = omega (arith, ltb-true s.steps sum_limit d.0);
      lls = omega (arith, ltb-true s.lls sum_limit d.1);
    }

pub small_below : (k : ℕ) (l : List Sum) → all_small k l ≡ true → AllBelow k 72057594037927935 l
unfolding all_small
small_below zero l e q h = absurd (omega arith)
small_below (suc k) l e q h =
    let a = cond_true (small_sum (get_or l k no_sum)) (all_small k l) e in
    at_or_below q k (ltb q k) refl h (λ x. Below 72057594037927935 (get_or l x no_sum)) (small_one (get_or l k no_sum) a.0)
    (λ r. small_below k l a.1 q r)

-- and the other way round
one_small : (b : ℕ) (s : Sum) → b < sum_limit → Below b s → small_sum s ≡ true
one_small b s h k =
    simp (
      lt-ltb s.successes sum_limit (omega (arith, k.successes)),
      lt-ltb s.scs sum_limit (omega (arith, k.scs)),
      lt-ltb s.steps sum_limit (omega (arith, k.steps)),
      lt-ltb s.lls sum_limit (omega (arith, k.lls)),
    )

pub below_small : (k b : ℕ) (l : List Sum) → b < sum_limit → AllBelow k b l → all_small k l ≡ true
unfolding all_small
below_small zero b l h f = refl
below_small (suc k) b l h f =
    ap (λ (t : Bool). cond t (all_small k l) false) (one_small b (get_or l k no_sum) h (f k (omega arith)))
    ∙ below_small k b l h (λ q r. f q (omega arith))
