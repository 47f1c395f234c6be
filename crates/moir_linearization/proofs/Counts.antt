-- Counts by point; what every answer brings; a busy count is at most 6W + 1, an idle one 0.
use mathlib.Core.Path.{◌≡◌, refl}
use mathlib.Core.List.{List}
use mathlib.Core.Logic.{inl, inr}
use Prim.Native.Nat.{ℕ, suc, ◌+◌, ◌*◌, ◌≤◌, ◌<◌}
use native.Mathlib.Omega.{arith}
use lib.Dec.{ltb, eqb}
use borrow.Author.Tests.{ltb-false}
use Rattle.llsc.specs.Linearizable.{All}
use Rattle.laws.proofs.Updates.{upd, upd_same, upd_other, Split, same, other, split, by_test}
use Rattle.moir_model.specs.Points.{Point, idle, ll10, ll2, ll4, ll5, ll6, ll7, sc14, sc17, sc19, sc2, sc4, sc5, sc6, sc7, vl13}
use Rattle.moir_linearization.proofs.GhostMachine.{Local, Shared, State, noisy, prev, eq_pair, step, step_at}
use Rattle.moir_model.specs.Sizes.{wll_most, sc_most, busy_most}
use Rattle.moir_linearization.specs.Linearizable.{Served, Copies, EndedAt, OwnSteps}
use Rattle.moir_linearization.proofs.GhostHistories.{answer_at}
use Rattle.moir_linearization.proofs.Numbers.{ProcessNumbers, Numbers}

-- at word k, with the count c
abbrev pub CountAt : ℕ → Point → ℕ → ℕ → Type 0
CountAt W idle k c = c ≡ 0
CountAt W ll10 k c = c ≡ 0
CountAt W ll2 k c = Copies (1 + 2 * k) k c
CountAt W ll4 k c = Copies (2 + 2 * k) k c
CountAt W ll5 k c = Copies (3 + 2 * k) k c
CountAt W ll6 k c = Copies (4 + 2 * k) k c
CountAt W ll7 k c = Copies (2 + 2 * k) (suc k) c
CountAt W sc14 k c = c ≡ 0
CountAt W sc17 k c = c ≡ 1 + k
CountAt W sc19 k c = c ≡ W + 1
CountAt W sc2 k c = Copies (W + 2 + 2 * k) k c
CountAt W sc4 k c = Copies (W + 3 + 2 * k) k c
CountAt W sc5 k c = Copies (W + 4 + 2 * k) k c
CountAt W sc6 k c = Copies (W + 5 + 2 * k) k c
CountAt W sc7 k c = Copies (W + 3 + 2 * k) (suc k) c
CountAt W vl13 k c = c ≡ 0

-- the largest count of the kind of call in which y stands
abbrev pub most_at : ℕ → Point → ℕ
most_at W idle = 1
most_at W ll10 = wll_most W
most_at W ll2 = wll_most W
most_at W ll4 = wll_most W
most_at W ll5 = wll_most W
most_at W ll6 = wll_most W
most_at W ll7 = wll_most W
most_at W sc14 = sc_most W
most_at W sc17 = sc_most W
most_at W sc19 = sc_most W
most_at W sc2 = sc_most W
most_at W sc4 = sc_most W
most_at W sc5 = sc_most W
most_at W sc6 = sc_most W
most_at W sc7 = sc_most W
most_at W vl13 = 1

-- row 9's limit
pub most_low : (W : ℕ) (y : Point) → most_at W y ≤ suc (busy_most W)
most_low W idle = omega arith
most_low W ll10 = omega arith
most_low W ll2 = omega arith
most_low W ll4 = omega arith
most_low W ll5 = omega arith
most_low W ll6 = omega arith
most_low W ll7 = omega arith
most_low W sc14 = omega arith
most_low W sc17 = omega arith
most_low W sc19 = omega arith
most_low W sc2 = omega arith
most_low W sc4 = omega arith
most_low W sc5 = omega arith
most_low W sc6 = omega arith
most_low W sc7 = omega arith
most_low W vl13 = omega arith

abbrev pub Counts : ℕ → State → Type 0
Counts W s = (q : ℕ) → CountAt W (s.loc q).point (s.loc q).word (s.loc q).count

-- a step more, or a copy
next : {b b' m m' c : ℕ} → b' ≡ suc b → m ≤ m' → Copies b m c → Copies b' m' (c + 1)
next e h x = record { copies = x.copies; few = let z = x.few in omega arith; steps_are = let z = x.steps_are in omega arith }

copied : {b b' m m' c : ℕ} → b' + 3 ≡ suc b → suc m ≤ m' → Copies b m c → Copies b' m' (c + 1)
copied e h x = record { copies = suc x.copies; few = let z = x.few in omega arith; steps_are = let z = x.steps_are in omega arith }

module _ (M W n : ℕ) (h_w : 0 < W) (s : State) (p : ℕ) (i : Counts W s) where
  abbrev l : Local
  l = s.loc p

  abbrev h : Shared
  h = s.sh

  abbrev k : ℕ
  k = l.word

  pub q! : (h' : Shared) (c : Local) → CountAt W c.point c.word c.count → Counts W (noisy s p h' c)
  q! h' c me q = go (split q p)
    where
      go : Split q p → CountAt W (upd s.loc p c q).point (upd s.loc p c q).word (upd s.loc p c q).count
      go (same e) = rw e (rw (upd_same s.loc p c) me)
      go (other ne) = rw (upd_other s.loc p q c ne) (i q)

  counts_at : (y : Point) → ProcessNumbers M W n y h p l → CountAt W y k l.count → Counts W (step_at M W y n p s)
  unfolding step_at
  counts_at idle a x = i
  counts_at ll10 a x = q! h _ (record { copies = 0; few = omega arith; steps_are = let z = a.no_run in omega arith })
  counts_at ll2 a x = by_test (Counts W) (eqb (h.seg_tag k) (prev M l.x_tag))
      (λ _. q! h _ (next (omega arith) (omega arith) x)) (λ _. q! h _ (next (omega arith) (omega arith) x))
  counts_at ll4 a x = q! h _ (next (omega arith) (omega arith) x)
  counts_at ll5 a x = by_test (Counts W) (eq_pair (h.seg_tag k) (h.seg_val k) l.y_tag l.y_val)
      (λ _. q! h _ (next (omega arith) (omega arith) x)) (λ _. q! h _ (next (omega arith) (omega arith) x))
  counts_at ll6 a x = q! h _ (copied (omega arith) (omega arith) x)
  counts_at ll7 a x =
      by_test (Counts W) (eq_pair h.tag h.pid l.x_tag l.x_pid)
      (λ _. by_test (Counts W) (ltb (suc k) W) (λ _. q! h _ (next (omega arith) (omega arith) x)) (λ _. q! h _ refl)) (λ _. q! h _ refl)
  counts_at sc14 a x = by_test (Counts W) (eqb h.tag l.keep) (λ _. q! h _ (let z = a.no_run in omega arith)) (λ _. q! h _ refl)
  counts_at sc17 a x = by_test (Counts W) (ltb (suc k) W) (λ _. q! h _ (omega arith))
      (λ e. q! h _ (let z = ltb-false (suc k) W e in let y = a.in_17 in omega arith))
  counts_at sc19 a x =
      by_test (Counts W) (eq_pair h.tag h.pid l.old_tag l.old_pid)
      (λ _. q! h _ (record { copies = 0; few = omega arith; steps_are = let z = a.no_run_19 in omega arith })) (λ _. q! h _ refl)
  counts_at sc2 a x = by_test (Counts W) (eqb (h.seg_tag k) (prev M l.new_tag))
      (λ _. q! h _ (next (omega arith) (omega arith) x)) (λ _. q! h _ (next (omega arith) (omega arith) x))
  counts_at sc4 a x = q! h _ (next (omega arith) (omega arith) x)
  counts_at sc5 a x = by_test (Counts W) (eq_pair (h.seg_tag k) (h.seg_val k) l.y_tag l.y_val)
      (λ _. q! h _ (next (omega arith) (omega arith) x)) (λ _. q! h _ (next (omega arith) (omega arith) x))
  counts_at sc6 a x = q! h _ (copied (omega arith) (omega arith) x)
  counts_at sc7 a x =
      by_test (Counts W) (eq_pair h.tag h.pid l.new_tag l.new_pid)
      (λ _. by_test (Counts W) (ltb (suc k) W) (λ _. q! h _ (next (omega arith) (omega arith) x)) (λ _. q! h _ refl)) (λ _. q! h _ refl)
  counts_at vl13 a x = q! h _ refl

  pub step_counts : Numbers M W n s → Counts W (step M W n p s)
  unfolding step
  step_counts a = counts_at l.point (a.each p) (i p)

  -- the answer of a step brings the count and one more
  abbrev Brings : List Served → Type 0
  Brings xs = All (λ (x : Served). OwnSteps W x.answer (l.count + 1)) xs

  -- Copy left at word k
  left : (b : ℕ) → k < W → Copies (b + 1 + 2 * k) (suc k) l.count → EndedAt W b (l.count + 1)
  left b h x = record { begun = suc k; one = omega arith; within = h; copied = next (omega arith) (omega arith) x }

  brings_at : (y : Point) → ProcessNumbers M W n y h p l → CountAt W y k l.count → Brings (answer_at W y n p s)
  brings_at idle a x = tt
  brings_at ll10 a x = tt
  brings_at ll2 a x = tt
  brings_at ll4 a x = tt
  brings_at ll5 a x = tt
  brings_at ll6 a x = tt
  brings_at ll7 a x =
      by_test Brings (eq_pair h.tag h.pid l.x_tag l.x_pid)
      (λ _. by_test Brings (ltb (suc k) W) (λ _. tt)
      (λ e. (next (let z = ltb-false (suc k) W e in let y = a.in_ll in omega arith) a.in_ll x, tt)))
      (λ _. (left 1 a.in_ll x, tt))
  brings_at sc14 a x = by_test Brings (eqb h.tag l.keep) (λ _. tt) (λ _. (inl (let z : l.count + 1 ≡ 1 = omega arith in z), tt))
  brings_at sc17 a x = tt
  brings_at sc19 a x = by_test Brings (eq_pair h.tag h.pid l.old_tag l.old_pid) (λ _. tt)
      (λ _. (inr (let z : l.count + 1 ≡ W + 2 = omega arith in z), tt))
  brings_at sc2 a x = tt
  brings_at sc4 a x = tt
  brings_at sc5 a x = tt
  brings_at sc6 a x = tt
  brings_at sc7 a x =
      let z : EndedAt W (W + 2) (l.count + 1) = left (W + 2) a.in_copy
      (record { copies = x.copies; few = x.few; steps_are = let z = x.steps_are in omega arith }) in
      by_test Brings (eq_pair h.tag h.pid l.new_tag l.new_pid) (λ _. by_test Brings (ltb (suc k) W) (λ _. tt) (λ _. (z, tt))) (λ _. (z, tt))
  brings_at vl13 a x = ((let z : l.count + 1 ≡ 1 = omega arith in z), tt)

  -- every count is below its kind's largest
  pub low_at : (y : Point) → ProcessNumbers M W n y h p l → CountAt W y k l.count → l.count < most_at W y
  low_at idle a x = omega arith
  low_at ll10 a x = omega arith
  low_at ll2 a x = let f = x.few in let e = x.steps_are in let y = a.in_ll in omega arith
  low_at ll4 a x = let f = x.few in let e = x.steps_are in let y = a.in_ll in omega arith
  low_at ll5 a x = let f = x.few in let e = x.steps_are in let y = a.in_ll in omega arith
  low_at ll6 a x = let f = x.few in let e = x.steps_are in let y = a.in_ll in omega arith
  low_at ll7 a x = let f = x.few in let e = x.steps_are in let y = a.in_ll in omega arith
  low_at sc14 a x = omega arith
  low_at sc17 a x = let y = a.in_17 in omega arith
  low_at sc19 a x = omega arith
  low_at sc2 a x = let f = x.few in let e = x.steps_are in let y = a.in_copy in omega arith
  low_at sc4 a x = let f = x.few in let e = x.steps_are in let y = a.in_copy in omega arith
  low_at sc5 a x = let f = x.few in let e = x.steps_are in let y = a.in_copy in omega arith
  low_at sc6 a x = let f = x.few in let e = x.steps_are in let y = a.in_copy in omega arith
  low_at sc7 a x = let f = x.few in let e = x.steps_are in let y = a.in_copy in omega arith
  low_at vl13 a x = omega arith

  pub count_below : Numbers M W n s → l.count < most_at W l.point
  count_below a = low_at l.point (a.each p) (i p)

  pub step_brings : Numbers M W n s → Brings (answer_at W l.point n p s)
  step_brings a = brings_at l.point (a.each p) (i p)
