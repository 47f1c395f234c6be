-- The count of own steps, point by point, at every command; and what it says at an answer and of an open call.
use mathlib.Core.Path.{◌≡◌, refl}
use mathlib.Core.Logic.{◌⊎◌, inl, inr}
use mathlib.Core.Bool.{Bool, true, false, cond}
use mathlib.Core.List.{List}
use Prim.Native.Nat.{ℕ, suc, ◌+◌, ◌*◌, ◌%◌, ◌≤◌, ◌<◌}
use native.Mathlib.Omega.{arith}
use lib.Dec.{ltb, eqb, lit≤}
use borrow.Author.Tests.{ltb-false}
use Rattle.linearization.proofs.PointFacts.{moving}
use Rattle.laws.proofs.Updates.{upd, upd_same, upd_other, Split, same, other, split, by_test, contra}
use Rattle.linearization.proofs.GhostMachine.{Local, Shared, State, quiet, noisy, word, step, step_at, set_link_help, set_link_bank, set_link_x, set_returned}
use Rattle.model.specs.Sizes.{halves, busy_most}
use Rattle.model.specs.Points.{Point, idle, line1, line2, line3, line4, line5, line6, line7, line7copy, line8, line9}
use Rattle.model.specs.Points.{line10, line11, line12, line12valid, line13, line14, line14valid, line15, line17, line18}
use Rattle.model.specs.Points.{line19, line23}
use Rattle.llsc.specs.Object.{Kind, ll, sc, vl}
use Rattle.model.specs.Linearizable.{OwnSteps, largest}
use Rattle.laws.proofs.Claimed.{On, on_map}
use Rattle.linearization.proofs.Invariants.{ProcessClauses, Invariant, lines, still, apart}
use Rattle.linearization.proofs.GhostRuns.{Cmd, exec, setup}
use Rattle.linearization.proofs.InvariantRuns
use Rattle.linearization.proofs.InvariantRuns.{First, by_command}

-- at least a and at most b
abbrev pub Between : ℕ → ℕ → ℕ → Type 0
Between a b c = (a ≤ c) × (c ≤ b)

-- the ways of an LL to line 8: from line 4, from line 7, and with line 7's copy
abbrev pub AtEight : ℕ → ℕ → Type 0
AtEight W c = (c ≡ W + 3) ⊎ ((c ≡ 2 * W + 5) ⊎ (c ≡ 3 * W + 5))

-- the ways to line 10: straight from line 8, or through line 9
abbrev pub AtTen : ℕ → ℕ → Type 0
AtTen W c = (c ≡ W + 4) ⊎ ((c ≡ W + 5) ⊎ ((c ≡ 2 * W + 6) ⊎ (c ≡ 3 * W + 6)))

-- the count c at each point; k is the word place
abbrev pub Counts : ℕ → Point → ℕ → ℕ → Type 0
Counts W idle k c = c ≡ 0
Counts W line1 k c = c ≡ 0
Counts W line2 k c = c ≡ 1
Counts W line3 k c = c ≡ 2 + k
Counts W line4 k c = c ≡ W + 2
Counts W line5 k c = c ≡ W + 3
Counts W line6 k c = c ≡ W + 4 + k
Counts W line7 k c = c ≡ 2 * W + 4
Counts W line7copy k c = c ≡ 2 * W + 5 + k
Counts W line8 k c = AtEight W c
Counts W line9 k c = c ≡ W + 4
Counts W line10 k c = AtTen W c
Counts W line11 k c = (before : ℕ) × AtTen W before × (c ≡ before + 1 + k)
Counts W line12 k c = c ≡ 0
Counts W line12valid k c = c ≡ 1
Counts W line13 k c = c ≡ 2
Counts W line14 k c = Between 1 3 c
Counts W line14valid k c = Between 2 4 c
Counts W line15 k c = Between 3 5 c
Counts W line17 k c = Between (2 + k) (6 + k) c
Counts W line18 k c = Between (W + 2) (W + 6) c
Counts W line19 k c = Between (W + 3) (W + 7) c
Counts W line23 k c = c ≡ 0

-- the count of a process at y whose flag in Help is `flag`: at line 8 the flag is up only on the way from line 4
pub record Spent (W : ℕ) (y : Point) (flag : Bool) (k c : ℕ) : Type 0 where
  pub count : Counts W y k c
  pub eight : On (lines 7 7 y) (flag ≡ true → c ≡ W + 3)

-- from line 8 to line 10
eight_ten : (W c : ℕ) → AtEight W c → AtTen W (suc c)
eight_ten W c (inl e) = inl (omega arith)
eight_ten W c (inr (inl e)) = inr (inr (inl (omega arith)))
eight_ten W c (inr (inr e)) = inr (inr (inr (omega arith)))

module _ (N W : ℕ) (h_w : 0 < W) where
  abbrev pub ProcessCount : Point → Bool → Local → Type 0
  ProcessCount y flag l = Spent W y flag l.word l.count

  pub record AllCounts (s : State) : Type 0 where
    pub each : (q : ℕ) → q < N → ProcessCount (s.loc q).point (s.sh.flag q) (s.loc q)

  -- a lower flag asks for less
  lower : {y : Point} {f g : Bool} {k c : ℕ} → (g ≡ true → f ≡ true) → Spent W y f k c → Spent W y g k c
  lower {y} d x = record { count = x.count; eight = on_map (lines 7 7 y) (λ u v. u (d v)) x.eight }

  module _ (s : State) (p n : ℕ) (hp : p < N) (i : AllCounts s) where
    abbrev l : Local
    l = s.loc p

    abbrev h : Shared
    h = s.sh

    -- a step that writes: the others' points and counts stay, and their flags only go down
    wrote : (h' : Shared) (g : Local → Local) (k : Local) → ((f : Bool) (m : Local) → ProcessCount m.point f m → ProcessCount (g m).point f (g m))
        → ((q : ℕ) → (q ≡ p → ⊥) → h'.flag q ≡ true → h.flag q ≡ true)
        → ProcessCount k.point (h'.flag p) k → AllCounts (noisy s p h' g k)
    wrote h' g k stay down me = record { each = λ q hq. go q hq (split q p) }
      where
        go : (q : ℕ) → q < N → Split q p → ProcessCount (upd (λ r. g (s.loc r)) p k q).point (h'.flag q) (upd (λ r. g (s.loc r)) p k q)
        go q hq (same e) = rw e (rw (upd_same (λ r. g (s.loc r)) p k) me)
        go q hq (other ne) = rw (upd_other (λ r. g (s.loc r)) p q k ne) (stay (h'.flag q) (s.loc q) (lower (down q ne) (i.each q hq)))

    -- a step that leaves the flags and the others alone
    alone : (h' : Shared) (k : Local) → ((q : ℕ) → h'.flag q ≡ true → h.flag q ≡ true) → ProcessCount k.point (h'.flag p) k → AllCounts (noisy s p h' (λ m. m) k)
    alone h' k flags me = wrote h' (λ m. m) k (λ _ _ x. x) (λ q _. flags q) me

    own : (k : Local) → ProcessCount k.point (h.flag p) k → AllCounts (quiet s p k)
    own k me = alone h k (λ _ x. x) me

    fork : (b : Bool) (k k' : Local) → ProcessCount k.point (h.flag p) k → ProcessCount k'.point (h.flag p) k' → AllCounts (cond b (quiet s p k) (quiet s p k'))
    fork b k k' x y = by_test AllCounts b (λ _. own k x) (λ _. own k' y)

    -- a word: on at line y, or to line z
    words : (h' : Shared) (y z : Point) (k : Local) → k.word ≡ l.word → k.count ≡ l.count → ((q : ℕ) → h'.flag q ≡ true → h.flag q ≡ true) → l.word < W
        → Spent W y (h'.flag p) (suc l.word) (suc l.count) → (suc l.word ≡ W → Spent W z (h'.flag p) 0 (suc l.count)) → AllCounts (noisy s p h' (λ m. m) (word W y z k))
    words h' y z k ek ec flags w on last =
        by_test (λ x. AllCounts (noisy s p h' (λ m. m) x)) (ltb (suc k.word) W) (λ _. alone h' _ flags (rw (ek, ec) on))
        (λ e. let x = ltb-false (suc k.word) W e in alone h' _ flags (rw ec (last (omega arith))))

    abbrev took : ℕ → Local
    took f = set_returned l.word (h.buf f l.word) l

    -- a count, at line 8 and elsewhere
    new8 : {f : Bool} {k c : ℕ} → AtEight W c → (f ≡ true → c ≡ W + 3) → Spent W line8 f k c
    new8 a b = record { count = a; eight = b }

    new : {y : Point} {f : Bool} {k c : ℕ} → Counts W y k c → On (lines 7 7 y) (f ≡ true → c ≡ W + 3) → Spent W y f k c
    new a b = record { count = a; eight = b }

    -- lines 9 and 15 put a flag down
    down : (j q : ℕ) → upd h.flag j false q ≡ true → h.flag q ≡ true
    down j q x = go (split q j)
      where
        go : Split q j → h.flag q ≡ true
        go (same e) = absurd (contra x (rw e (upd_same h.flag j false)))
        go (other ne) = rw (upd_other h.flag j q false ne) at x

    -- the step at y: w and z are the range of the word place, d says that the flag is down at lines 5 to 7 and in the copy
    moves : (y : Point) → On (moving y) (l.word < W) → On (lines 3 6 y) (h.flag p ≡ false) → Counts W y l.word l.count → On (lines 7 7 y) (h.flag p ≡ true → l.count ≡ W + 3)
        → On (still y) (l.word ≡ 0) → AllCounts (step_at N W y n p s)
    unfolding step_at
    moves idle w d c u z = i
    moves line1 w d c u z = wrote _ (set_link_help p false) _ (λ _ _ x. x) (λ q ne x. rw (upd_other h.flag p q true ne) at x) (new (omega arith) tt)
    moves line2 w d c u z = own _ (new (omega arith) tt)
    moves line3 w d c u z = words h line3 line4 (took l.copy_buf) refl refl (λ _ x. x) w (new (omega arith) tt) (λ e. new (omega arith) tt)
    moves line4 w d c u z = fork (h.flag p) _ _ (new8 (inl (omega arith)) (λ _. omega arith)) (new (omega arith) tt)
    moves line5 w d c u z = own _ (new (omega arith) tt)
    moves line6 w d c u z = words h line6 line7 (took l.copy_buf) refl refl (λ _ x. x) w (new (omega arith) tt) (λ e. new (omega arith) tt)
    moves line7 w d c u z = fork l.link_x _ _ (new8 (inr (inl (omega arith))) (λ up. absurd (contra up d))) (new (omega arith) tt)
    moves line7copy w d c u z = words h line7copy line8 (took l.b) refl refl (λ _ x. x) w (new (omega arith) tt) (λ e. new8 (inr (inr (omega arith))) (λ up. absurd (contra up d)))
    moves line8 w d c u z = by_test AllCounts (h.flag p) (λ up. own _ (let a = u up in new (omega arith) tt)) (λ _. own _ (new (eight_ten W _ c) tt))
    moves line9 w d c u z =
        by_test AllCounts (l.link_help p) (λ _. wrote _ (set_link_help p false) _ (λ _ _ x. x) (λ q _. down p q) (new (inr (inl (omega arith))) tt)) (λ _. own _ (new (inr (inl (omega arith))) tt))
    moves line10 w d c u z = own _ (new (l.count, c, omega arith) tt)
    moves line11 w d c u z = by_test AllCounts (ltb (suc l.word) W) (λ _. alone _ _ (λ _ x. x) (new (c.0, c.1, omega arith) tt)) (λ _. alone _ _ (λ _ x. x) (new refl tt))
    moves line12 w d c u z = fork (eqb (h.bank l.copy_seq) l.copy_buf) _ _ (new (omega arith) tt) (new (omega arith) tt)
    moves line12valid w d c u z = fork l.link_x _ _ (new (omega arith) tt) (new (omega arith) tt)
    moves line13 w d c u z =
        by_test AllCounts (l.link_bank l.copy_seq)
        (λ _. wrote _ (set_link_bank l.copy_seq false) _ (λ _ _ x. x) (λ _ _ x. x) (new (omega arith) tt))
        (λ _. own _ (new (omega arith) tt))
    moves line14 w d c u z = fork (h.flag (l.copy_seq % N)) _ _ (new (omega arith) tt) (new (omega arith) tt)
    moves line14valid w d c u z = fork l.link_x _ _ (new (omega arith) tt) (new (omega arith) tt)
    moves line15 w d c u z =
        by_test AllCounts (l.link_help (l.copy_seq % N))
        (λ _. wrote _ (set_link_help (l.copy_seq % N) false) _ (λ _ _ x. x) (λ q _. down (l.copy_seq % N) q) (new (omega arith) tt)) (λ _. own _ (new (omega arith) tt))
    moves line17 w d c u z = words _ line17 line18 l refl refl (λ _ x. x) w (new (omega arith) tt) (λ e. new (omega arith) tt)
    moves line18 w d c u z = own _ (new (omega arith) tt)
    moves line19 w d c u z =
        by_test AllCounts l.link_x (λ _. wrote _ (set_link_x false) _ (λ _ _ x. x) (λ _ _ x. x) (new refl tt)) (λ _. alone _ _ (λ _ x. x) (new refl tt))
    moves line23 w d c u z = alone _ _ (λ _ x. x) (new refl tt)

    pub count_step : (y : Point) → ProcessClauses N W n y h p l → ProcessCount y (h.flag p) l → AllCounts (step_at N W y n p s)
    count_step y m c = moves y m.in_run (on_map (lines 3 6 y) (λ b. b.one) m.handed) c.count c.eight m.no_run

  -- a start sets the count to 0
  first_count : {off : ℕ → ℕ} {f : Bool} {k : ℕ} (y : Point) (w : ℕ → ℕ) → First off y w → Spent W y f k 0
  first_count y w InvariantRuns.First.ll = record { count = refl; eight = tt }
  first_count y w InvariantRuns.First.vl = record { count = refl; eight = tt }
  first_count y w (InvariantRuns.First.sc v) = record { count = refl; eight = tt }

  -- every command keeps the counts
  pub exec_counts : (n : ℕ) (s : State) (c : Cmd) → Invariant N W n s → AllCounts s → AllCounts (exec N W n c s)
  unfolding step
  exec_counts n s c m i =
      by_command N W AllCounts n s i (λ p y w f hp e. alone s p n hp i _ _ (λ _ x. x) (first_count y w f))
      (λ p hp. count_step s p n hp i (s.loc p).point (m.each p hp) (i.each p hp)) c

  pub setup_counts : (v : ℕ → ℕ) → AllCounts (setup N W v)
  setup_counts v = record { each = λ q hq. record { count = refl; eight = tt } }

-- the points of a call
abbrev pub in_call : Kind → Point → Bool
in_call ll y = lines 0 11 y
in_call (sc offered) y = lines 14 22 y
in_call vl y = lines 13 13 y

-- what a count at a point is below
abbrev pub limit : ℕ → Point → ℕ
limit W y = cond (lines 14 22 y) (W + 8) (cond (lines 13 13 y) 1 (4 * W + 7))

eight_most : (W c : ℕ) → AtEight W c → c ≤ 3 * W + 5
eight_most W c (inl e) = omega arith
eight_most W c (inr (inl e)) = omega arith
eight_most W c (inr (inr e)) = omega arith

ten_most : (W c : ℕ) → 0 < W → AtTen W c → c ≤ 3 * W + 6
ten_most W c h_w (inl e) = omega arith
ten_most W c h_w (inr (inl e)) = omega arith
ten_most W c h_w (inr (inr (inl e))) = omega arith
ten_most W c h_w (inr (inr (inr e))) = omega arith

below_limit : (W : ℕ) (y : Point) (k c : ℕ) → 0 < W → On (moving y) (k < W) → Counts W y k c → c < limit W y
below_limit W idle k c h_w w a = omega arith
below_limit W line1 k c h_w w a = omega arith
below_limit W line2 k c h_w w a = omega arith
below_limit W line3 k c h_w w a = omega arith
below_limit W line4 k c h_w w a = omega arith
below_limit W line5 k c h_w w a = omega arith
below_limit W line6 k c h_w w a = omega arith
below_limit W line7 k c h_w w a = omega arith
below_limit W line7copy k c h_w w a = omega arith
below_limit W line8 k c h_w w a = omega (arith, eight_most W c a)
below_limit W line9 k c h_w w a = omega arith
below_limit W line10 k c h_w w a = omega (arith, ten_most W c h_w a)
below_limit W line11 k c h_w w a = omega (arith, ten_most W a.0 h_w a.1)
below_limit W line12 k c h_w w a = omega arith
below_limit W line12valid k c h_w w a = omega arith
below_limit W line13 k c h_w w a = omega arith
below_limit W line14 k c h_w w a = omega arith
below_limit W line14valid k c h_w w a = omega arith
below_limit W line15 k c h_w w a = omega arith
below_limit W line17 k c h_w w a = omega arith
below_limit W line18 k c h_w w a = omega arith
below_limit W line19 k c h_w w a = omega arith
below_limit W line23 k c h_w w a = omega arith

limit_largest : (w : ℕ) (kind : Kind) (y : Point) → in_call kind y ≡ true → limit (halves w) y ≡ largest w kind
limit_largest w ll y e = rw (apart 0 11 14 22 y (lit≤ tt) e, apart 0 11 13 13 y (lit≤ tt) e) (omega arith)
limit_largest w (sc offered) y e = rw e
limit_largest w vl y e = rw (apart 13 13 14 22 y (lit≤ tt) e, e)

limit_most : (W : ℕ) (y : Point) → 0 < W → limit W y ≤ 4 * W + 7
limit_most W y h_w = by_test (◌≤ 4 * W + 7) (lines 14 22 y) (λ _. omega arith) (λ _. by_test (◌≤ 4 * W + 7) (lines 13 13 y) (λ _. omega arith) (λ _. omega arith))

-- the last word of an LL
ten_answer : (w c b : ℕ) → AtTen (halves w) b → c ≡ b + halves w → OwnSteps w ll (c + 1)
ten_answer w c b (inl e) a = inl (omega arith)
ten_answer w c b (inr (inl e)) a = inr (inl (omega arith))
ten_answer w c b (inr (inr (inl e))) a = inr (inr (inl (omega arith)))
ten_answer w c b (inr (inr (inr e))) a = inr (inr (inr (omega arith)))

-- w words are 2w cells
module _ (N w : ℕ) (h_w : 0 < halves w) where
  abbrev W : ℕ
  W = halves w

  -- "open calls have fewer than their kind's largest"
  pub open_count : (kind : Kind) (n : ℕ) (y : Point) (h : Shared) (q : ℕ) (l : Local) → in_call kind y ≡ true → ProcessClauses N W n y h q l
      → ProcessCount N W h_w y (h.flag q) l → l.count < largest w kind
  open_count kind n y h q l e m c = rw (limit_largest w kind y e) at (below_limit W y l.word l.count h_w m.in_run c.count)

  -- so a busy count is at most 8w + 6, and an idle one is 0
  pub busy_count : (n : ℕ) (y : Point) (h : Shared) (q : ℕ) (l : Local) → ProcessClauses N W n y h q l → ProcessCount N W h_w y (h.flag q) l → l.count ≤ busy_most w
  busy_count n y h q l m c = let a = below_limit W y l.word l.count h_w m.in_run c.count in let b = limit_most W y h_w in omega arith

  pub idle_count : (f : Bool) (l : Local) → ProcessCount N W h_w idle f l → l.count ≡ 0
  idle_count f l c = c.count

  -- the counts of the three answers
  pub ll_answer : (n : ℕ) (h : Shared) (q : ℕ) (l : Local) → W ≤ suc l.word → ProcessClauses N W n line11 h q l → ProcessCount N W h_w line11 (h.flag q) l → OwnSteps w ll (l.count + 1)
  ll_answer n h q l last m c = let a = c.count in let k = m.in_run in ten_answer w l.count a.0 a.1 (omega arith)

  pub sc_answer : (offered : List ℕ) (f : Bool) (l : Local) → ProcessCount N W h_w line19 f l → OwnSteps w (sc offered) (l.count + 1)
  sc_answer offered f l c = let a = c.count in omega arith

  pub vl_answer : (f : Bool) (l : Local) → ProcessCount N W h_w line23 f l → OwnSteps w vl (l.count + 1)
  vl_answer f l c = let a = c.count in omega arith
