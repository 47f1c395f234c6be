-- Row 9 refuses nothing: process numbers below N, counts and word places in range; with no bound on the successes.
use mathlib.Core.Path.{◌≡◌, refl, subst}
use Prim.Native.Nat.{ℕ, suc, ◌<◌}
use lib.Dec.{ltb, eqb}
use Rattle.laws.proofs.Updates.{by_test}
use Rattle.moir_model.specs.Points.{Point, idle, ll10, ll2, ll4, ll5, ll6, ll7, sc14, sc17, sc19, sc2, sc4, sc5, sc6, sc7, vl13}
use Rattle.moir_linearization.proofs.GhostMachine.{Local, Shared, State, noisy, begin, prev, eq_pair, step, step_at}
use Rattle.moir_linearization.proofs.GhostRuns.{Cmd, exec, started, set_up}
use Rattle.moir_linearization.proofs.Frame.{Holds, frame}
use Rattle.moir_linearization.proofs.Numbers.{ProcessNumbers, SharedNumbers, Numbers, numbers_later, numbers_later_all}
use Rattle.moir_linearization.proofs.NumberSteps.{n_wll, n_vl, n_sc}
use Rattle.moir_linearization.proofs.Preservation.{step_numbers}
use Rattle.moir_linearization.proofs.Counts as K
use Rattle.moir_linearization.proofs.Counts.{CountAt, Counts, step_counts}
use Rattle.moir_linearization.proofs.InvariantRuns.{First, wll, vl, sc, by_command, setup_inv}

-- every process number kept
pub record LowNumbers (N : ℕ) (l : Local) : Type 0 where
  pub x_low : l.x_pid < N
  pub old_low : l.old_pid < N
  pub new_low : l.new_pid < N
  pub h_low : l.h_pid < N

abbrev ProcessRanges : ℕ → ℕ → Point → Shared → ℕ → Local → Type 0
ProcessRanges N n y h q l = LowNumbers N l

abbrev SharedRanges : ℕ → ℕ → Shared → Type 0
SharedRanges N n h = h.pid < N

abbrev pub Ranges : ℕ → ℕ → State → Type 0
Ranges N = Holds (SharedRanges N) (ProcessRanges N)

module _ (N M W n : ℕ) (s : State) (p : ℕ) (hp : p < N) (i : Ranges N n s) where
  abbrev l : Local
  l = s.loc p

  abbrev h : Shared
  h = s.sh

  abbrev k : ℕ
  k = l.word

  q! : (h' : Shared) (c : Local) → h'.pid < N → LowNumbers N c → Ranges N (suc n) (noisy s p h' c)
  q! h' c a b = frame (SharedRanges N) (ProcessRanges N) n s p h' c i a b (λ q ne x. x)

  ranges_at : (y : Point) → LowNumbers N l → h.pid < N → Ranges N (suc n) (step_at M W y n p s)
  unfolding step_at
  ranges_at idle a b = record { all = b; each = i.each }
  ranges_at ll10 a b = q! h _ b search
  ranges_at ll2 a b = by_test (Ranges N (suc n)) (eqb (h.seg_tag k) (prev M l.x_tag)) (λ _. q! h _ b search) (λ _. q! h _ b search)
  ranges_at ll4 a b = q! h _ b search
  ranges_at ll5 a b = by_test (Ranges N (suc n)) (eq_pair (h.seg_tag k) (h.seg_val k) l.y_tag l.y_val) (λ _. q! _ _ b search) (λ _. q! h _ b search)
  ranges_at ll6 a b = q! h _ b search
  ranges_at ll7 a b =
      by_test (Ranges N (suc n)) (eq_pair h.tag h.pid l.x_tag l.x_pid)
      (λ _. by_test (Ranges N (suc n)) (ltb (suc k) W) (λ _. q! h _ b search) (λ _. q! h _ b search)) (λ _. q! h _ b search)
  ranges_at sc14 a b = by_test (Ranges N (suc n)) (eqb h.tag l.keep) (λ _. q! h _ b search) (λ _. q! h _ b search)
  ranges_at sc17 a b = by_test (Ranges N (suc n)) (ltb (suc k) W) (λ _. q! _ _ b search) (λ _. q! _ _ b search)
  ranges_at sc19 a b =
      by_test (Ranges N (suc n)) (eq_pair h.tag h.pid l.old_tag l.old_pid) (λ _. q! _ _ a.new_low search) (λ _. q! h _ b search)
  ranges_at sc2 a b = by_test (Ranges N (suc n)) (eqb (h.seg_tag k) (prev M l.new_tag)) (λ _. q! h _ b search) (λ _. q! h _ b search)
  ranges_at sc4 a b = q! h _ b search
  ranges_at sc5 a b = by_test (Ranges N (suc n)) (eq_pair (h.seg_tag k) (h.seg_val k) l.y_tag l.y_val) (λ _. q! _ _ b search) (λ _. q! h _ b search)
  ranges_at sc6 a b = q! h _ b search
  ranges_at sc7 a b =
      by_test (Ranges N (suc n)) (eq_pair h.tag h.pid l.new_tag l.new_pid)
      (λ _. by_test (Ranges N (suc n)) (ltb (suc k) W) (λ _. q! h _ b search) (λ _. q! h _ b search)) (λ _. q! h _ b search)
  ranges_at vl13 a b = q! h _ b search

  step_ranges : Ranges N (suc n) (step M W n p s)
  unfolding step
  step_ranges = ranges_at l.point (i.each p) i.all

module _ (N M W : ℕ) where
  -- what holds of every state that commands reach
  pub record Sound (n : ℕ) (s : State) : Type 0 where
    pub numbers : Numbers M W n s
    pub counts : Counts W s
    pub ranges : Ranges N n s

  pub exec_sound : 0 < W → (n : ℕ) (s : State) (c : Cmd) → Sound n s → Sound (suc n) (exec N M W n c s)
  exec_sound h_w n s c i =
      by_command N M W (Sound (suc n)) n s c refused begun
      (λ p hp e. record {
        numbers = step_numbers M W n h_w s p i.numbers;
        counts = step_counts M W n h_w s p i.counts i.numbers;
        ranges = step_ranges N M W n s p hp i.ranges;
      })
    where
      refused : Sound (suc n) s
      refused = record {
        numbers = record { all = numbers_later_all M W n _ i.numbers.all; each = λ q. numbers_later M W n _ _ q _ (i.numbers.each q) };
        counts = i.counts;
        ranges = record { all = i.ranges.all; each = i.ranges.each };
      }

      own : (p : ℕ) (y : Point) (v : ℕ) (w : ℕ → ℕ) → First s.sh.successes (s.loc p) y v w
          → ProcessNumbers M W n idle s.sh p (s.loc p) → ProcessNumbers M W (suc n) y s.sh p
          (begin y n v w (s.loc p))
      own p y v w wll m = n_wll M W n _ p _ h_w i.numbers.all m
      own p y v w (vl e) m = n_vl M W n _ p _ h_w i.numbers.all e m
      own p y v w (sc x e) m = n_sc M W n _ p _ h_w i.numbers.all x e m

      none : (p : ℕ) (y : Point) (v : ℕ) (w : ℕ → ℕ) → First s.sh.successes (s.loc p) y v w → CountAt W y (s.loc p).word 0
      none p y v w wll = refl
      none p y v w (vl e) = refl
      none p y v w (sc x e) = refl

      begun : (p : ℕ) (y : Point) (v : ℕ) (w : ℕ → ℕ) → First s.sh.successes (s.loc p) y v w
          → (s.loc p).point ≡ idle → Sound (suc n) (started N M W n p y v w s)
      begun p y v w f e = record {
        numbers =
            frame (SharedNumbers M W) (ProcessNumbers M W) n s p s.sh _ i.numbers (numbers_later_all M W n _ i.numbers.all)
            (own p y v w f (subst (λ y. ProcessNumbers M W n y s.sh p (s.loc p)) e (i.numbers.each p))) (λ q ne a. numbers_later M W n _ _ q _ a);
        counts = K.q! M W n h_w s p i.counts s.sh (begin y n v w (s.loc p)) (none p y v w f);
        ranges = frame (SharedRanges N) (ProcessRanges N) n s p s.sh _ i.ranges i.ranges.all (let a = i.ranges.each p in search) (λ q ne x. x);
      }

  pub setup_sound : 0 < N → (v : ℕ → ℕ) → Sound 1 (set_up v)
  setup_sound h_n v = record {
    numbers = (setup_inv N M W v).numbers;
    counts = λ q. refl;
    ranges = record { all = h_n; each = λ q. record { x_low = h_n; old_low = h_n; new_low = h_n; h_low = h_n } };
  }
