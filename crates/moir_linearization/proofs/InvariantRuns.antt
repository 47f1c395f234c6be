-- Every command keeps the invariants, within the bound; the set-up has them.
use mathlib.Core.Path.{◌≡◌, refl, sym, subst}
use mathlib.Core.Bool.{Bool, true, false}
use mathlib.Core.Logic.{inl}
use Prim.Native.Nat.{ℕ, suc, ◌<◌}
use native.Mathlib.Nat.{zero-mod}
use native.Mathlib.Omega.{arith}
use lib.Dec.{ltb}
use borrow.Author.Tests.{ltb-true}
use Rattle.laws.proofs.Updates.{by_test, contra}
use Rattle.moir_model.specs.Points.{Point, idle, ll10, ll2, ll4, ll5, ll6, ll7, sc14, sc17, sc19, sc2, sc4, sc5, sc6, sc7, vl13}
use Rattle.moir_linearization.proofs.PointRanges.{is_idle}
use Rattle.moir_linearization.proofs.GhostMachine.{Local, Shared, State, step, begin}
use Rattle.moir_linearization.proofs.GhostRuns.{Cmd, WLL, VL, SC, go, exec, starts, started, BoundedAt, loc0, set_up}
use Rattle.moir_linearization.proofs.Frame.{frame}
use Rattle.moir_linearization.proofs.Numbers.{ProcessNumbers, SharedNumbers, Numbers, numbers_later, numbers_later_all}
use Rattle.moir_linearization.proofs.NumberSteps.{n_wll, n_vl, n_sc}
use Rattle.moir_linearization.proofs.Contents.{contents_later, contents_later_all, ProcessContents, SharedContents, Contents, AllFresh}
use Rattle.moir_linearization.proofs.ContentSteps.{c_wll, c_vl, c_sc}
use Rattle.moir_linearization.proofs.Preservation.{step_numbers, step_contents}

pub idle_is : (y : Point) → is_idle y ≡ true → y ≡ idle
idle_is idle e = refl
idle_is ll10 e = absurd (contra e refl)
idle_is ll2 e = absurd (contra e refl)
idle_is ll4 e = absurd (contra e refl)
idle_is ll5 e = absurd (contra e refl)
idle_is ll6 e = absurd (contra e refl)
idle_is ll7 e = absurd (contra e refl)
idle_is sc14 e = absurd (contra e refl)
idle_is sc17 e = absurd (contra e refl)
idle_is sc19 e = absurd (contra e refl)
idle_is sc2 e = absurd (contra e refl)
idle_is sc4 e = absurd (contra e refl)
idle_is sc5 e = absurd (contra e refl)
idle_is sc6 e = absurd (contra e refl)
idle_is sc7 e = absurd (contra e refl)
idle_is vl13 e = absurd (contra e refl)

-- the first point of a call, the version from which the bound counts and the words offered after its start, for a process whose record is l
pub data First (S : ℕ) (l : Local) : Point → ℕ → (ℕ → ℕ) → Type 0 where
  wll : First S l ll10 S l.offered
  vl : l.mark ≡ true → First S l vl13 l.start_version l.offered
  sc : (w : ℕ → ℕ) → l.mark ≡ true → First S l sc14 l.start_version w

module _ (N M W : ℕ) where
  -- a start is refused and changes nothing, or finds its process idle
  pub by_starts : (P : State → Type 0) (n p : ℕ) (y : Point) (v : ℕ) (w : ℕ → ℕ) (f ok : Bool) (s : State) → P s
      → (p < N → f ≡ true → (s.loc p).point ≡ idle → ok ≡ true → P (started N M W n p y v w s)) → P (starts N M W n p y v w f ok s)
  by_starts P n p y v w f ok s stays begun =
      by_test P (ltb p N)
      (λ a. by_test P f (λ b. by_test P (is_idle (s.loc p).point)
      (λ c. by_test P ok (λ d. begun (ltb-true _ _ a) b (idle_is _ c) d) (λ _. stays)) (λ _. stays))
      (λ _. stays)) (λ _. stays)

  -- a command is refused and changes nothing, or starts a call of an idle process, or is a step
  module _ (P : State → Type 0) (n : ℕ) (s : State) (c : Cmd) (refused : P s)
      (begun : (p : ℕ) (y : Point) (v : ℕ) (w : ℕ → ℕ) → First s.sh.successes (s.loc p) y v w → (s.loc p).point ≡ idle → P (started N M W n p y v w s))
      (stepped : (p : ℕ) → p < N → c ≡ go p → P (step M W n p s)) where
    by_start : (p : ℕ) (y : Point) (v : ℕ) (w : ℕ → ℕ) (f ok : Bool)
        → (ok ≡ true → First s.sh.successes (s.loc p) y v w) → P (starts N M W n p y v w f ok s)
    by_start p y v w f ok first = by_starts P n p y v w f ok s refused (λ _ _ i e. begun p y v w (first e) i)

    by_kind : (d : Cmd) → c ≡ d → P (exec N M W n d s)
    unfolding exec
    by_kind (WLL p) e = by_start p ll10 _ _ true true (λ _. wll)
    by_kind (VL p) e = by_start p vl13 _ _ true (s.loc p).mark vl
    by_kind (SC p w f) e = by_start p sc14 _ w f (s.loc p).mark (sc w)
    by_kind (go p) e = by_test P (ltb p N) (λ f. stepped p (ltb-true _ _ f) e) (λ _. refused)

    pub by_command : P (exec N M W n c s)
    by_command = by_kind c refl

  pub record Invariant (n : ℕ) (s : State) : Type 0 where
    pub numbers : Numbers M W n s
    pub contents : Contents M W n s

  pub exec_inv : 0 < W → (n : ℕ) (s : State) (c : Cmd) → BoundedAt N M W n c s → Invariant n s → Invariant (suc n) (exec N M W n c s)
  exec_inv h_w n s c b i =
      by_command (Invariant (suc n)) n s c refused begun
      (λ p hp e. record {
        numbers = step_numbers M W n h_w s p i.numbers;
        contents = step_contents M W n h_w s p
            i.numbers i.contents (subst (λ c. BoundedAt N M W n c s) e b hp);
      })
    where
      h : Shared
      h = s.sh

      refused : Invariant (suc n) s
      refused = record {
        numbers = record { all = numbers_later_all M W n _ i.numbers.all; each = λ q. numbers_later M W n _ _ q _ (i.numbers.each q) };
        contents = record { all = contents_later_all M W n _ i.contents.all; each = λ q. contents_later M W n _ _ q _ (i.contents.each q) };
      }

      own : (p : ℕ) (y : Point) (v : ℕ) (w : ℕ → ℕ) → First s.sh.successes (s.loc p) y v w
          → ProcessNumbers M W n idle s.sh p (s.loc p) → ProcessNumbers M W (suc n) y s.sh p
          (begin y n v w (s.loc p))
      own p y v w wll m = n_wll M W n _ p _ h_w i.numbers.all m
      own p y v w (vl e) m = n_vl M W n _ p _ h_w i.numbers.all e m
      own p y v w (sc x e) m = n_sc M W n _ p _ h_w i.numbers.all x e m

      own' : (p : ℕ) (y : Point) (v : ℕ) (w : ℕ → ℕ) → First s.sh.successes (s.loc p) y v w
          → ProcessContents M W n idle s.sh p (s.loc p) → ProcessContents M W (suc n) y s.sh p
          (begin y n v w (s.loc p))
      own' p y v w wll m = c_wll M W n _ p _ _ _ m
      own' p y v w (vl e) m = c_vl M W n _ p _ _ _ m
      own' p y v w (sc x e) m = c_sc M W n _ p _ _ _ m

      begun : (p : ℕ) (y : Point) (v : ℕ) (w : ℕ → ℕ) → First s.sh.successes (s.loc p) y v w
          → (s.loc p).point ≡ idle → Invariant (suc n) (started N M W n p y v w s)
      begun p y v w f e = record {
        numbers =
            frame (SharedNumbers M W) (ProcessNumbers M W) n s p s.sh _ i.numbers (numbers_later_all M W n _ i.numbers.all)
            (own p y v w f (subst (λ y. ProcessNumbers M W n y s.sh p (s.loc p)) e (i.numbers.each p))) (λ q ne a. numbers_later M W n _ _ q _ a);
        contents =
            frame (SharedContents M W) (ProcessContents M W) n s p s.sh _ i.contents (contents_later_all M W n _ i.contents.all)
            (own' p y v w f (subst (λ y. ProcessContents M W n y s.sh p (s.loc p)) e (i.contents.each p))) (λ q ne a. contents_later M W n _ _ q _ a);
      }

  module _ (v : ℕ → ℕ) where
    pub setup_inv : Invariant 1 (set_up v)
    setup_inv = record {
      numbers = record { all = record { header_tag = sym (zero-mod M); won_past = omega arith }; each = λ q. each q };
      contents = record {
        all = record { seg_tag_is = λ i hi. inl refl; seg_val_is = λ i hi f. refl; row_val = λ i hi b. absurd (b refl) };
        each = λ q. (let f : ◌≡◌ {A = ℕ} 0 0 → AllFresh (set_up v).sh W = λ _ i hi. refl in search);
      };
    }
      where
        each : (q : ℕ) → ProcessNumbers M W 1 idle (set_up v).sh q loc0
        each q = let z = sym (zero-mod M) in let f : false ≡ true → 0 < 0 = λ x. absurd (contra x refl) in search arith
