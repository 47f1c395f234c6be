-- What every step of p leaves: the others' records, the version from which p's bound counts, and no fewer successes.
use mathlib.Core.Path.{◌≡◌, refl, ap, ◌∙◌}
use Prim.Native.Nat.{ℕ, suc, ◌+◌, ◌≤◌, ◌<◌}
use native.Mathlib.Omega.{arith}
use lib.Dec.{ltb, eqb}
use Rattle.laws.proofs.Updates.{upd_same, upd_other, by_test}
use Rattle.moir_model.specs.Points.{Point, idle, ll10, ll2, ll4, ll5, ll6, ll7, sc14, sc17, sc19, sc2, sc4, sc5, sc6, sc7, vl13}
use Rattle.moir_linearization.proofs.GhostMachine.{Local, Shared, State, noisy, prev, eq_pair, step_at, step, Bounded}

pub record Shape (s : State) (p : ℕ) (u : State) : Type 0 where
  pub others : (q : ℕ) → (q ≡ p → ⊥) → u.loc q ≡ s.loc q
  pub same_start : (u.loc p).start_version ≡ (s.loc p).start_version
  pub grows : s.sh.successes ≤ u.sh.successes

module _ (M W n : ℕ) (s : State) (p : ℕ) where
  abbrev l : Local
  l = s.loc p

  abbrev h : Shared
  h = s.sh

  abbrev k : ℕ
  k = l.word

  put : (h' : Shared) (c : Local) → c.start_version ≡ l.start_version → h.successes ≤ h'.successes → Shape s p (noisy s p h' c)
  put h' c e g = record {
    others = λ q ne. upd_other s.loc p q c ne;
    same_start =
        ap (λ (x : Local). x.start_version) (upd_same s.loc p c) ∙ e;
    grows = g;
  }

  -- a step with no success
  keep : (h' : Shared) (c : Local) → c.start_version ≡ l.start_version → h.successes ≡ h'.successes → Shape s p (noisy s p h' c)
  keep h' c e g = put h' c e (omega arith)

  pub shape : (y : Point) → Shape s p (step_at M W y n p s)
  unfolding step_at
  shape idle = record { others = λ q ne. refl; same_start = refl; grows = omega arith }
  shape ll10 = keep h _ refl refl
  shape ll2 = by_test (Shape s p) (eqb (h.seg_tag k) (prev M l.x_tag)) (λ _. keep h _ refl refl) (λ _. keep h _ refl refl)
  shape ll4 = keep h _ refl refl
  shape ll5 = by_test (Shape s p) (eq_pair (h.seg_tag k) (h.seg_val k) l.y_tag l.y_val) (λ _. keep _ _ refl refl) (λ _. keep h _ refl refl)
  shape ll6 = keep h _ refl refl
  shape ll7 = by_test (Shape s p) (eq_pair h.tag h.pid l.x_tag l.x_pid)
      (λ _. by_test (Shape s p) (ltb (suc k) W) (λ _. keep h _ refl refl) (λ _. keep h _ refl refl))
      (λ _. keep h _ refl refl)
  shape sc14 = by_test (Shape s p) (eqb h.tag l.keep) (λ _. keep h _ refl refl) (λ _. keep h _ refl refl)
  shape sc17 = by_test (Shape s p) (ltb (suc k) W) (λ _. keep _ _ refl refl) (λ _. keep _ _ refl refl)
  shape sc19 = by_test (Shape s p) (eq_pair h.tag h.pid l.old_tag l.old_pid) (λ _. put _ _ refl (omega arith)) (λ _. keep h _ refl refl)
  shape sc2 = by_test (Shape s p) (eqb (h.seg_tag k) (prev M l.new_tag)) (λ _. keep h _ refl refl) (λ _. keep h _ refl refl)
  shape sc4 = keep h _ refl refl
  shape sc5 = by_test (Shape s p) (eq_pair (h.seg_tag k) (h.seg_val k) l.y_tag l.y_val) (λ _. keep _ _ refl refl) (λ _. keep h _ refl refl)
  shape sc6 = keep h _ refl refl
  shape sc7 = by_test (Shape s p) (eq_pair h.tag h.pid l.new_tag l.new_pid)
      (λ _. by_test (Shape s p) (ltb (suc k) W) (λ _. keep h _ refl refl) (λ _. keep h _ refl refl))
      (λ _. keep h _ refl refl)
  shape vl13 = keep h _ refl refl

  -- the bound, before the step
  abbrev pub Few : Type 0
  Few = suc h.successes < l.start_version + M

  pub bound_before : Bounded M W n p s → Few
  unfolding step
  bound_before b = let z = (shape l.point).grows in let y = b.few in omega arith
