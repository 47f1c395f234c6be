-- A success is where the header changes: in the CAS of line 19 that is done, and nowhere else.
use mathlib.Core.Path.{◌≡◌, refl, sym, ap, ap₂, ◌∙◌}
use mathlib.Core.Bool.{Bool, true, false, not, ◌&&◌, cond}
use Prim.Native.Nat.{ℕ, suc, ◌<◌}
use lib.Dec.{ltb, eqb}
use borrow.Author.Tests.{eq-eqb, ne_eqb}
use Rattle.laws.proofs.Updates.{upd_same, by_test}
use Rattle.laws.proofs.Residues.{suc_mod_ne}
use Rattle.moir_model.specs.Points.{Point, idle, ll10, ll2, ll4, ll5, ll6, ll7, sc14, sc17, sc19, sc2, sc4, sc5, sc6, sc7, vl13}
use Rattle.moir_linearization.proofs.PointRanges.{copying}
use Rattle.moir_linearization.proofs.GhostMachine.{Local, Shared, State, noisy, prev, eq_pair, step_at}
use Rattle.moir_linearization.proofs.Numbers.{ProcessNumbers}
use Rattle.moir_linearization.proofs.TagLemmas.{same_get}

module _ (M W n : ℕ) (two : 1 < M) (s : State) (p : ℕ) where
  abbrev l : Local
  l = s.loc p

  abbrev h : Shared
  h = s.sh

  abbrev changes : Shared → Bool
  changes h' = not (eq_pair h'.tag h'.pid h.tag h.pid)

  pub record Changes (y : Point) (u : State) : Type 0 where
    pub seen : changes u.sh ≡ cond (copying y) false (copying (u.loc p).point)

  -- a step that leaves the header
  keep : (y : Point) (h' : Shared) (c : Local) → h'.tag ≡ h.tag → h'.pid ≡ h.pid
      → cond (copying y) false (copying c.point) ≡ false → Changes y (noisy s p h' c)
  keep y h' c e f x = record {
    seen =
        ap not (ap₂ ◌&&◌ (eq-eqb h'.tag h.tag e) (eq-eqb h'.pid h.pid f)) ∙ sym x
        ∙ sym (ap (λ (m : Local). cond (copying y) false (copying m.point)) (upd_same s.loc p c));
  }

  -- the CAS of line 19, done
  won : (h' : Shared) (c : Local) → (h'.tag ≡ h.tag → ⊥) → copying c.point ≡ true → Changes sc19 (noisy s p h' c)
  won h' c ne x = record {
    seen = ap (λ b. not (b && eqb h'.pid h.pid)) (ne_eqb h'.tag h.tag ne) ∙ sym x
        ∙ sym (ap (λ (m : Local). copying m.point) (upd_same s.loc p c));
  }

  pub header_changes_is : (y : Point) → l.point ≡ y → ProcessNumbers M W n y h p l → Changes y (step_at M W y n p s)
  unfolding step_at
  header_changes_is idle e a = record {
    seen = ap not (ap₂ ◌&&◌ (eq-eqb h.tag h.tag refl) (eq-eqb h.pid h.pid refl)) ∙ sym (ap copying e);
  }
  header_changes_is ll10 e a = keep ll10 h _ refl refl refl
  header_changes_is ll2 e a = by_test (Changes ll2) (eqb (h.seg_tag l.word) (prev M l.x_tag))
      (λ _. keep ll2 h _ refl refl refl) (λ _. keep ll2 h _ refl refl refl)
  header_changes_is ll4 e a = keep ll4 h _ refl refl refl
  header_changes_is ll5 e a =
      by_test (Changes ll5) (eq_pair (h.seg_tag l.word) (h.seg_val l.word) l.y_tag l.y_val)
      (λ _. keep ll5 _ _ refl refl refl) (λ _. keep ll5 h _ refl refl refl)
  header_changes_is ll6 e a = keep ll6 h _ refl refl refl
  header_changes_is ll7 e a =
      by_test (Changes ll7) (eq_pair h.tag h.pid l.x_tag l.x_pid)
      (λ _. by_test (Changes ll7) (ltb (suc l.word) W) (λ _. keep ll7 h _ refl refl refl)
      (λ _. keep ll7 h _ refl refl refl)) (λ _. keep ll7 h _ refl refl refl)
  header_changes_is sc14 e a = by_test (Changes sc14) (eqb h.tag l.keep) (λ _. keep sc14 h _ refl refl refl) (λ _. keep sc14 h _ refl refl refl)
  header_changes_is sc17 e a = by_test (Changes sc17) (ltb (suc l.word) W) (λ _. keep sc17 _ _ refl refl refl) (λ _. keep sc17 _ _ refl refl refl)
  header_changes_is sc19 e a =
      by_test (Changes sc19) (eq_pair h.tag h.pid l.old_tag l.old_pid)
      (λ f. won _ _ (λ z. suc_mod_ne M l.read_version two (sym a.new_tag_is ∙ z ∙ (same_get h.tag h.pid l.old_tag l.old_pid f).0 ∙ a.old_tag_is)) refl)
      (λ _. keep sc19 h _ refl refl refl)
  header_changes_is sc2 e a = by_test (Changes sc2) (eqb (h.seg_tag l.word) (prev M l.new_tag))
      (λ _. keep sc2 h _ refl refl refl) (λ _. keep sc2 h _ refl refl refl)
  header_changes_is sc4 e a = keep sc4 h _ refl refl refl
  header_changes_is sc5 e a =
      by_test (Changes sc5) (eq_pair (h.seg_tag l.word) (h.seg_val l.word) l.y_tag l.y_val)
      (λ _. keep sc5 _ _ refl refl refl) (λ _. keep sc5 h _ refl refl refl)
  header_changes_is sc6 e a = keep sc6 h _ refl refl refl
  header_changes_is sc7 e a =
      by_test (Changes sc7) (eq_pair h.tag h.pid l.new_tag l.new_pid)
      (λ _. by_test (Changes sc7) (ltb (suc l.word) W) (λ _. keep sc7 h _ refl refl refl)
      (λ _. keep sc7 h _ refl refl refl)) (λ _. keep sc7 h _ refl refl refl)
  header_changes_is vl13 e a = keep vl13 h _ refl refl refl
