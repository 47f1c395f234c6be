-- What a comparison of tags says about versions: BACK (no bound), and SUC, SAME, KEEP, CAS (with the bound).
use mathlib.Core.Path.{◌≡◌, refl, sym, ap, ap₂, ◌∙◌}
use mathlib.Core.Bool.{Bool, true, false, ◌&&◌}
use mathlib.Core.Logic.{◌⊎◌, inl, inr}
use Prim.Native.Nat.{ℕ, suc, ◌+◌, ◌%◌, ◌≤◌, ◌<◌}
use native.Mathlib.Omega.{arith}
use lib.Dec.{eqb}
use borrow.Author.Tests.{eqb-true, eq-eqb}
use Rattle.laws.proofs.Updates.{contra}
use Rattle.laws.proofs.Residues.{mod_ne, mod_inj}
use Rattle.moir_model.specs.Points.{Point, ll7, sc14, sc19, vl13, ll5, sc5}
use Rattle.moir_linearization.proofs.GhostMachine.{Local, Shared, prev, eq_pair}
use Rattle.moir_linearization.proofs.Tags.{prev_ne, prev_inj, next_of}
use Rattle.moir_linearization.proofs.Numbers.{ProcessNumbers, SharedNumbers}

pub same_get : (a b c d : ℕ) → eq_pair a b c d ≡ true → (a ≡ c) × (b ≡ d)
same_get a b c d e = go (eqb a c) refl e
  where
    go : (t : Bool) → eqb a c ≡ t → (t && eqb b d) ≡ true → (a ≡ c) × (b ≡ d)
    go true q e = (eqb-true a c q, eqb-true b d e)
    go false q e = absurd (contra e refl)

pub same_put : (a b c d : ℕ) → a ≡ c → b ≡ d → eq_pair a b c d ≡ true
same_put a b c d e f = ap₂ ◌&&◌ (eq-eqb a c e) (eq-eqb b d f)

module _ (M W n : ℕ) (h : Shared) (p : ℕ) (l : Local) (g : SharedNumbers M W n h) where
  -- BACK: who read the present version finds what it read
  pub back_ll7 : ProcessNumbers M W n ll7 h p l → l.read_version ≡ h.successes → eq_pair h.tag h.pid l.x_tag l.x_pid ≡ true
  back_ll7 m e = same_put _ _ _ _ (g.header_tag ∙ ap (◌% M) (sym e) ∙ sym m.x_tag_is) (sym (m.x_pid_is e))

  pub back_sc19 : ProcessNumbers M W n sc19 h p l → l.read_version ≡ h.successes → eq_pair h.tag h.pid l.old_tag l.old_pid ≡ true
  back_sc19 m e = same_put _ _ _ _ (g.header_tag ∙ ap (◌% M) (sym e) ∙ sym m.old_tag_is) (sym (m.old_pid_is e))

  pub back_keep : (y : Point) → ProcessNumbers M W n y h p l → l.read_version ≡ h.successes → h.tag ≡ l.keep
  back_keep y m e = g.header_tag ∙ ap (◌% M) (sym e) ∙ sym m.keep_tag

  -- the bound, before the step
  module _ (few : suc h.successes < l.start_version + M) where
    -- a tag of the version read, found in the header, says that it is the present version
    present : l.start_version ≤ l.read_version → l.read_version ≤ h.successes → h.tag ≡ l.read_version % M → l.read_version ≡ h.successes
    present a b e = mod_inj M l.read_version h.successes b (omega arith) (sym e ∙ g.header_tag)

    -- SAME
    pub same_ll7 : ProcessNumbers M W n ll7 h p l → eq_pair h.tag h.pid l.x_tag l.x_pid ≡ true → l.read_version ≡ h.successes
    same_ll7 m e = present m.begun_read_ll m.read_made ((same_get h.tag h.pid l.x_tag l.x_pid e).0 ∙ m.x_tag_is)

    -- SUC
    pub suc_sc19 : ProcessNumbers M W n sc19 h p l → eq_pair h.tag h.pid l.old_tag l.old_pid ≡ true → l.read_version ≡ h.successes
    suc_sc19 m e = present m.begun_read m.read_made ((same_get h.tag h.pid l.old_tag l.old_pid e).0 ∙ m.old_tag_is)

    -- KEEP
    pub keep_sc14 : ProcessNumbers M W n sc14 h p l → h.tag ≡ l.keep → l.read_version ≡ h.successes
    keep_sc14 m e = present m.begun_read m.read_made (e ∙ m.keep_tag)

    pub keep_vl13 : ProcessNumbers M W n vl13 h p l → h.tag ≡ l.keep → l.read_version ≡ h.successes
    keep_vl13 m e = present m.begun_read m.read_made (e ∙ m.keep_tag)

    -- CAS: the version c that is copied, from a segment whose tag t is the present or the one before, is the present one, and t is not
    copied : (c t : ℕ) → l.start_version ≤ c → c ≤ h.successes → 1 < M → t ≡ prev M (c % M)
        → (t ≡ h.tag) ⊎ (t ≡ prev M h.tag) → (c ≡ h.successes) × (t ≡ h.tag → ⊥)
    copied c t a b two e (inl f) =
        absurd (mod_ne M c (suc h.successes) (omega arith) (omega arith) (sym (next_of M two h.successes c (sym g.header_tag ∙ sym f ∙ e))))
    copied c t a b two e (inr f) =
        let q : t ≡ prev M (h.successes % M) = f ∙ ap (prev M) g.header_tag in (
          mod_inj M c h.successes b (omega arith) (prev_inj M two c h.successes (sym e ∙ q)),
          λ z. prev_ne M two h.successes (sym q ∙ z ∙ g.header_tag),
        )

    pub two : l.start_version ≤ h.successes → 1 < M
    two a = omega arith

    pub cas_ll5 : ProcessNumbers M W n ll5 h p l → (t : ℕ) → t ≡ l.y_tag → (t ≡ h.tag) ⊎ (t ≡ prev M h.tag)
        → (l.read_version ≡ h.successes) × (t ≡ h.tag → ⊥)
    cas_ll5 m t e f = copied l.read_version t m.begun_read_ll m.read_made (two m.begun_made) (e ∙ m.y_tag_ll ∙ ap (prev M) m.x_tag_is) f

    pub cas_sc5 : ProcessNumbers M W n sc5 h p l → (t : ℕ) → t ≡ l.y_tag → (t ≡ h.tag) ⊎ (t ≡ prev M h.tag)
        → (suc l.read_version ≡ h.successes) × (t ≡ h.tag → ⊥)
    cas_sc5 m t e f =
        copied (suc l.read_version) t (let z = m.begun_read in omega arith) m.won (two m.begun_made) (e ∙ m.y_tag_sc ∙ ap (prev M) m.new_tag_is) f
