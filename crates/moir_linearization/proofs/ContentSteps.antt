-- Contents: p's own clauses after each of its quiet steps.
use mathlib.Core.Path.{◌≡◌, refl, sym, ap, ◌∙◌}
use mathlib.Core.Bool.{true, false}
use mathlib.Core.Logic.{◌⊎◌, inl, inr}
use Prim.Native.Nat.{ℕ, suc, ◌+◌, ◌%◌, ◌≤◌, ◌<◌}
use native.Mathlib.Omega.{arith}
use Rattle.laws.proofs.Updates.{upd, Split, same, other, split, contra}
use Rattle.laws.proofs.Parts.{SamePart}
use Rattle.laws.proofs.Parts.{pre_put, pre_all, pre_none}
use Rattle.moir_model.specs.Points.{Point, idle, ll10, ll2, ll4, ll5, ll6, ll7, sc14, sc17, sc19, sc2, sc4, sc5, sc6, sc7, vl13}
use Rattle.moir_linearization.proofs.GhostMachine.{Local, Shared, prev, eq_pair, to, set_word, read_header, set_y, set_z, set_h, set_returned}
use Rattle.moir_linearization.proofs.GhostMachine.{set_old, rest, rest_lL, begin}
use Rattle.moir_linearization.proofs.Numbers.{ProcessNumbers, SharedNumbers}
use Rattle.moir_linearization.proofs.Contents.{Fresh, Behind, AllFresh, Right, ProcessContents, SharedContents}
use Rattle.moir_linearization.proofs.Tags.{prev_ne}
use Rattle.moir_linearization.proofs.TagLemmas.{same_put, keep_sc14, two}

-- one place more
pub fresh_put : (h : Shared) (k : ℕ) → AllFresh h k → Fresh h k → AllFresh h (suc k)
fresh_put h k a b i hi = go (split i k)
  where
    go : Split i k → Fresh h i
    go (same e) = rw e b
    go (other ne) = a i (omega (arith, ne))

module _ (M W n : ℕ) (h : Shared) (p : ℕ) (l : Local) (h_w : 0 < W) (gn : SharedNumbers M W n h)
    (g : SharedContents M W n h) (few : suc h.successes < l.start_version + M) where
  abbrev Num : Point → Type 0
  Num y = ProcessNumbers M W n y h p l

  abbrev Before : Point → Type 0
  Before y = ProcessContents M W n y h p l

  abbrev After : Local → Type 0
  After l' = ProcessContents M W (suc n) l'.point h p l'

  abbrev k : ℕ
  k = l.word

  -- the present tag, as the version read has it
  x_now : l.x_tag ≡ l.read_version % M → l.read_version ≡ h.successes → l.x_tag ≡ h.tag
  x_now e r = e ∙ ap (◌% M) r ∙ sym gn.header_tag

  pub c_ll10 : Num ll10 → Before ll10 → After (to ll2 (read_header h.tag h.pid h.successes n l))
  c_ll10 a m =
      let f : h.successes ≡ h.successes → AllFresh h k = λ _ i hi. absurd (let z = a.no_run in omega arith) in
      let d : h.successes ≡ h.successes → SamePart l.returned h.value k = λ _. pre_none _ _ _ a.no_run in
      search

  pub c_ll2 : Num ll2 → Before ll2 → After (to ll4 (set_y (h.seg_tag k) (h.seg_val k) l))
  c_ll2 a m = let f : l.read_version ≡ h.successes → Behind h k → h.seg_val k ≡ h.seg_val k = λ _ _. refl in search

  pub c_ll2' : (h.seg_tag k ≡ prev M l.x_tag → ⊥) → Num ll2 → Before ll2 → After (to ll7 (set_y (h.seg_tag k) (h.seg_val k) l))
  c_ll2' ne a m =
      let f : l.read_version ≡ h.successes → Fresh h k = λ r. go r (g.seg_tag_is k a.in_ll) in
      let v : l.read_version ≡ h.successes → h.seg_val k ≡ h.value k = λ r. g.seg_val_is k a.in_ll (f r) in
      search
    where
      go : l.read_version ≡ h.successes → (h.seg_tag k ≡ h.tag) ⊎ (h.seg_tag k ≡ prev M h.tag) → Fresh h k
      go r (inl f) = f
      go r (inr f) = absurd (ne (f ∙ ap (prev M) (sym (x_now a.x_tag_is r))))

  pub c_ll4 : Num ll4 → Before ll4 → After (to ll5 (set_z l.x_tag (h.rows l.x_pid k) l))
  c_ll4 a m =
      let f : l.read_version ≡ h.successes → Behind h k → Right h k l.x_tag (h.rows l.x_pid k) =
      λ r b. record { tag = x_now a.x_tag_is r; val = ap (λ q. h.rows q k) (a.x_pid_is r) ∙ g.row_val k a.in_ll b } in
      search

  -- a CAS that fails found the segment copied
  pub c_ll5' : eq_pair (h.seg_tag k) (h.seg_val k) l.y_tag l.y_val ≡ false → Num ll5 → Before ll5 → After (to ll6 l)
  c_ll5' e a m =
      let f : l.read_version ≡ h.successes → Fresh h k = λ r. go r (g.seg_tag_is k a.in_ll) in
      search
    where
      go : l.read_version ≡ h.successes → (h.seg_tag k ≡ h.tag) ⊎ (h.seg_tag k ≡ prev M h.tag) → Fresh h k
      go r (inl f) = f
      go r (inr f) =
          let b : Behind h k = λ z. prev_ne M (two M W n h p l gn few a.begun_made) h.successes
          (ap (prev M) (sym gn.header_tag) ∙ sym f ∙ z ∙ gn.header_tag) in
          let t : h.seg_tag k ≡ l.y_tag = f ∙ ap (prev M) (sym (x_now a.x_tag_is r)) ∙ sym a.y_tag_ll in
          absurd (contra (same_put _ _ _ _ t (sym (m.y_val_is r b))) e)

  pub c_ll6 : Num ll6 → Before ll6 → After (to ll7 (set_y (h.seg_tag k) (h.seg_val k) l))
  c_ll6 a m = let v : l.read_version ≡ h.successes → h.seg_val k ≡ h.value k = λ r. g.seg_val_is k a.in_ll (m.place_copied r) in search

  abbrev seen : Local
  seen = set_h h.tag h.pid l

  pub c_ll7 : suc k < W → Num ll7 → Before ll7 → After (set_word (suc k) (to ll2 (set_returned k l.y_val seen)))
  c_ll7 e a m =
      let f : l.read_version ≡ h.successes → AllFresh h (suc k) = λ r. fresh_put h k (m.part_copied r) (m.place_copied r) in
      let d : l.read_version ≡ h.successes → SamePart (upd l.returned k l.y_val) h.value (suc k) =
      λ r. pre_put _ _ _ _ (m.returned_part r) (m.y_value r) in
      search

  pub c_ll7_words : W ≤ suc k → Num ll7 → Before ll7 → After (rest_lL false (set_returned k l.y_val seen))
  c_ll7_words e a m = let f : l.read_version ≡ h.successes → AllFresh h W = λ r i hi. fresh_put h k
      (m.part_copied r) (m.place_copied r) i (omega arith) in search

  pub c_ll7_names : (l.read_version ≡ h.successes → ⊥) → Num ll7 → Before ll7 → After (rest_lL true seen)
  c_ll7_names ne a m = let f : l.read_version ≡ h.successes → AllFresh h W = λ r. absurd (ne r) in search

  -- goal `words`: a WLL that answers words answers the present version's
  pub answers_value : W ≤ suc k → l.read_version ≡ h.successes → Before ll7 → SamePart (upd l.returned k l.y_val) h.value W
  answers_value e r m = pre_all _ _ _ _ e (pre_put _ _ _ _ (m.returned_part r) (m.y_value r))

  pub c_sc14 : h.tag ≡ l.keep → Num sc14 → Before sc14 → After (to sc17 (set_old h.tag h.pid l))
  c_sc14 e a m = let f : h.pid ≡ p → l.read_version ≡ h.successes = λ _. keep_sc14 M W n h p l gn few a e in search

  pub c_sc14' : (t q : ℕ) → Before sc14 → After (rest (set_old t q l))
  c_sc14' t q m = search

  pub c_sc19' : Before sc19 → After (rest l)
  c_sc19' m = search

  pub c_sc2 : (t v : ℕ) → Before sc2 → After (to sc4 (set_y t v l))
  c_sc2 t v m = search

  pub c_sc2' : (t v : ℕ) → Before sc2 → After (to sc7 (set_y t v l))
  c_sc2' t v m = search

  pub c_sc4 : Num sc4 → Before sc4 → After (to sc5 (set_z l.new_tag (h.rows l.new_pid k) l))
  c_sc4 a m =
      let f : suc l.read_version ≡ h.successes → Behind h k → Right h k l.new_tag (h.rows l.new_pid k) =
      λ r b. record {
        tag = a.new_tag_is ∙ ap (◌% M) r ∙ sym gn.header_tag;
        val = ap (λ q. h.rows q k) (a.new_pid_is ∙ sym (a.won_pid r)) ∙ g.row_val k a.in_copy b;
      } in
      search

  pub c_sc5' : Before sc5 → After (to sc6 l)
  c_sc5' m = search

  pub c_sc6 : (t v : ℕ) → Before sc6 → After (to sc7 (set_y t v l))
  c_sc6 t v m = search

  pub c_sc7 : (j : ℕ) → Before sc7 → After (set_word j (to sc2 seen))
  c_sc7 j m = search

  pub c_sc7' : Before sc7 → After (rest seen)
  c_sc7' m = search

  pub c_vl13 : Before vl13 → After (rest l)
  c_vl13 m = search

-- the starts
module _ (M W n : ℕ) (h : Shared) (p : ℕ) (l : Local) where
  pub c_wll : (v : ℕ) (w : ℕ → ℕ) → ProcessContents M W n idle h p l → ProcessContents M W (suc n) ll10 h p (begin ll10 n v w l)
  c_wll v w m = search

  pub c_vl : (v : ℕ) (w : ℕ → ℕ) → ProcessContents M W n idle h p l → ProcessContents M W (suc n) vl13 h p (begin vl13 n v w l)
  c_vl v w m = search

  pub c_sc : (v : ℕ) (w : ℕ → ℕ) → ProcessContents M W n idle h p l → ProcessContents M W (suc n) sc14 h p (begin sc14 n v w l)
  c_sc v w m = search
