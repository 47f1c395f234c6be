-- Numbers: p's own clauses after each of its steps, and the others' after the three writes.
use mathlib.Core.Path.{◌≡◌, refl, sym, ap, ◌∙◌}
use mathlib.Core.Bool.{true, false}
use Prim.Native.Nat.{ℕ, suc, ◌%◌, ◌≤◌, ◌<◌}
use native.Mathlib.Nat.{suc-mod}
use native.Mathlib.Omega.{arith}
use Rattle.laws.proofs.Updates.{upd, upd_same, upd_other, contra}
use Rattle.laws.proofs.Parts.{SamePart}
use Rattle.laws.proofs.Claimed.{on_map}
use Rattle.laws.proofs.Parts.{pre_put, pre_all, pre_none}
use Rattle.moir_model.specs.Points.{Point, idle, ll10, ll2, ll4, ll5, ll6, ll7, sc14, sc17, sc19, sc2, sc4, sc5, sc6, sc7, vl13}
use Rattle.moir_linearization.proofs.GhostMachine.{Local, Shared, prev, next, to, set_word, read_header, set_y, set_z, set_h, set_returned}
use Rattle.moir_linearization.proofs.GhostMachine.{set_old, set_new, set_key, rest, rest_lL, begin, w_seg, w_row, w_header}
use Rattle.moir_linearization.proofs.PointRanges.{lines}
use Rattle.moir_linearization.proofs.Numbers.{ProcessNumbers, SharedNumbers}

module _ (M W n : ℕ) (h : Shared) (p : ℕ) (l : Local) (h_w : 0 < W) (g : SharedNumbers M W n h) where
  abbrev Before : Point → Type 0
  Before y = ProcessNumbers M W n y h p l

  abbrev After : Shared → Local → Type 0
  After h' l' = ProcessNumbers M W (suc n) l'.point h' p l'

  pub n_ll10 : Before ll10 → After h (to ll2 (read_header h.tag h.pid h.successes n l))
  n_ll10 m =
      let k : l.word < W = let z = m.no_run in omega arith in
      let f : h.successes < h.successes → n < h.won_at = λ x. absurd (omega arith) in
      search arith

  pub n_ll2 : (t v : ℕ) → t ≡ prev M l.x_tag → Before ll2 → After h (to ll4 (set_y t v l))
  n_ll2 t v e m = search arith

  pub n_ll2' : (t v : ℕ) → Before ll2 → After h (to ll7 (set_y t v l))
  n_ll2' t v m = search arith

  pub n_ll4 : (t v : ℕ) → Before ll4 → After h (to ll5 (set_z t v l))
  n_ll4 t v m = search arith

  pub n_ll5 : Before ll5 → After h (to ll6 l)
  n_ll5 m = search arith

  pub n_ll6 : (t v : ℕ) → Before ll6 → After h (to ll7 (set_y t v l))
  n_ll6 t v m = search arith

  -- line 7
  abbrev seen : Local
  seen = set_h h.tag h.pid l

  pub n_ll7 : (k v : ℕ) → suc l.word < W → Before ll7 → After h (set_word (suc l.word) (to ll2 (set_returned k v seen)))
  n_ll7 k v e m = search arith

  pub n_ll7_words : (k v : ℕ) → Before ll7 → After h (rest_lL false (set_returned k v seen))
  n_ll7_words k v m = let f : false ≡ true → l.read_version < h.successes = λ x. absurd (contra x refl) in search arith

  pub n_ll7_names : (l.read_version ≡ h.successes → ⊥) → Before ll7 → After h (rest_lL true seen)
  n_ll7_names ne m = let f : true ≡ true → l.read_version < h.successes = λ x. let z = m.read_made in omega (arith, ne) in search arith

  pub n_sc14 : h.tag ≡ l.keep → Before sc14 → After h (to sc17 (set_old h.tag h.pid l))
  n_sc14 e m =
      let k : l.word < W = let z = m.no_run in omega arith in
      let t : h.tag ≡ l.read_version % M = e ∙ m.keep_tag in
      let f : l.read_version ≡ h.successes → h.pid ≡ h.pid = λ x. refl in
      let d : SamePart (h.rows p) l.offered l.word = pre_none _ _ _ m.no_run in
      search arith

  pub n_sc14' : (t q : ℕ) → Before sc14 → After h (rest (set_old t q l))
  n_sc14' t q m = search arith

  -- a word of A more
  row : (k v : ℕ) → v ≡ l.offered k → SamePart (h.rows p) l.offered k → SamePart ((w_row p k v h).rows p) l.offered (suc k)
  row k v e d w hw = rw (upd_same h.rows p (upd (h.rows p) k v)) (pre_put (h.rows p) l.offered k v d e w hw)

  abbrev h17 : Shared
  h17 = w_row p l.word (l.offered l.word) h

  pub n_sc17 : suc l.word < W → Before sc17 → After h17 (set_word (suc l.word) (to sc17 l))
  n_sc17 e m = let f = row l.word (l.offered l.word) refl m.offered_part in search arith

  pub n_sc17' : W ≤ suc l.word → Before sc17 → After h17 (set_word 0 (set_new (next M l.old_tag) p (to sc19 l)))
  n_sc17' e m =
      let f = pre_all _ _ _ _ e (row l.word (l.offered l.word) refl m.offered_part) in
      let t : suc l.old_tag % M ≡ suc l.read_version % M = ap (λ t. suc t % M) m.old_tag_is ∙ sym (suc-mod l.read_version M) in
      search arith

  abbrev h19 : Shared
  h19 = w_header l.new_tag l.new_pid l.offered n h

  pub n_sc19 : Before sc19 → After h19 (set_key n (to sc2 l))
  n_sc19 m =
      let k : l.word < W = let z = m.no_run_19 in omega arith in
      let f : suc l.read_version ≡ suc h.successes → l.new_pid ≡ p = λ x. m.new_pid_is in
      let q : l.named ≡ true → l.read_version < suc h.successes = λ x. let z = m.read_made in omega arith in
      search arith

  pub n_sc19' : Before sc19 → After h (rest l)
  n_sc19' m = search arith

  pub n_sc2 : (t v : ℕ) → t ≡ prev M l.new_tag → Before sc2 → After h (to sc4 (set_y t v l))
  n_sc2 t v e m = search arith

  pub n_sc2' : (t v : ℕ) → Before sc2 → After h (to sc7 (set_y t v l))
  n_sc2' t v m = search arith

  pub n_sc4 : (t v : ℕ) → Before sc4 → After h (to sc5 (set_z t v l))
  n_sc4 t v m = search arith

  pub n_sc5 : Before sc5 → After h (to sc6 l)
  n_sc5 m = search arith

  pub n_sc6 : (t v : ℕ) → Before sc6 → After h (to sc7 (set_y t v l))
  n_sc6 t v m = search arith

  pub n_sc7 : suc l.word < W → Before sc7 → After h (set_word (suc l.word) (to sc2 seen))
  n_sc7 e m = search arith

  pub n_sc7' : Before sc7 → After h (rest seen)
  n_sc7' m = search arith

  pub n_vl13 : Before vl13 → After h (rest l)
  n_vl13 m = search arith

  -- the starts
  pub n_wll : Before idle → After h (begin ll10 n h.successes l.offered l)
  n_wll m = search arith

  pub n_vl : l.mark ≡ true → Before idle → After h (begin vl13 n l.start_version l.offered l)
  n_vl e m = search arith

  pub n_sc : (w : ℕ → ℕ) → l.mark ≡ true → Before idle → After h (begin sc14 n l.start_version w l)
  n_sc w e m = search arith

-- the writes, and the others
module _ (M W n : ℕ) (h : Shared) where
  pub n_seg : (k t v : ℕ) (y : Point) (q : ℕ) (l : Local) → ProcessNumbers M W n y h q l → ProcessNumbers M W n y (w_seg k t v h) q l
  n_seg k t v y q l m = search

  pub n_seg_all : (k t v : ℕ) → SharedNumbers M W n h → SharedNumbers M W n (w_seg k t v h)
  n_seg_all k t v g = search

  pub n_row : (p k v : ℕ) (y : Point) (q : ℕ) (l : Local) → (q ≡ p → ⊥) → ProcessNumbers M W n y h q l → ProcessNumbers M W n y (w_row p k v h) q l
  n_row p k v y q l ne m =
      let e : (w_row p k v h).rows q ≡ h.rows q = upd_other h.rows p q (upd (h.rows p) k v) ne in
      let f = on_map (lines 9 9 y) {B = SamePart ((w_row p k v h).rows q) l.offered l.word} (λ d. rw e d) m.offered_part in
      let f' = on_map (lines 10 10 y) {B = SamePart ((w_row p k v h).rows q) l.offered W} (λ d. rw e d) m.offered_whole in
      search

  pub n_row_all : (p k v : ℕ) → SharedNumbers M W n h → SharedNumbers M W n (w_row p k v h)
  n_row_all p k v g = search

  -- a success: every version read is older than the new one
  pub n_header : (t p : ℕ) (w : ℕ → ℕ) (y : Point) (q : ℕ) (l : Local) → ProcessNumbers M W n y h q l → ProcessNumbers M W (suc n) y (w_header t p w n h) q l
  n_header t p w y q l m =
      let ne : l.read_version ≡ suc h.successes → ⊥ = λ z. let y = m.read_made in omega arith in
      let f1 = on_map (lines 0 4 y) {B = l.read_version ≡ suc h.successes → l.x_pid ≡ p} (λ _ z. absurd (ne z)) m.x_pid_is in
      let f2 = on_map (lines 9 10 y) {B = l.read_version ≡ suc h.successes → l.old_pid ≡ p} (λ _ z. absurd (ne z)) m.old_pid_is in
      let f3 = on_map (lines 11 15 y) {B = l.read_version < suc h.successes} (λ z. omega arith) m.won in
      let f4 = on_map (lines 11 15 y) {B = suc l.read_version ≡ suc h.successes → p ≡ q} (λ a z. absurd (omega arith)) m.won in
      let f5 = on_map (lines 5 15 y) {B = l.named ≡ true → l.read_version < suc h.successes} (λ a z. let b = a z in omega arith) m.named_old in
      let f6 = on_map (lines 0 4 y) {B = l.read_version < suc h.successes → l.key < n} (λ a z. m.key_past) m.ll_before_win in
      search arith

  pub n_header_all : (t p : ℕ) (w : ℕ → ℕ) → t ≡ suc h.successes % M → SharedNumbers M W n h → SharedNumbers M W (suc n) (w_header t p w n h)
  n_header_all t p w e g = search arith
