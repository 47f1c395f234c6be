-- Contents: the three writes of shared memory.
use mathlib.Core.Path.{◌≡◌, sym, ap, ◌∙◌}
use mathlib.Core.Bool.{false}
use mathlib.Core.Logic.{◌⊎◌, inl, inr}
use Prim.Native.Nat.{ℕ, suc, ◌%◌, ◌<◌}
use native.Mathlib.Omega.{arith}
use lib.Dec.{lit≤}
use Rattle.laws.proofs.Updates.{upd, upd_same, upd_other, Split, same, other, split, is_false}
use Rattle.laws.proofs.Parts.{SamePart}
use Rattle.laws.proofs.Claimed.{on_map, on_with}
use Rattle.laws.proofs.Residues.{suc_mod_ne}
use Rattle.moir_model.specs.Points.{Point, ll5, ll6, sc17, sc19, sc2, sc5, sc6}
use Rattle.moir_linearization.proofs.GhostMachine.{Local, Shared, prev, to, set_word, set_new, set_key, w_seg, w_row, w_header}
use Rattle.moir_linearization.proofs.PointRanges.{lines, wide}
use Rattle.moir_linearization.proofs.Numbers.{ProcessNumbers, SharedNumbers}
use Rattle.moir_linearization.proofs.Contents.{Fresh, Behind, AllFresh, Right, ProcessContents, SharedContents}
use Rattle.moir_linearization.proofs.Tags.{prev_next}

-- a CAS on a segment that is done (lines 5): the segment gets its word of the present version
module _ (M W n : ℕ) (h : Shared) (k t v : ℕ) (right : Right h k t v) where
  abbrev h5 : Shared
  h5 = w_seg k t v h

  -- fresh only grows between successes
  grows : (i : ℕ) → Fresh h i → Fresh h5 i
  grows i f = go (split i k)
    where
      go : Split i k → Fresh h5 i
      go (same e) = rw e (upd_same h.seg_tag k t ∙ right.tag)
      go (other ne) = upd_other h.seg_tag k i t ne ∙ f

  all_grow : (j : ℕ) → AllFresh h j → AllFresh h5 j
  all_grow j a i hi = grows i (a i hi)

  -- a segment that is still behind was not the one
  back : (i : ℕ) → Behind h5 i → Behind h i
  back i b f = b (grows i f)

  apart : (i : ℕ) → Behind h5 i → i ≡ k → ⊥
  apart i b e = b (rw e (upd_same h.seg_tag k t ∙ right.tag))

  kept : (i a b : ℕ) → Right h i a b → Right h5 i a b
  kept i a b r = record { tag = r.tag; val = r.val }

  pub c_seg : (y : Point) (q : ℕ) (l : Local) → ProcessContents M W n y h q l → ProcessContents M W n y h5 q l
  c_seg y q l m =
      let f1 = on_map (lines 5 15 y) {B = l.read_version ≡ h.successes → AllFresh h5 W} (λ a r. all_grow W (a r)) m.found_copied in
      let f2 = on_map (lines 0 4 y) {B = l.read_version ≡ h.successes → AllFresh h5 l.word} (λ a r. all_grow l.word (a r)) m.part_copied in
      let f3 = on_map (lines 3 4 y) {B = l.read_version ≡ h.successes → Fresh h5 l.word} (λ a r. grows l.word (a r)) m.place_copied in
      let f4 = on_map (lines 1 2 y) {B = l.read_version ≡ h.successes → Behind h5 l.word → l.y_val ≡ h5.seg_val l.word}
      (λ a r b. a r (back _ b) ∙ sym (upd_other h.seg_val k l.word v (apart _ b))) m.y_val_is in
      let f5 = on_map (lines 2 2 y) {B = l.read_version ≡ h.successes → Behind h5 l.word
      → Right h5 l.word l.z_tag l.z_val} (λ a r b. kept _ _ _ (a r (back _ b))) m.z_ll in
      let f6 = on_map (lines 13 13 y) {B = suc l.read_version ≡ h.successes → Behind h5 l.word
      → Right h5 l.word l.z_tag l.z_val} (λ a r b. kept _ _ _ (a r (back _ b))) m.z_sc in
      search

  pub c_seg_all : SharedContents M W n h → SharedContents M W n h5
  c_seg_all g = record {
    seg_tag_is = λ i hi. tags i hi (split i k);
    seg_val_is = λ i hi f. vals i hi f (split i k);
    row_val = λ i hi b. g.row_val i hi (back i b);
  }
    where
      tags : (i : ℕ) → i < W → Split i k → (h5.seg_tag i ≡ h.tag) ⊎ (h5.seg_tag i ≡ prev M h.tag)
      tags i hi (same e) = inl (rw e (upd_same h.seg_tag k t ∙ right.tag))
      tags i hi (other ne) = rw (upd_other h.seg_tag k i t ne) (g.seg_tag_is i hi)

      vals : (i : ℕ) → i < W → Fresh h5 i → Split i k → h5.seg_val i ≡ h.value i
      vals i hi f (same e) = rw e (upd_same h.seg_val k v ∙ right.val)
      vals i hi f (other ne) = upd_other h.seg_val k i v ne ∙ g.seg_val_is i hi (sym (upd_other h.seg_tag k i t ne) ∙ f)

  pub c_ll5 : (p : ℕ) (l : Local) → l.word ≡ k → ProcessContents M W n ll5 h p l → ProcessContents M W (suc n) ll6 h5 p (to ll6 l)
  c_ll5 p l e m =
      let z = c_seg ll5 p l m in
      let f : l.read_version ≡ h.successes → Fresh h5 l.word = λ _. rw e (upd_same h.seg_tag k t ∙ right.tag) in
      search

  pub c_sc5 : (p : ℕ) (l : Local) → ProcessContents M W n sc5 h p l → ProcessContents M W (suc n) sc6 h5 p (to sc6 l)
  c_sc5 p l m = let z = c_seg sc5 p l m in search

-- a word of A (line 17)
module _ (M W n : ℕ) (h : Shared) (p k v : ℕ) where
  pub c_row : (y : Point) (q : ℕ) (l : Local) → ProcessContents M W n y h q l → ProcessContents M W n y (w_row p k v h) q l
  c_row y q l m = record {
    unnamed = m.unnamed;
    own_read = m.own_read;
    found_copied = m.found_copied;
    part_copied = m.part_copied;
    place_copied = m.place_copied;
    y_val_is = m.y_val_is;
    z_ll = on_map (lines 2 2 y) (λ a r b. kept _ _ _ (a r b)) m.z_ll;
    z_sc = on_map (lines 13 13 y) (λ a r b. kept _ _ _ (a r b)) m.z_sc;
    y_value = m.y_value;
    returned_part = m.returned_part;
  }
    where
      kept : (i a b : ℕ) → Right h i a b → Right (w_row p k v h) i a b
      kept i a b r = record { tag = r.tag; val = r.val }

  -- the last writer found every segment copied before it writes again
  pub c_row_all : (l : Local) → ProcessContents M W n sc17 h p l → SharedContents M W n h → SharedContents M W n (w_row p k v h)
  c_row_all l m g = record { seg_tag_is = g.seg_tag_is; seg_val_is = g.seg_val_is; row_val = λ i hi b. go i hi b (split h.pid p) }
    where
      go : (i : ℕ) → i < W → Behind h i → Split h.pid p → (w_row p k v h).rows h.pid i ≡ h.value i
      go i hi b (same e) = absurd (b (m.found_copied (m.own_read e) i hi))
      go i hi b (other ne) = ap (λ f. f i) (upd_other h.rows p h.pid (upd (h.rows p) k v) ne) ∙ g.row_val i hi b

  pub c_sc17 : (l : Local) (j : ℕ) → ProcessContents M W n sc17 h p l → ProcessContents M W (suc n) sc17 (w_row p k v h) p (set_word j (to sc17 l))
  c_sc17 l j m = search

  pub c_sc17' : (l : Local) (t q : ℕ) → ProcessContents M W n sc17 h p l
      → ProcessContents M W (suc n) sc19 (w_row p k v h) p (set_word 0 (set_new t q (to sc19 l)))
  c_sc17' l t q m = search

-- a success (line 19)
module _ (M W n : ℕ) (h : Shared) (p : ℕ) (l : Local) (two : 1 < M) (gn : SharedNumbers M W n h)
    (a : ProcessNumbers M W n sc19 h p l) (r : l.read_version ≡ h.successes) where
  abbrev h19 : Shared
  h19 = w_header l.new_tag l.new_pid l.offered n h

  tag19 : l.new_tag ≡ suc h.successes % M
  tag19 = a.new_tag_is ∙ ap (λ v. suc v % M) r

  pub c_sc19 : ProcessContents M W n sc19 h p l → ProcessContents M W (suc n) sc2 h19 p (set_key n (to sc2 l))
  c_sc19 m = let u : l.named ≡ false = is_false _ (λ x. let z = a.named_old x in omega arith)
      in let f : l.read_version ≡ suc h.successes → AllFresh h19 W = λ z. absurd (omega arith) in search

  pub c_header : (y : Point) (q : ℕ) (c : Local) → (q ≡ p → ⊥) → ProcessNumbers M W n y h q c
      → ProcessContents M W n y h q c → ProcessContents M W (suc n) y h19 q c
  c_header y q c np b m =
      let ne : c.read_version ≡ suc h.successes → ⊥ = λ z. let y = b.read_made in omega arith in
      let f0 = on_map (lines 9 10 y) {B = l.new_pid ≡ q → c.read_version ≡ suc h.successes} (λ _ z. absurd (np (sym z ∙ a.new_pid_is))) m.own_read in
      let f1 = on_map (lines 5 15 y) {B = c.read_version ≡ suc h.successes → AllFresh h19 W} (λ _ z. absurd (ne z)) m.found_copied in
      let f2 = on_map (lines 0 4 y) {B = c.read_version ≡ suc h.successes → AllFresh h19 c.word} (λ _ z. absurd (ne z)) m.part_copied in
      let f3 = on_map (lines 3 4 y) {B = c.read_version ≡ suc h.successes → Fresh h19 c.word} (λ _ z. absurd (ne z)) m.place_copied in
      let f4 = on_map (lines 1 2 y) {B = c.read_version ≡ suc h.successes → Behind h19 c.word
      → c.y_val ≡ h.seg_val c.word} (λ _ z. absurd (ne z)) m.y_val_is in
      let f5 = on_map (lines 2 2 y) {B = c.read_version ≡ suc h.successes → Behind h19 c.word
      → Right h19 c.word c.z_tag c.z_val} (λ _ z. absurd (ne z)) m.z_ll in
      let f6 = on_with (lines 13 13 y) (lines 11 15 y)
      {A' = suc c.read_version ≡ suc h.successes → Behind h19 c.word
      → Right h19 c.word c.z_tag c.z_val}
      (wide 13 13 11 15 y (lit≤ tt) (lit≤ tt)) (λ w _ z. absurd (omega arith)) b.won m.z_sc in
      let f7 = on_map (lines 4 4 y) {B = c.read_version ≡ suc h.successes → c.y_val ≡ l.offered c.word} (λ _ z. absurd (ne z)) m.y_value in
      let f8 = on_map (lines 0 4 y) {B = c.read_version ≡ suc h.successes → SamePart c.returned l.offered
      c.word} (λ _ z. absurd (ne z)) m.returned_part in
      search

  pub c_header_all : ProcessContents M W n sc19 h p l → SharedContents M W n h → SharedContents M W (suc n) h19
  c_header_all m g = record {
    seg_tag_is = λ i hi. inr (old i hi ∙ sym (ap (prev M) tag19 ∙ prev_next M two h.successes));
    seg_val_is = λ i hi f. absurd (suc_mod_ne M h.successes two (sym (sym (old i hi) ∙ f ∙ tag19)));
    row_val = λ i hi b. ap (λ q. h.rows q i) a.new_pid_is ∙ a.offered_whole i hi;
  }
    where
      -- every segment holds the version before
      old : (i : ℕ) → i < W → h.seg_tag i ≡ h.successes % M
      old i hi = m.found_copied r i hi ∙ gn.header_tag
