-- The three writes of Help (L1, Withdrawing, S15).
use mathlib.Core.Path.{◌≡◌, sym, ◌∙◌}
use mathlib.Core.Bool.{Bool, true, false}
use Prim.Native.Nat.{ℕ, suc, ◌+◌, ◌*◌, ◌%◌, ◌≤◌, ◌<◌}
use native.Mathlib.Nat.{mod-lt}
use native.Mathlib.Omega.{arith}
use lib.Dec.{lit≤}
use Rattle.laws.proofs.Updates.{upd, upd_same, upd_other, Split, same, other, split, contra, is_true, swap, swap_l, swap_r, swap_o, swap_inj}
use Rattle.linearization.proofs.GhostMachine.{Local, Shared, to}
use Rattle.linearization.proofs.GhostMachine.{set_link_help, set_mybuf}
use Rattle.linearization.proofs.GhostMachine.{w_help, w_asked, w_give}
use Rattle.model.specs.Points.{Point, line1, line2, line9}
use Rattle.model.specs.Points.{line10, line15, line17}
use Rattle.laws.proofs.Claimed.{on_map, on_no, on_get, on_with}
use Rattle.linearization.proofs.Invariants.{later_g, lines, wide, above}
use Rattle.linearization.proofs.Invariants.{apart, ProcessClauses, SharedClauses, Withdrawing}
use Rattle.laws.proofs.Parts.{SamePart}
use Rattle.linearization.proofs.Invariants.{H6, H7, H8, H9, Both, Got, D6}
use Rattle.laws.proofs.Parts.{pre_none}

-- what a write of Help[i], which clears the links to it, leaves of the facts on the process t that q would help
pub kept_link : (lb : ℕ → Bool) (i j : ℕ) → upd lb i false j ≡ true → (lb j ≡ true) × (j ≡ i → ⊥)
kept_link lb i j x = go (split j i)
  where
    go : Split j i → (lb j ≡ true) × (j ≡ i → ⊥)
    go (same e) = absurd (contra x (rw e (upd_same lb i false)))
    go (other ne) = (rw (upd_other lb i j false ne) at x, ne)

module _ (h : Shared) (i v t : ℕ) (f : Bool) (lh : ℕ → Bool) where
  h6_lasts : (d : ℕ) → H6 h t (lh t) d → H6 (w_help i f v h) t (upd lh i false t) d
  h6_lasts d m x = let k = kept_link lh i t x in rw (upd_other h.flag i t f k.1, upd_other h.help_buf i t v k.1) (m k.0)

  d5s_lasts : (u : ℕ) → (lh t ≡ true → h.start t < u) → upd lh i false t ≡ true → h.start t < u
  d5s_lasts u m x = m (kept_link lh i t x).0

-- the flag goes down
module _ (h : Shared) (i v t : ℕ) (lh : ℕ → Bool) where
  h7_down : (x : Bool) → H7 h t x (lh t) → H7 (w_help i false v h) t x (upd lh i false t)
  h7_down x m a b c = go (split t i)
    where
      go : Split t i → upd lh i false t ≡ true
      go (same e) = absurd (contra b (rw e (upd_same h.flag i false)))
      go (other ne) = rw (upd_other lh i t false ne) (m a (rw (upd_other h.flag i t false ne) at b) c)

  h8_down : (x : Bool) → H8 h t x → H8 (w_help i false v h) t x
  h8_down x m a b = go (split t i)
    where
      go : Split t i → h.asked t ≡ h.successes
      go (same e) = absurd (contra b (rw e (upd_same h.flag i false)))
      go (other ne) = m a (rw (upd_other h.flag i t false ne) at b)

-- the flag goes up, and a is S
module _ (h : Shared) (i v t : ℕ) (lh : ℕ → Bool) where
  h7_up : (x : Bool) → H7 h t x (lh t) → H7 (w_asked i h.successes (w_help i true v h)) t x (upd lh i false t)
  h7_up x m a b c = go (split t i)
    where
      go : Split t i → upd lh i false t ≡ true
      go (same e) = absurd (let z : upd h.asked i h.successes t ≡ h.successes = rw e (upd_same h.asked i h.successes) in omega arith)
      go (other ne) = rw (upd_other lh i t false ne) (m a (rw (upd_other h.flag i t true ne) at b) (rw (upd_other h.asked i t h.successes ne) at c))

  h8_up : (x : Bool) → H8 h t x → H8 (w_asked i h.successes (w_help i true v h)) t x
  h8_up x m a b = go (split t i)
    where
      go : Split t i → upd h.asked i h.successes t ≡ h.successes
      go (same e) = rw e (upd_same h.asked i h.successes)
      go (other ne) = upd_other h.asked i t h.successes ne ∙ m a (rw (upd_other h.flag i t true ne) at b)

module _ (N W n : ℕ) (h : Shared) (p : ℕ) where
  -- L1 by p
  pub others_l1 : (v q : ℕ) (y : Point) (l : Local) → (q ≡ p → ⊥) → ProcessClauses N W n y h q l
      → ProcessClauses N W (suc n) y (w_asked p h.successes (w_help p true v h)) q (set_link_help p false l)
  others_l1 v q y l ne m =
      let f6 = on_map (lines 18 19 y) (h6_lasts h p v (l.copy_seq % N) true l.link_help l.d) m.offer_seen in
      let f7 = on_map (lines 18 19 y) (h7_up h p v (l.copy_seq % N) l.link_help l.link_x) m.offer_open in
      let f8 = on_map (lines 20 22 y) (h8_up h p v (l.copy_seq % N) l.link_help l.link_x) m.asked_now in
      let f5 = on_map (lines 19 19 y) (d5s_lasts h p v (l.copy_seq % N) true l.link_help l.checked_at) m.check_after_start in
      search (arith, upd_other)

  -- Withdrawing by p, linked
  pub others_l9 : (v q : ℕ) (y : Point) (l : Local) → (q ≡ p → ⊥) → ProcessClauses N W n y h q l → ProcessClauses N W (suc n) y (w_help p false v h) q (set_link_help p false l)
  others_l9 v q y l ne m =
      let f6 = on_map (lines 18 19 y) (h6_lasts h p v (l.copy_seq % N) false l.link_help l.d) m.offer_seen in
      let f7 = on_map (lines 18 19 y) (h7_down h p v (l.copy_seq % N) l.link_help l.link_x) m.offer_open in
      let f8 = on_map (lines 20 22 y) (h8_down h p v (l.copy_seq % N) l.link_help l.link_x) m.asked_now in
      let f5 = on_map (lines 19 19 y) (d5s_lasts h p v (l.copy_seq % N) false l.link_help l.checked_at) m.check_after_start in
      search (arith, upd_other)

  pub own_l1 : (l : Local) → ProcessClauses N W n line1 h p l → ProcessClauses N W (suc n) line2 (w_asked p h.successes (w_help p true l.mybuf h)) p (to line2 (set_link_help p false l))
  own_l1 l m =
      let z = upd_same h.asked p h.successes in
      let f : H9 N (w_asked p h.successes (w_help p true l.mybuf h)) p = λ _ s x y. absurd (omega arith) in
      let d : D6 (w_asked p h.successes (w_help p true l.mybuf h)) W p = λ x. absurd (contra (upd_same h.flag p true) x) in
      search (arith, upd_same)

  pub own_l9 : (l : Local) → l.link_help p ≡ true → ProcessClauses N W n line9 h p l → ProcessClauses N W (suc n) line10 (w_help p false l.c h) p (to line10 (set_link_help p false l))
  own_l9 l e m = let z = m.withdraws.flag e in let o : h.holders (2 * N + p) ≡ l.c = m.owns_help ∙ sym (m.withdraws.seen z) in search (arith, upd_same)

  pub all_l1 : (u v : ℕ) → SharedClauses N W n h → SharedClauses N W (suc n) (w_asked p u (w_help p true v h))
  all_l1 u v g = let z = later_g N W n h g in search

  pub all_l9 : (v : ℕ) → SharedClauses N W n h → SharedClauses N W (suc n) (w_help p false v h)
  all_l9 v g = let z = later_g N W n h g in search

-- S15 by p, linked, for t = xs mod N
pub ann_of : (N W n : ℕ) (y : Point) (h : Shared) (q : ℕ) (l : Local) → ProcessClauses N W n y h q l → h.flag q ≡ true → lines 0 8 y ≡ true
ann_of N W n y h q l m e = is_true _ (λ z. contra e (on_get (lines 9 22 y) _ (above 8 y z) m.asks_not))

-- a helped process's buffer: its flag is 1, so it stands in L2 .. Withdrawing
pub own_of : (N W n : ℕ) (y : Point) (h : Shared) (q : ℕ) (l : Local) → ProcessClauses N W n y h q l → h.flag q ≡ true → h.holders (2 * N + q) ≡ h.help_buf q
own_of N W n y h q l m e = on_get (lines 0 9 y) _ (wide 0 8 0 9 y (lit≤ tt) (lit≤ tt) (ann_of N W n y h q l m e)) m.owns_help

module _ (N W n : ℕ) (h : Shared) (p t : ℕ) (pt : p ≡ t → ⊥) (v u w : ℕ) where
  abbrev h15 : Shared
  h15 = w_give (2 * N + p) (2 * N + t) t u w (w_help t false v h)

  -- the helped process itself
  pub t_s15 : (y : Point) (l : Local) → h.holders (2 * N + p) ≡ v → h.flag t ≡ true → w ≤ h.successes → u < n
      → Got (h.buf v) (h.values w) h.won_at h.successes W w u (h.start t) → ProcessClauses N W n y h t l → ProcessClauses N W (suc n) y h15 t (set_link_help t false l)
  t_s15 y l e f lw lu got m =
      let z = upd_same h.flag t false in
      let no : upd h.flag t false t ≡ true → ⊥ = λ x. contra x z in
      let a = ann_of N W n y h t l m f in
      let bad : Both (h.flag t ≡ false) (l.b ≡ h.help_buf t) → ⊥ = λ x. contra f x.one in
      let e1 = upd_same h.help_version t w in let e2 = upd_same h.help_moment t u in let e3 = upd_same h.help_buf t v in
      let f1 = on_map (lines 0 8 y) {B = upd h.flag t false t ≡ true → upd h.help_buf t v t ≡ l.mybuf} (λ _ x. absurd (no x)) m.asks_own in
      let f2 = on_map (lines 9 22 y) {B = upd h.flag t false t ≡ false} (λ _. z) m.asks_not in
      let f3 = on_map (lines 3 6 y) {B = Both (upd h.flag t false t ≡ false) (l.b ≡ upd h.help_buf t v t)} (λ x. absurd (bad x)) m.handed in
      let f5 =
      on_map (lines 8 8 y) {B = Withdrawing (upd h.flag t false t) (upd h.help_buf t v t) (upd l.link_help t false t) l.c}
      (λ _. record { linked = λ x. absurd (no x); flag = λ x. absurd (contra x (upd_same l.link_help t false)); seen = λ x. absurd (no x) }) m.withdraws in
      let f6 = on_map (lines 18 19 y) (h6_lasts h t v (l.copy_seq % N) false l.link_help l.d) m.offer_seen in
      let f7 = on_map (lines 18 19 y) (h7_down h t v (l.copy_seq % N) l.link_help l.link_x) m.offer_open in
      let f8 = on_map (lines 20 22 y) (h8_down h t v (l.copy_seq % N) l.link_help l.link_x) m.asked_now in
      let fs = on_map (lines 19 19 y) (d5s_lasts h t v (l.copy_seq % N) false l.link_help l.checked_at) m.check_after_start in
      let f9 = on_map (lines 0 8 y) {B = H9 N h15 t} (λ _ x. absurd (no x)) m.not_passed in
      let oh = on_map (lines 0 9 y) {B = swap h.holders (2 * N + p) (2 * N + t) (2 * N + t) ≡ upd h.help_buf t v t} (λ _. swap_r _ _ _ ∙ e ∙ sym e3) m.owns_help in
      let om = on_no (lines 10 22 y) (swap h.holders (2 * N + p) (2 * N + t) (2 * N + t) ≡ l.mybuf) (apart 0 8 10 22 y (lit≤ tt) a) in
      let g6 = on_map (lines 0 6 y) {B = D6 h15 W t} (λ _ _. rw (e1, e2, e3) got) m.handed_value in
      let g7 = on_map (lines 1 1 y) {B = upd h.flag t false t ≡ true → SamePart l.returned (h.values l.read_version) l.word} (λ _ x. absurd (no x)) m.read_part in
      let g7f = on_map (lines 2 2 y) {B = upd h.flag t false t ≡ true → SamePart l.returned (h.values l.read_version) W} (λ _ x. absurd (no x)) m.read_whole in
      let g8 =
      on_with (lines 4 5 y) (lines 3 6 y) {A' = upd h.help_version t w t ≤ l.read_version} (wide 4 5 3 6 y (lit≤ tt) (lit≤ tt)) (λ x _. absurd (bad x))
      m.handed m.handed_before_reread in
      let g9 = on_with (lines 6 6 y) (lines 3 6 y) {A' = l.version ≡ upd h.help_version t w t} (wide 6 6 3 6 y (lit≤ tt) (lit≤ tt)) (λ x _. absurd (bad x)) m.handed m.copied_version in
      search arith

  pub others_s15 : (q : ℕ) (y : Point) (l : Local) → (q ≡ p → ⊥) → (q ≡ t → ⊥) → ProcessClauses N W n y h q l → ProcessClauses N W (suc n) y h15 q (set_link_help t false l)
  others_s15 q y l np nt m =
      let f6 = on_map (lines 18 19 y) (h6_lasts h t v (l.copy_seq % N) false l.link_help l.d) m.offer_seen in
      let f7 = on_map (lines 18 19 y) (h7_down h t v (l.copy_seq % N) l.link_help l.link_x) m.offer_open in
      let f8 = on_map (lines 20 22 y) (h8_down h t v (l.copy_seq % N) l.link_help l.link_x) m.asked_now in
      let fs = on_map (lines 19 19 y) (d5s_lasts h t v (l.copy_seq % N) false l.link_help l.checked_at) m.check_after_start in
      let o : swap h.holders (2 * N + p) (2 * N + t) (2 * N + q) ≡ h.holders (2 * N + q) = swap_o _ _ _ _ (λ z. np (omega arith)) (λ z. nt (omega arith)) in
      let e1 = upd_other h.help_moment t q u nt in let a1 = m.help_past in let a2 = m.start_past in
      search (arith, upd_other, o)

  pub own_s15 : (l : Local) → 0 < W → t ≡ l.copy_seq % N → h.holders (2 * N + t) ≡ h.help_buf t → l.d ≡ h.help_buf t → ProcessClauses N W n line15 h p l
      → ProcessClauses N W (suc n) line17 h15 p (to line17 (set_mybuf l.d (set_link_help t false l)))
  own_s15 l h_w et e d m =
      let o : swap h.holders (2 * N + p) (2 * N + t) (2 * N + p) ≡ l.d = swap_l _ _ _ ∙ e ∙ sym d in
      let f : SamePart (h.buf l.d) l.offered l.word = pre_none _ _ _ m.no_run in
      let k : l.word < W = let z = m.no_run in omega arith in
      let f8 : H8 h15 (l.copy_seq % N) l.link_x = λ _ x. absurd (contra x (rw (← et) (upd_same h.flag t false))) in
      let e1 = upd_other h.help_moment t p u pt in let a1 = m.help_past in let a2 = m.start_past in
      search (arith, upd_other)

  pub all_s15 : p < N → t < N → SharedClauses N W n h → SharedClauses N W (suc n) h15
  all_s15 hp ht g =
      record {
        x_seq = g.x_seq;
        x_buf = g.x_buf;
        recent_values = g.recent_values;
        last_success_past = (later_g N W n h g).last_success_past;
        successes_past = (later_g N W n h g).successes_past;
        holders_differ = swap_inj h.holders (2 * N + p) (2 * N + t) (2 * N + N) (omega arith) (omega arith) g.holders_differ;
        kept = λ j hj. out j hj ∙ g.kept j hj;
        recent_held = λ i a b. g.recent_held i a b ∙ sym (out (i % (2 * N)) (mod-lt i (omega arith)));
      }
    where
      out : (j : ℕ) → j < 2 * N → swap h.holders (2 * N + p) (2 * N + t) j ≡ h.holders j
      out j hj = swap_o _ _ _ _ (λ z. omega arith) (λ z. omega arith)
