-- Every step keeps the invariants.
use mathlib.Core.Path.{◌≡◌, refl, subst, subst⁻¹}
use mathlib.Core.Bool.{true, false, cond}
use Prim.Native.Nat.{ℕ, suc, ◌+◌, ◌*◌, ◌%◌, ◌≤◌, ◌<◌}
use native.Mathlib.Nat.{mod-lt}
use native.Mathlib.Omega.{arith}
use lib.Dec.{ltb, eqb}
use borrow.Author.Tests.{ltb-true, ltb-false, eqb-true, eqb-false}
use Rattle.laws.proofs.Updates.{Split, same, other, split, by_test, contra}
use Rattle.linearization.proofs.GhostMachine.{Local, Shared, State, quiet, noisy, step, step_at, to, set_link_help}
use Rattle.linearization.proofs.GhostMachine.{set_link_bank, set_link_x, set_word, set_returned, w_help}
use Rattle.linearization.proofs.GhostMachine.{w_give, w_buf, w_end}
use Rattle.model.specs.Points.{Point, idle, line1, line2, line3, line4, line5, line6, line7, line7copy, line8, line9}
use Rattle.model.specs.Points.{line10, line11, line12, line12valid, line13, line14, line14valid, line15, line17, line18}
use Rattle.model.specs.Points.{line19, line23}
use Rattle.linearization.proofs.Invariants.{ProcessClauses, SharedClauses, Invariant, Got, later, later_g, quiet_inv, noisy_inv, others_end, all_end}
use Rattle.linearization.proofs.QuietSteps.{own_l2, own_l3, own_l3', own_l4, own_l4', own_l5, own_l6, own_l6'}
use Rattle.linearization.proofs.QuietSteps.{own_l7, own_l7', own_l7c, own_l7c', own_l8, own_l8', own_l9'}
use Rattle.linearization.proofs.QuietSteps.{own_l10, own_s12, own_s12', own_s12v, own_s12v', own_s13', own_s14}
use Rattle.linearization.proofs.QuietSteps.{own_s14', own_s14v, own_s14v', own_s15', own_s18, own_s19', own_v23}
use Rattle.linearization.proofs.HelpWrites.{others_l1, others_l9, own_l1, own_l9, all_l1, all_l9, t_s15, others_s15, own_s15, all_s15, own_of}
use Rattle.linearization.proofs.BankWrites.{others_s13, own_s13, all_s13}
use Rattle.linearization.proofs.BufferWrites.{others_buf, own_l11, own_l11', own_s17, own_s17', all_buf}
use Rattle.linearization.proofs.XWrites.{all_s19, own_s19, others_s19}

module _ (N W n : ℕ) (h_w : 0 < W) (s : State) (p : ℕ) (hp : p < N) (i : Invariant N W n s) where
  abbrev l : Local
  l = s.loc p

  abbrev h : Shared
  h = s.sh

  abbrev g : SharedClauses N W n h
  g = i.all

  -- a quiet step, from p's own facts after it
  q! : (k : Local) → ProcessClauses N W (suc n) k.point h p k → Invariant N W (suc n) (quiet s p k)
  q! k me = quiet_inv N W n s p k i me

  -- a run of words
  w! : (y z : Point) (k : Local) → (suc k.word < W → ProcessClauses N W (suc n) y h p (set_word (suc k.word) (to y k)))
      → (W ≤ suc k.word → ProcessClauses N W (suc n) z h p (set_word 0 (to z k)))
      → Invariant N W (suc n) (quiet s p (cond (ltb (suc k.word) W) (set_word (suc k.word) (to y k)) (set_word 0 (to z k))))
  w! y z k a b = by_test (λ m. Invariant N W (suc n) (quiet s p m)) (ltb (suc k.word) W) (λ e. q! _ (a (ltb-true _ _ e))) (λ e. q! _ (b (ltb-false _ _ e)))

  -- a word written
  b! : (v : ℕ) (k : Local) → h.holders (2 * N + p) ≡ l.mybuf → ProcessClauses N W (suc n) k.point (w_buf l.mybuf l.word v h) p k
      → Invariant N W (suc n) (noisy s p (w_buf l.mybuf l.word v h) (λ l. l) k)
  b! v k o me = noisy_inv N W n s p (w_buf l.mybuf l.word v h) (λ l. l) k i (all_buf N W n h p _ _ _ hp o g) me (λ q hq ne m. others_buf N W n h p _ _ _ q _ _ hp hq ne o g m)

  -- an answer that changes nothing shared
  e! : (k : Local) → ProcessClauses N W (suc n) k.point (w_end p l.link_x n h) p k → Invariant N W (suc n) (noisy s p (w_end p l.link_x n h) (λ l. l) k)
  e! k me = noisy_inv N W n s p _ (λ l. l) k i (all_end N W _ _ _ _ _ (later_g N W n h g)) me (λ q hq ne m. others_end N W _ p _ _ q _ _ _ ne (later N W n _ _ _ _ m))

  -- S15's others: the helped process, and the rest
  sort : (u : ℕ) → (p ≡ u → ⊥) → (q : ℕ) → (q ≡ p → ⊥) → h.flag u ≡ true → h.holders (2 * N + p) ≡ l.mybuf → l.read_version ≤ h.successes → l.checked_at < n
      → Got (h.buf l.mybuf) (h.values l.read_version) h.won_at h.successes W l.read_version l.checked_at (h.start u)
      → ProcessClauses N W n (s.loc q).point h q (s.loc q) → Split q u
      → ProcessClauses N W (suc n) (s.loc q).point (w_give (2 * N + p) (2 * N + u) u l.checked_at l.read_version (w_help u false l.mybuf h)) q (set_link_help u false (s.loc q))
  sort u pt q ne f o a b got k (same e) =
      subst⁻¹ (λ j. ProcessClauses N W (suc n) (s.loc j).point (w_give (2 * N + p) (2 * N + u) u l.checked_at l.read_version (w_help u false l.mybuf h)) j (set_link_help u false (s.loc j))) e
      (t_s15 N W n h p u pt _ _ _ _ _ o f a b got (rw e at k))
  sort u pt q ne f o a b got k (other nu) = others_s15 N W n h p u pt _ _ _ q _ _ ne nu k

  hu : l.copy_seq % N < N
  hu = mod-lt l.copy_seq (omega arith)

  go : (y : Point) → ProcessClauses N W n y h p l → Invariant N W (suc n) (step_at N W y n p s)
  unfolding step_at
  go idle m = record { all = later_g N W n h g; each = λ q hq. later N W n _ _ _ _ (i.each q hq) }
  go line1 m = noisy_inv N W n s p _ (set_link_help p false) _ i (all_l1 N W n h p _ _ g) (own_l1 N W n h p l m) (λ q hq ne k. others_l1 N W n h p _ q _ _ ne k)
  go line2 m = q! _ (own_l2 N W n h p l hp h_w g m)
  go line3 m = w! line3 line4 (set_returned l.word (h.buf l.copy_buf l.word) l) (λ e. own_l3 N W n h p l hp h_w g e m) (λ e. own_l3' N W n h p l hp h_w g e m)
  go line4 m = by_test (Invariant N W (suc n)) (h.flag p) (λ e. q! _ (own_l4 N W n h p l hp h_w g e m)) (λ e. q! _ (own_l4' N W n h p l hp h_w g e m))
  go line5 m = q! _ (own_l5 N W n h p l hp h_w g m)
  go line6 m = w! line6 line7 (set_returned l.word (h.buf l.copy_buf l.word) l) (λ e. own_l6 N W n h p l hp h_w g e m) (λ e. own_l6' N W n h p l hp h_w g e m)
  go line7 m = by_test (Invariant N W (suc n)) l.link_x (λ e. q! _ (own_l7 N W n h p l hp h_w g e m)) (λ e. q! _ (own_l7' N W n h p l hp h_w g e m))
  go line7copy m = w! line7copy line8 (set_returned l.word (h.buf l.b l.word) l) (λ e. own_l7c N W n h p l hp h_w g e m) (λ e. own_l7c' N W n h p l hp h_w g e m)
  go line8 m = by_test (Invariant N W (suc n)) (h.flag p) (λ e. q! _ (own_l8 N W n h p l hp h_w g e m)) (λ e. q! _ (own_l8' N W n h p l hp h_w g e m))
  go line9 m =
      by_test (Invariant N W (suc n)) (l.link_help p)
      (λ e. noisy_inv N W n s p _ (set_link_help p false) _ i (all_l9 N W n h p _ g) (own_l9 N W n h p l e m) (λ q hq ne k. others_l9 N W n h p _ q _ _ ne k))
      (λ e. q! _ (own_l9' N W n h p l hp h_w g e m))
  go line10 m = q! _ (own_l10 N W n h p l hp h_w g m)
  go line11 m =
      by_test (Invariant N W (suc n)) (ltb (suc l.word) W)
      (λ e. b! (l.returned l.word) _ m.owns_mybuf (own_l11 N W n h p l (ltb-true _ _ e) m))
      (λ e. noisy_inv N W n s p _ (λ l. l) _ i (all_end N W _ _ _ _ _ (all_buf N W n h p _ _ _ hp m.owns_mybuf g)) (own_l11' N W n h p l (ltb-false _ _ e) m)
      (λ q hq ne k. others_end N W _ p _ _ q _ _ _ ne (others_buf N W n h p _ _ _ q _ _ hp hq ne m.owns_mybuf g k)))
  go line12 m =
      by_test (Invariant N W (suc n)) (eqb (h.bank l.copy_seq) l.copy_buf)
      (λ e. q! _ (own_s12 N W n h p l hp h_w g (eqb-true _ _ e) m))
      (λ e. q! _ (own_s12' N W n h p l hp h_w g (eqb-false _ _ e) m))
  go line12valid m = by_test (Invariant N W (suc n)) l.link_x (λ e. q! _ (own_s12v N W n h p l hp h_w g e m)) (λ e. q! _ (own_s12v' N W n h p l hp h_w g e m))
  go line13 m =
      by_test (Invariant N W (suc n)) (l.link_bank l.copy_seq)
      (λ e.
      let z = m.linked_current (m.line13_valid e).one in let ei : l.copy_seq ≡ h.successes % (2 * N) = cc m.copy_seq_is in let eb : l.copy_buf ≡ h.buffers h.successes = cc m.copy_buf_is in
      noisy_inv N W n s p _ (set_link_bank l.copy_seq false) _ i (all_s13 N W n h (omega arith) _ _ ei eb g) (own_s13 N W n h (omega arith) _ _ ei eb p l m)
      (λ q hq ne k. others_s13 N W n h (omega arith) _ _ ei eb q _ _ k))
      (λ e. q! _ (own_s13' N W n h p l hp h_w g e m))
  go line14 m = by_test (Invariant N W (suc n)) (h.flag (l.copy_seq % N)) (λ e. q! _ (own_s14 N W n h p l hp h_w g e m)) (λ e. q! _ (own_s14' N W n h p l hp h_w g e m))
  go line14valid m = by_test (Invariant N W (suc n)) l.link_x (λ e. q! _ (own_s14v N W n h p l hp h_w g (i.each _ hu).start_past e m)) (λ e. q! _ (own_s14v' N W n h p l hp h_w g e m))
  go line15 m =
      by_test (Invariant N W (suc n)) (l.link_help (l.copy_seq % N))
      (λ e.
      let u = l.copy_seq % N in let v = m.offer_seen e in
      let pt : p ≡ u → ⊥ = λ z. contra v.flag (subst (λ n. h.flag n ≡ false) z m.asks_not) in
      let o = own_of N W n _ h u _ (i.each u hu) v.flag in
      let got : Got (h.buf l.mybuf) (h.values l.read_version) h.won_at h.successes W l.read_version l.checked_at (h.start u) =
      record { words = m.mybuf_read; inside = m.check_in_life; after = m.check_after_start e } in
      noisy_inv N W n s p _ (set_link_help u false) _ i (all_s15 N W n h p u pt _ _ _ hp hu g) (own_s15 N W n h p u pt _ _ _ l h_w refl o v.seen m)
      (λ q hq ne k. sort u pt q ne v.flag m.owns_mybuf m.read_made m.check_past got k (split q u)))
      (λ e. q! _ (own_s15' N W n h p l hp h_w g (i.each _ hu).asked_made e m))
  go line17 m =
      by_test (λ k. Invariant N W (suc n) (noisy s p (w_buf l.mybuf l.word (l.offered l.word) h) (λ l. l) k)) (ltb (suc l.word) W)
      (λ e. b! (l.offered l.word) _ m.owns_mybuf (own_s17 N W n h p l (ltb-true _ _ e) m))
      (λ e. b! (l.offered l.word) _ m.owns_mybuf (own_s17' N W n h p l (ltb-false _ _ e) m))
  go line18 m = q! _ (own_s18 N W n h p l hp h_w g m)
  go line19 m =
      by_test (Invariant N W (suc n)) l.link_x
      (λ e. noisy_inv N W n s p _ (set_link_x false) _ i (all_end N W _ _ _ _ _ (all_s19 N W n h p l hp e g m)) (own_s19 N W n h p l hp e g m)
      (λ q hq ne k. others_end N W _ p _ _ q _ _ _ ne (others_s19 N W n h p l hp e g m q _ _ hq ne k)))
      (λ e. e! _ (own_s19' N W n h p l hp h_w g e m))
  go line23 m = e! _ (own_v23 N W n h p l hp h_w g m)

  pub step_inv : Invariant N W (suc n) (step N W n p s)
  unfolding step
  step_inv = go l.point (i.each p hp)
