-- The write of X (S19).
use mathlib.Core.Path.{◌≡◌, refl, sym, ap, ◌∙◌}
use mathlib.Core.Bool.{Bool, true, false, cond}
use Prim.Native.Nat.{ℕ, suc, ◌+◌, ◌*◌, ◌%◌, ◌≤◌, ◌<◌}
use native.Mathlib.Nat.{suc-mod, mod-lt}
use Rattle.laws.proofs.Residues.{mod_ne, suc_mod_ne, mod_2_n}
use native.Mathlib.Omega.{arith}
use lib.Dec.{eqb}
use Rattle.laws.proofs.Updates.{upd, upd_same, upd_other, Split, same, other, split, contra, swap, swap_l, swap_r, swap_o, swap_inj, ifb_eq, ifb_ne}
use Rattle.linearization.proofs.GhostMachine.{Local, Shared}
use Rattle.linearization.proofs.GhostMachine.{set_mybuf}
use Rattle.linearization.proofs.GhostMachine.{rest, w_x, w_end}
use Rattle.linearization.proofs.GhostMachine.{set_link_x}
use Rattle.model.specs.Points.{Point, idle}
use Rattle.model.specs.Points.{line19}
use Rattle.laws.proofs.Claimed.{on_map}
use Rattle.linearization.proofs.Invariants.{lines}
use Rattle.linearization.proofs.Invariants.{ProcessClauses, SharedClauses}
use Rattle.laws.proofs.Parts.{SamePart}
use Rattle.linearization.proofs.Invariants.{K2, K3, H7, H8, H9, K4x, Within, D6}

module _ (N W n : ℕ) (h : Shared) (p : ℕ) (l : Local) (hp : p < N) (lx : l.link_x ≡ true) (g : SharedClauses N W n h) (m : ProcessClauses N W n line19 h p l) where
  -- the sequence number that this success writes, its own number, and the values with its words
  abbrev next_seq : ℕ
  next_seq = suc l.copy_seq % (2 * N)

  abbrev this : ℕ
  this = suc h.successes

  abbrev values' : ℕ → ℕ → ℕ
  values' = upd h.values this l.offered

  next : next_seq ≡ this % (2 * N)
  next = let z = m.linked_current lx in cc (suc-mod h.successes (2 * N), m.copy_seq_is)

  abbrev pub h19 : Shared
  h19 = w_x l.mybuf next_seq l.offered n next_seq (2 * N + p) h

  low : next_seq < 2 * N
  low = mod-lt (suc l.copy_seq) (omega arith)

  full : h.bank (h.successes % (2 * N)) ≡ h.buffers h.successes
  full = m.bank_current lx

  -- the process that was to be helped before this success
  mine : l.copy_seq % N ≡ h.successes % N
  mine = let z = m.linked_current lx in cc (mod_2_n N h.successes, m.copy_seq_is)

  moved : next_seq ≡ h.xseq → ⊥
  moved z = suc_mod_ne (2 * N) h.successes (omega arith) (sym next ∙ z ∙ g.x_seq)

  pub all_s19 : SharedClauses N W (suc n) h19
  all_s19 = record {
    x_seq = next;
    x_buf = sym (upd_same h.buffers this l.mybuf);
    last_success_past = rw (upd_same h.won_at this n) (omega arith);
    successes_past = λ j x. ta j x (split j this);
    holders_differ = swap_inj h.holders next_seq (2 * N + p) (2 * N + N) (let z = low in omega arith) (omega arith) g.holders_differ;
    kept = λ j hj. kp j hj (split j next_seq);
    recent_held = λ i a b. wn i a b (split i this);
    recent_values = λ i a b. dd i a b (split i this);
  }
    where
      ta : (j : ℕ) → j ≤ this → Split j this → upd h.won_at this n j < suc n
      ta j x (same e) = rw e (rw (upd_same h.won_at this n) (omega arith))
      ta j x (other ne) = rw (upd_other h.won_at this j n ne) (let z = g.successes_past j (omega arith) in omega arith)

      bk : (j : ℕ) → Split j h.xseq → cond (eqb j h.xseq) h.xbuf (h.bank j) ≡ h.bank j
      bk j (same e) = ifb_eq j h.xseq _ _ e ∙ (let z = g.x_seq in let y = g.x_buf in let x = full in cc)
      bk j (other ne) = ifb_ne j h.xseq _ _ ne

      kp : (j : ℕ) → j < 2 * N → Split j next_seq → swap h.holders next_seq (2 * N + p) j ≡ cond (eqb j next_seq) l.mybuf (h.bank j)
      kp j hj (same e) = rw e (swap_l _ _ _ ∙ m.owns_mybuf ∙ sym (ifb_eq next_seq _ l.mybuf (h.bank next_seq) refl))
      kp j hj (other ne) = swap_o _ _ _ _ ne (λ z. omega arith) ∙ g.kept j hj ∙ bk j (split j h.xseq) ∙ sym (ifb_ne j _ _ _ ne)

      wn : (i : ℕ) → i ≤ this → this < i + 2 * N → Split i this
          → upd h.buffers this l.mybuf i ≡ swap h.holders next_seq (2 * N + p) (i % (2 * N))
      wn i a b (same e) = rw e (upd_same _ _ _ ∙ sym m.owns_mybuf ∙ sym (swap_l _ _ _) ∙ ap (swap h.holders next_seq (2 * N + p)) next)
      wn i a b (other ne) =
          upd_other h.buffers _ i _ ne ∙ g.recent_held i (omega arith) (omega arith)
          ∙ sym (swap_o h.holders _ _ _ (λ z. mod_ne (2 * N) i this (omega arith) b (z ∙ next)) (λ z. let y = mod-lt i {m = 2 * N} (omega arith) in omega arith))

      dd : (i : ℕ) → i ≤ this → this < i + 2 * N → Split i this
          → SamePart (h.buf (upd h.buffers this l.mybuf i)) (values' i) W
      dd i a b (same e) = rw e (rw (upd_same h.buffers this l.mybuf, upd_same h.values this l.offered) m.offered_whole)
      dd i a b (other ne) = rw (upd_other h.buffers this i l.mybuf ne, upd_other h.values this i l.offered ne) (g.recent_values i (omega arith) (omega arith))

  -- an old life is left as it was, and the present one ends now
  within19 : (t i : ℕ) → i ≤ h.successes → t < n → Within h t i → Within h19 t i
  within19 t i a b w = record { one = rw (upd_other h.won_at this i n (λ z. omega arith)) w.one; two = λ x. go (split i h.successes) }
    where
      go : Split i h.successes → t < upd h.won_at this n (suc i)
      go (same e) = rw e (rw (upd_same h.won_at this n) b)
      go (other ne) = rw (upd_other h.won_at this (suc i) n (λ z. ne (omega arith))) (w.two (omega arith))

  pub own_s19 : ProcessClauses N W (suc n) idle (w_end p false n h19) p (rest l.answered (set_mybuf l.e (set_link_x false l)))
  own_s19 =
      let ne : l.read_version ≡ this → ⊥ = λ z. let y = m.read_made in omega arith in
      let f : l.copy_buf ≡ upd h.buffers this l.mybuf l.read_version = m.copy_buf_is ∙ sym (upd_other _ _ _ _ ne) in
      let o : swap h.holders next_seq (2 * N + p) (2 * N + p) ≡ l.e = swap_r _ _ _ ∙ g.kept _ low ∙ ifb_ne _ _ _ _ moved ∙ ap h.bank next ∙ sym (m.next_bank lx) in
      let v : false ≡ true → l.read_version ≡ this = λ x. absurd (contra x refl) in
      let c : l.answered ≡ true → l.read_version ≡ this → false ≡ true = λ _ z. absurd (ne z) in
      let e1 = upd_same h.last_moment p n in let e2 = upd_same (λ (q : ℕ). false) p false in
      let d : false ≡ true → SamePart (h.buf l.e) (values' l.read_version) W = λ x. absurd (contra x refl) in
      search arith

  pub others_s19 : (q : ℕ) (y : Point) (k : Local) → q < N → (q ≡ p → ⊥) → ProcessClauses N W n y h q k → ProcessClauses N W (suc n) y h19 q (set_link_x false k)
  others_s19 q y k hq np i =
      let ne : k.read_version ≡ this → ⊥ = λ z. let y = i.read_made in omega arith in
      let f : k.copy_buf ≡ upd h.buffers this l.mybuf k.read_version = i.copy_buf_is ∙ sym (upd_other _ _ _ _ ne) in
      let no : false ≡ true → ⊥ = λ x. contra x refl in
      let o : swap h.holders next_seq (2 * N + p) (2 * N + q) ≡ h.holders (2 * N + q) = swap_o _ _ _ _ (λ z. let y = low in omega arith) (λ z. np (omega arith)) in
      let v : false ≡ true → k.read_version ≡ this = λ x. absurd (no x) in
      let served_link_is = on_map (lines 11 22 y) {B = ◌≡◌ {A = Bool} false false} (λ _. refl) i.served_link_is in
      let current_linked = on_map (lines 1 10 y) {B = k.read_version ≡ this → false ≡ true} (λ _ z. absurd (ne z)) i.current_linked in
      let answered_linked : k.answered ≡ true → k.read_version ≡ this → false ≡ true = λ _ z. absurd (ne z) in
      let read_in_life = on_map (lines 1 5 y) (within19 k.read_at k.read_version i.read_made i.read_past) i.read_in_life in
      let offer_open = on_map (lines 18 19 y) {B = H7 h19 (k.copy_seq % N) false (k.link_help (k.copy_seq % N))} (λ _ x. absurd (no x)) i.offer_open in
      let asked_now = on_map (lines 20 22 y) {B = H8 h19 (k.copy_seq % N) false} (λ _ x. absurd (no x)) i.asked_now in
      let not_passed = on_map (lines 0 8 y) {B = H9 N h19 q} (λ j x s a b e. near j x s a b e (split s h.successes)) i.not_passed in
      let f2 = on_map (lines 17 22 y) {B = K2 N h19 false} (λ _ x. absurd (no x)) i.bank_current in
      let f3 = on_map (lines 15 16 y) {B = K3 N h19 false (k.link_bank k.copy_seq)} (λ _ x z. absurd (no x)) i.bank_or_link in
      let f4x = on_map (lines 16 16 y) {B = K4x h19 k.copy_seq k.copy_buf (k.link_bank k.copy_seq) false}
      (λ u x. absurd ((u x).two (let z = i.linked_current (u x).one in let w = full in cc (i.copy_seq_is, i.copy_buf_is)))) i.line13_valid in
      let f5 = on_map (lines 22 22 y) {B = false ≡ true → k.e ≡ h.bank (suc this % (2 * N))} (λ _ x. absurd (no x)) i.next_bank in
      let e_r = upd_other h.values this k.read_version l.offered ne in
      let e_v = upd_other h.values this k.version l.offered (λ z. let y = i.version_made in omega arith) in
      let e_h = upd_other h.values this (h.help_version q) l.offered (λ z. let y = i.help_version_made in omega arith) in
      let mybuf_current = on_map (lines 12 18 y) {B = false ≡ true → SamePart (h.buf k.mybuf) (values' k.read_version) W} (λ _ x. absurd (no x)) i.mybuf_current in
      let check_in_life = on_map (lines 19 19 y) (within19 k.checked_at k.read_version i.read_made i.check_past) i.check_in_life in
      let handed_value =
      on_map (lines 0 6 y) {B = D6 h19 W q} (λ d x. record {
        words = rw e_h (d x).words;
        inside = within19 (h.help_moment q) (h.help_version q) i.help_version_made i.help_past (d x).inside;
        after = (d x).after;
      }) i.handed_value in
      let reread_part = on_map (lines 4 4 y) {B = false ≡ true → SamePart k.returned (values' k.read_version) k.word} (λ _ x. absurd (no x)) i.reread_part in
      let reread_whole = on_map (lines 5 5 y) {B = false ≡ true → SamePart k.returned (values' k.read_version) W} (λ _ x. absurd (no x)) i.reread_whole in
      let moment_in_life = on_map (lines 6 10 y) (within19 k.moment k.version i.version_made i.moment_past) i.moment_in_life in
      let linked_answer = on_map (lines 6 10 y) {B = false ≡ true → k.version ≡ this} (λ _ x. absurd (no x)) i.linked_answer in
      let current_answer = on_map (lines 6 10 y) {B = k.version ≡ this → false ≡ true} (λ _ z. absurd (let y = i.version_made in omega arith)) i.current_answer in
      let mybuf_read = on_map (lines 19 19 y) {B = SamePart (h.buf k.mybuf) (values' k.read_version) W} (λ d. rw e_r d) i.mybuf_read in
      let read_part = on_map (lines 1 1 y) {B = h.flag q ≡ true → SamePart k.returned (values' k.read_version) k.word} (λ d x. rw e_r (d x)) i.read_part in
      let read_whole = on_map (lines 2 2 y) {B = h.flag q ≡ true → SamePart k.returned (values' k.read_version) W} (λ d x. rw e_r (d x)) i.read_whole in
      let copied_part = on_map (lines 6 6 y) {B = SamePart k.returned (values' k.version) k.word} (λ d. rw e_v d) i.copied_part in
      let answer_value = on_map (lines 7 10 y) {B = SamePart k.returned (values' k.version) W} (λ d. rw e_v d) i.answer_value in
      search (arith, o)
    where
      near : H9 N h q → h.flag q ≡ true → (s : ℕ) → h.asked q < s → s < this → s % N ≡ q → Split s h.successes → ⊥
      near j x s a b e (same z) =
          let w : l.copy_seq % N ≡ q = mine ∙ ap (◌% N) (sym z) ∙ e in
          let u = m.asked_now lx (rw w x) in let u' : h.asked q ≡ h.successes = rw w at u in omega arith
      near j x s a b e (other ne) = j x s a (omega arith) e
