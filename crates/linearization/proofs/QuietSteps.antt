-- p's own facts after each quiet step.
use mathlib.Core.Path.{◌≡◌}
use mathlib.Core.Bool.{true, false}
use Prim.Native.Nat.{ℕ, suc, ◌+◌, ◌*◌, ◌%◌, ◌≤◌, ◌<◌}
use native.Mathlib.Nat.{suc-mod}
use native.Mathlib.Decide.{dec_lt}
use Rattle.laws.proofs.Residues.{hit}
use native.Mathlib.Omega.{arith}
use Rattle.laws.proofs.Updates.{upd, upd_same, contra, is_false}
use Rattle.linearization.proofs.GhostMachine.{Local, Shared, to, set_word, ll_x}
use Rattle.linearization.proofs.GhostMachine.{set_returned, set_link_help, set_moment, set_b, set_c, set_mybuf, set_e}
use Rattle.linearization.proofs.GhostMachine.{set_link_bank, set_d, set_checked_at, rest, w_end}
use Rattle.model.specs.Points.{Point, idle, line2, line3, line4, line5, line6, line7, line7copy, line8, line9}
use Rattle.model.specs.Points.{line10, line11, line12, line12valid, line13, line14, line14valid, line15, line17, line18}
use Rattle.model.specs.Points.{line19, line23}
use Rattle.laws.proofs.Parts.{pre_put, pre_all, pre_none}
use Rattle.laws.proofs.Parts.{SamePart}
use Rattle.linearization.proofs.Invariants.{ProcessClauses, SharedClauses, K2, K3, H8, H9, K4x, Within}

-- Lemma 4: with the flag up, fewer than 2N successes since the read of X
pub fresh : (N : ℕ) (h : Shared) (p r : ℕ) → p < N → H9 N h p → h.flag p ≡ true → h.asked p ≤ r → h.successes < r + 2 * N
fresh N h p r hp not_passed f ar = go (dec_lt h.successes (r + 2 * N))
  where
    go : Dec (h.successes < r + 2 * N) → h.successes < r + 2 * N
    go (yes x) = x
    go (no x) = let z = hit N (suc (h.asked p)) p hp in absurd (not_passed f z.0 z.1 (omega (arith, z.2)) z.3)

module _ (N W n : ℕ) (h : Shared) (p : ℕ) (l : Local) (hp : p < N) (h_w : 0 < W) (g : SharedClauses N W n h) where
  -- the life of the present value
  pub now_s : Within h n h.successes
  now_s = record { one = let z = g.last_success_past in omega arith; two = λ x. absurd (omega arith) }

  -- what a reader finds: while its flag is up, and while it is linked
  pub read_f : (y : Point) → ProcessClauses N W n y h p l → H9 N h p → h.asked p ≤ l.read_version → h.flag p ≡ true → SamePart (h.buf l.copy_buf) (h.values l.read_version) W
  read_f y m not_passed ar f = rw m.copy_buf_is (g.recent_values l.read_version m.read_made (fresh N h p l.read_version hp not_passed f ar))

  pub read_l : (y : Point) → ProcessClauses N W n y h p l → l.link_x ≡ true → SamePart (h.buf l.copy_buf) (h.values l.read_version) W
  read_l y m x = rw m.copy_buf_is (g.recent_values l.read_version m.read_made (let z = m.linked_current x in omega arith))

  pub own_l2 : ProcessClauses N W n line2 h p l → ProcessClauses N W (suc n) line3 h p (to line3 (ll_x h n l))
  own_l2 m =
      let w = now_s in
      let f : h.flag p ≡ true → SamePart l.returned (h.values h.successes) l.word = λ _. pre_none _ _ _ m.no_run in
      let k : l.word < W = let z = m.no_run in omega arith in search arith

  pub own_l3 : suc l.word < W → ProcessClauses N W n line3 h p l
      → ProcessClauses N W (suc n) line3 h p (set_word (suc l.word) (to line3 (set_returned l.word (h.buf l.copy_buf l.word) l)))
  own_l3 hk m =
      let f : h.flag p ≡ true → SamePart (upd l.returned l.word (h.buf l.copy_buf l.word)) (h.values l.read_version) (suc l.word) =
      λ x. pre_put _ _ _ _ (m.read_part x) (read_f line3 m m.not_passed m.read_since_asked x l.word m.in_run) in search arith

  pub own_l3' : W ≤ suc l.word → ProcessClauses N W n line3 h p l → ProcessClauses N W (suc n) line4 h p (set_word 0 (to line4 (set_returned l.word (h.buf l.copy_buf l.word) l)))
  own_l3' hk m =
      let f : h.flag p ≡ true → SamePart (upd l.returned l.word (h.buf l.copy_buf l.word)) (h.values l.read_version) W =
      λ x. pre_all _ _ _ _ hk (pre_put _ _ _ _ (m.read_part x) (read_f line3 m m.not_passed m.read_since_asked x l.word m.in_run)) in search arith

  pub own_l4 : h.flag p ≡ true → ProcessClauses N W n line4 h p l → ProcessClauses N W (suc n) line8 h p (to line8 (set_moment l.read_at l.read_version (set_link_help p true l)))
  own_l4 e m = let f = m.read_whole e in search arith

  pub own_l4' : h.flag p ≡ false → ProcessClauses N W n line4 h p l → ProcessClauses N W (suc n) line5 h p (to line5 (set_b (h.help_buf p) (set_link_help p true l)))
  own_l4' e m = search arith

  pub own_l5 : ProcessClauses N W n line5 h p l → ProcessClauses N W (suc n) line6 h p (to line6 (ll_x h n l))
  own_l5 m =
      let w = now_s in
      let f : true ≡ true → SamePart l.returned (h.values h.successes) l.word = λ _. pre_none _ _ _ m.no_run in
      let k : l.word < W = let z = m.no_run in omega arith in search arith

  pub own_l6 : suc l.word < W → ProcessClauses N W n line6 h p l
      → ProcessClauses N W (suc n) line6 h p (set_word (suc l.word) (to line6 (set_returned l.word (h.buf l.copy_buf l.word) l)))
  own_l6 hk m =
      let f : l.link_x ≡ true → SamePart (upd l.returned l.word (h.buf l.copy_buf l.word)) (h.values l.read_version) (suc l.word) =
      λ x. pre_put _ _ _ _ (m.reread_part x) (read_l line6 m x l.word m.in_run) in search arith

  pub own_l6' : W ≤ suc l.word → ProcessClauses N W n line6 h p l → ProcessClauses N W (suc n) line7 h p (set_word 0 (to line7 (set_returned l.word (h.buf l.copy_buf l.word) l)))
  own_l6' hk m =
      let f : l.link_x ≡ true → SamePart (upd l.returned l.word (h.buf l.copy_buf l.word)) (h.values l.read_version) W =
      λ x. pre_all _ _ _ _ hk (pre_put _ _ _ _ (m.reread_part x) (read_l line6 m x l.word m.in_run)) in search arith

  pub own_l7 : l.link_x ≡ true → ProcessClauses N W n line7 h p l → ProcessClauses N W (suc n) line8 h p (to line8 (set_moment l.read_at l.read_version l))
  own_l7 e m = let f = m.reread_whole e in search arith

  pub own_l7' : l.link_x ≡ false → ProcessClauses N W n line7 h p l → ProcessClauses N W (suc n) line7copy h p (to line7copy (set_moment (h.help_moment p) (h.help_version p) l))
  own_l7' e m =
      let t = m.handed_value m.handed.one in
      let f : SamePart l.returned (h.values (h.help_version p)) l.word = pre_none _ _ _ m.no_run in
      let k : l.word < W = let z = m.no_run in omega arith in
      let x : l.link_x ≡ true → h.help_version p ≡ h.successes = λ z. absurd (contra z e) in
      let y : h.help_version p ≡ h.successes → l.link_x ≡ true = λ z. m.current_linked (omega (arith, m.handed_before_reread)) in search arith

  pub own_l7c : suc l.word < W → ProcessClauses N W n line7copy h p l
      → ProcessClauses N W (suc n) line7copy h p (set_word (suc l.word) (to line7copy (set_returned l.word (h.buf l.b l.word) l)))
  own_l7c hk m =
      let f : SamePart (upd l.returned l.word (h.buf l.b l.word)) (h.values l.version) (suc l.word) =
      pre_put _ _ _ _ m.copied_part (let z = (m.handed_value m.handed.one).words l.word m.in_run in cc (m.handed.two, m.copied_version)) in search arith

  pub own_l7c' : W ≤ suc l.word → ProcessClauses N W n line7copy h p l → ProcessClauses N W (suc n) line8 h p (set_word 0 (to line8 (set_returned l.word (h.buf l.b l.word) l)))
  own_l7c' hk m =
      let f : SamePart (upd l.returned l.word (h.buf l.b l.word)) (h.values l.version) W =
      pre_all _ _ _ _ hk (pre_put _ _ _ _ m.copied_part (let z = (m.handed_value m.handed.one).words l.word m.in_run in cc (m.handed.two, m.copied_version))) in search arith

  pub own_l8 : h.flag p ≡ true → ProcessClauses N W n line8 h p l → ProcessClauses N W (suc n) line9 h p (to line9 (set_c (h.help_buf p) (set_link_help p true l)))
  own_l8 e m = search (arith, upd_same)

  pub own_l8' : h.flag p ≡ false → ProcessClauses N W n line8 h p l → ProcessClauses N W (suc n) line10 h p (to line10 (set_link_help p true l))
  own_l8' e m = search arith

  pub own_l9' : l.link_help p ≡ false → ProcessClauses N W n line9 h p l → ProcessClauses N W (suc n) line10 h p (to line10 l)
  own_l9' e m = let f : h.flag p ≡ false = is_false _ (λ x. contra (m.withdraws.linked x) e) in search arith

  pub own_l10 : ProcessClauses N W n line10 h p l → ProcessClauses N W (suc n) line11 h p (to line11 (set_mybuf (h.help_buf p) l))
  own_l10 m =
      let f : SamePart (h.buf (h.help_buf p)) l.returned l.word = pre_none _ _ _ m.no_run in
      let k : l.word < W = let z = m.no_run in omega arith in search arith

  pub own_s12 : h.bank l.copy_seq ≡ l.copy_buf → ProcessClauses N W n line12 h p l → ProcessClauses N W (suc n) line14 h p (to line14 (set_link_bank l.copy_seq true l))
  own_s12 e m = let f : K2 N h l.link_x = λ x. let z = m.linked_current x in cc (m.copy_seq_is, m.copy_buf_is) in search arith

  pub own_s12' : (h.bank l.copy_seq ≡ l.copy_buf → ⊥) → ProcessClauses N W n line12 h p l → ProcessClauses N W (suc n) line12valid h p (to line12valid (set_link_bank l.copy_seq true l))
  own_s12' e m = let f : K3 N h l.link_x (upd l.link_bank l.copy_seq true l.copy_seq) = λ x y. absurd (contra (upd_same l.link_bank l.copy_seq true) y) in search arith

  pub own_s12v : l.link_x ≡ true → ProcessClauses N W n line12valid h p l → ProcessClauses N W (suc n) line13 h p (to line13 l)
  own_s12v e m = let f : K4x h l.copy_seq l.copy_buf (l.link_bank l.copy_seq) l.link_x = λ x. record { one = e; two = m.bank_differs x } in search arith

  pub own_s12v' : l.link_x ≡ false → ProcessClauses N W n line12valid h p l → ProcessClauses N W (suc n) line14 h p (to line14 l)
  own_s12v' e m = let f : K2 N h l.link_x = λ x. absurd (contra x e) in search arith

  pub own_s13' : l.link_bank l.copy_seq ≡ false → ProcessClauses N W n line13 h p l → ProcessClauses N W (suc n) line14 h p (to line14 l)
  own_s13' e m = let f : K2 N h l.link_x = λ x. m.bank_or_link x e in search arith

  pub own_s14 : h.flag (l.copy_seq % N) ≡ true → ProcessClauses N W n line14 h p l
      → ProcessClauses N W (suc n) line14valid h p (to line14valid (set_d (h.help_buf (l.copy_seq % N)) (set_link_help (l.copy_seq % N) true l)))
  own_s14 e m = let z = upd_same l.link_help (l.copy_seq % N) true in search arith

  pub own_s14' : h.flag (l.copy_seq % N) ≡ false → ProcessClauses N W n line14 h p l → ProcessClauses N W (suc n) line17 h p (to line17 (set_link_help (l.copy_seq % N) true l))
  own_s14' e m =
      let f : SamePart (h.buf l.mybuf) l.offered l.word = pre_none _ _ _ m.no_run in
      let k : l.word < W = let z = m.no_run in omega arith in
      let x : H8 h (l.copy_seq % N) l.link_x = λ _ z. absurd (contra z e) in search arith

  pub own_s14v : h.start (l.copy_seq % N) < n → l.link_x ≡ true → ProcessClauses N W n line14valid h p l → ProcessClauses N W (suc n) line15 h p (to line15 (set_checked_at n l))
  own_s14v st e m = let f = m.mybuf_current e in let w : Within h n l.read_version = rw (m.linked_current e) now_s in search arith

  pub own_s14v' : l.link_x ≡ false → ProcessClauses N W n line14valid h p l → ProcessClauses N W (suc n) line17 h p (to line17 l)
  own_s14v' e m =
      let f : SamePart (h.buf l.mybuf) l.offered l.word = pre_none _ _ _ m.no_run in
      let k : l.word < W = let z = m.no_run in omega arith in
      let x : H8 h (l.copy_seq % N) l.link_x = λ z _. absurd (contra z e) in search arith

  pub own_s15' : h.asked (l.copy_seq % N) ≤ h.successes → l.link_help (l.copy_seq % N) ≡ false → ProcessClauses N W n line15 h p l → ProcessClauses N W (suc n) line17 h p (to line17 l)
  own_s15' ta e m =
      let f : SamePart (h.buf l.mybuf) l.offered l.word = pre_none _ _ _ m.no_run in
      let k : l.word < W = let z = m.no_run in omega arith in
      let x : H8 h (l.copy_seq % N) l.link_x = λ z w. late (dec_lt (h.asked (l.copy_seq % N)) h.successes) (m.offer_open z w) in search arith
    where
      late : Dec (h.asked (l.copy_seq % N) < h.successes) → (h.asked (l.copy_seq % N) < h.successes → l.link_help (l.copy_seq % N) ≡ true) → h.asked (l.copy_seq % N) ≡ h.successes
      late (yes u) v = absurd (contra (v u) e)
      late (no u) v = omega arith

  pub own_s18 : ProcessClauses N W n line18 h p l → ProcessClauses N W (suc n) line19 h p (to line19 (set_e (h.bank (suc l.copy_seq % (2 * N))) l))
  own_s18 m =
      let f : l.link_x ≡ true → h.bank (suc l.copy_seq % (2 * N)) ≡ h.bank (suc h.successes % (2 * N)) =
      λ x. let z = m.linked_current x in cc (suc-mod h.successes (2 * N), m.copy_seq_is) in search arith

  pub own_s19' : l.link_x ≡ false → ProcessClauses N W n line19 h p l → ProcessClauses N W (suc n) idle (w_end p l.link_x n h) p (rest l.answered l)
  own_s19' e m =
      let e1 = upd_same h.last_moment p n in let e2 = upd_same h.served_link p l.link_x in
      let f : l.link_x ≡ true → SamePart (h.buf l.mybuf) (h.values l.read_version) W = λ x. absurd (contra x e) in search arith

  pub own_v23 : ProcessClauses N W n line23 h p l → ProcessClauses N W (suc n) idle (w_end p l.link_x n h) p (rest l.answered l)
  own_v23 m = let e1 = upd_same h.last_moment p n in let e2 = upd_same h.served_link p l.link_x in search arith
