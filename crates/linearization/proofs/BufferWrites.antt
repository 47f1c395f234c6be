-- The writes of BUF (L11, S17).
use mathlib.Core.Path.{◌≡◌, refl, sym, ap, ◌∙◌}
use mathlib.Core.Bool.{true}
use Prim.Native.Nat.{ℕ, suc, ◌+◌, ◌*◌, ◌%◌, ◌≤◌, ◌<◌}
use native.Mathlib.Nat.{mod-lt}
use native.Mathlib.Omega.{arith}
use lib.Dec.{lit≤}
use Rattle.laws.proofs.Updates.{upd, upd_same, upd_other}
use Rattle.linearization.proofs.GhostMachine.{Local, Shared, to, set_word}
use Rattle.linearization.proofs.GhostMachine.{rest, w_buf, w_end}
use Rattle.model.specs.Points.{Point, idle}
use Rattle.model.specs.Points.{line11, line17, line18}
use Rattle.laws.proofs.Claimed.{on_with}
use Rattle.linearization.proofs.Invariants.{later_g, lines, wide}
use Rattle.linearization.proofs.Invariants.{ProcessClauses, SharedClauses}
use Rattle.laws.proofs.Parts.{SamePart}
use Rattle.linearization.proofs.Invariants.{D6}
use Rattle.laws.proofs.Parts.{pre_all, pre_put}

-- L11 and S17 by p: a word of its own buffer b
wrote : (h : Shared) (b k v : ℕ) (o : ℕ → ℕ) → v ≡ o k → SamePart (h.buf b) o k → SamePart ((w_buf b k v h).buf b) o (suc k)
wrote h b k v o e d w hw = rw (upd_same h.buf b (upd (h.buf b) k v)) (pre_put (h.buf b) o k v d e w hw)

spared : (h : Shared) (b k v c m : ℕ) (o : ℕ → ℕ) → (c ≡ b → ⊥) → SamePart (h.buf c) o m → SamePart ((w_buf b k v h).buf c) o m
spared h b k v c m o ne d w hw = rw (upd_other h.buf b c (upd (h.buf b) k v) ne) (d w hw)

module _ (N W n : ℕ) (h : Shared) (p b k v : ℕ) where
  abbrev h_w : Shared
  h_w = w_buf b k v h

  pub others_buf : (q : ℕ) (y : Point) (l : Local) → p < N → q < N → (q ≡ p → ⊥) → h.holders (2 * N + p) ≡ b → SharedClauses N W n h → ProcessClauses N W n y h q l
      → ProcessClauses N W (suc n) y h_w q l
  others_buf q y l hp hq np e g m =
      let ne : (c : ℕ) → h.holders (2 * N + q) ≡ c → c ≡ b → ⊥ = λ c o z.
      np (omega (arith, g.holders_differ (2 * N + q) (2 * N + p) (omega arith) (omega arith) (o ∙ z ∙ sym e))) in
      let f2 = on_with (lines 20 20 y) (lines 10 22 y) (wide 20 20 10 22 y (lit≤ tt) (lit≤ tt)) (λ o. spared h b k v l.mybuf l.word l.offered (ne _ o)) m.owns_mybuf m.offered_part in
      let f2f = on_with (lines 21 22 y) (lines 10 22 y) (wide 21 22 10 22 y (lit≤ tt) (lit≤ tt)) (λ o. spared h b k v l.mybuf W l.offered (ne _ o)) m.owns_mybuf m.offered_whole in
      let f3 = on_with (lines 10 10 y) (lines 10 22 y) (wide 10 10 10 22 y (lit≤ tt) (lit≤ tt)) (λ o. spared h b k v l.mybuf l.word l.returned (ne _ o)) m.owns_mybuf m.returned_part in
      let f4 = on_with (lines 12 18 y) (lines 10 22 y) {A' = l.link_x ≡ true → SamePart (h_w.buf l.mybuf) (h.values l.read_version) W} (wide 12 18 10 22 y (lit≤ tt) (lit≤ tt))
      (λ o d x. spared h b k v l.mybuf W (h.values l.read_version) (ne _ o) (d x)) m.owns_mybuf m.mybuf_current in
      let f5 =
      on_with (lines 19 19 y) (lines 10 22 y) (wide 19 19 10 22 y (lit≤ tt) (lit≤ tt))
      (λ o. spared h b k v l.mybuf W (h.values l.read_version) (ne _ o)) m.owns_mybuf m.mybuf_read in
      let f6 = on_with (lines 0 6 y) (lines 0 9 y) {A' = D6 h_w W q} (wide 0 6 0 9 y (lit≤ tt) (lit≤ tt))
      (λ o d x. record { words = spared h b k v (h.help_buf q) W (h.values (h.help_version q)) (ne _ o) (d x).words; inside = (d x).inside; after = (d x).after }) m.owns_help m.handed_value in
      search arith

  -- D1: a word written into an owned buffer leaves the kept buffers alone
  pub all_buf : p < N → h.holders (2 * N + p) ≡ b → SharedClauses N W n h → SharedClauses N W (suc n) h_w
  all_buf hp e g = record {
    x_seq = g.x_seq;
    x_buf = g.x_buf;
    holders_differ = g.holders_differ;
    kept = g.kept;
    recent_held = g.recent_held;
    last_success_past = (later_g N W n h g).last_success_past;
    successes_past = (later_g N W n h g).successes_past;
    recent_values = d;
  }
    where
      d : (i : ℕ) → i ≤ h.successes → h.successes < i + 2 * N → SamePart (h_w.buf (h.buffers i)) (h.values i) W
      d i x y =
          let lt = mod-lt i {m = 2 * N} (omega arith) in
          let ne : h.buffers i ≡ b → ⊥ = λ z. let u = g.holders_differ (i % (2 * N)) (2 * N + p) (omega arith) (omega arith) (sym (g.recent_held i x y) ∙ z ∙ sym e) in omega arith in
          spared h b k v (h.buffers i) W (h.values i) ne (g.recent_values i x y)

module _ (N W n : ℕ) (h : Shared) (p : ℕ) (l : Local) where
  abbrev h_r : Shared
  h_r = w_buf l.mybuf l.word (l.returned l.word) h

  abbrev h_o : Shared
  h_o = w_buf l.mybuf l.word (l.offered l.word) h

  pub own_l11 : suc l.word < W → ProcessClauses N W n line11 h p l → ProcessClauses N W (suc n) line11 h_r p (set_word (suc l.word) (to line11 l))
  own_l11 e m = let f = wrote h l.mybuf l.word _ l.returned refl m.returned_part in search arith

  pub own_l11' : W ≤ suc l.word → ProcessClauses N W n line11 h p l → ProcessClauses N W (suc n) idle (w_end p l.link_x l.moment h_r) p (rest true (set_word 0 l))
  own_l11' e m =
      let f = pre_all _ _ _ _ e (wrote h l.mybuf l.word _ l.returned refl m.returned_part) in
      let d : l.link_x ≡ true → SamePart (h_r.buf l.mybuf) (h.values l.read_version) W =
      λ x w hw. f w hw ∙ m.answer_value w hw ∙ ap (λ i. h.values i w) (m.linked_answer x ∙ sym (m.linked_current x)) in
      let e1 = upd_same h.last_moment p l.moment in let e2 = upd_same h.served_link p l.link_x in
      let c : true ≡ true → l.read_version ≡ h.successes → l.link_x ≡ true = λ _. m.current_linked in
      search arith

  pub own_s17 : suc l.word < W → ProcessClauses N W n line17 h p l → ProcessClauses N W (suc n) line17 h_o p (set_word (suc l.word) (to line17 l))
  own_s17 e m = let f = wrote h l.mybuf l.word _ l.offered refl m.offered_part in search arith

  pub own_s17' : W ≤ suc l.word → ProcessClauses N W n line17 h p l → ProcessClauses N W (suc n) line18 h_o p (set_word 0 (to line18 l))
  own_s17' e m = let f = pre_all _ _ _ _ e (wrote h l.mybuf l.word _ l.offered refl m.offered_part) in search arith
