-- The writes of Bank (S13), of BUF (L11, S17) and of X (S19), and the starts.
use mathlib.Core.Path.{◌≡◌, sym, ◌∙◌}
use mathlib.Core.Bool.{true, false, cond}
use Prim.Native.Nat.{ℕ, suc, ◌*◌, ◌%◌, ◌<◌}
use Rattle.laws.proofs.Residues.{suc_mod_ne}
use native.Mathlib.Omega.{arith}
use lib.Dec.{eqb}
use Rattle.laws.proofs.Updates.{upd, upd_same, upd_other, Split, same, other, split, ifb_eq}
use Rattle.linearization.proofs.GhostMachine.{Local, Shared, to}
use Rattle.linearization.proofs.GhostMachine.{set_link_bank, w_bank}
use Rattle.model.specs.Points.{Point}
use Rattle.model.specs.Points.{line13, line14}
use Rattle.laws.proofs.Claimed.{on_map}
use Rattle.linearization.proofs.Invariants.{later_g, lines}
use Rattle.linearization.proofs.Invariants.{ProcessClauses, SharedClauses}
use Rattle.linearization.proofs.Invariants.{K2, K3, K4x}
use Rattle.linearization.proofs.HelpWrites.{kept_link}

-- S13 by p, linked: Bank[i] takes b, where i is X's place and b is X's buffer
module _ (N W n : ℕ) (h : Shared) (two : 1 < 2 * N) (i b : ℕ) (ei : i ≡ h.successes % (2 * N)) (eb : b ≡ h.buffers h.successes) where
  done : upd h.bank i b (h.successes % (2 * N)) ≡ h.buffers h.successes
  done = rw (← ei) (upd_same h.bank i b ∙ eb)

  pub others_s13 : (q : ℕ) (y : Point) (l : Local) → ProcessClauses N W n y h q l → ProcessClauses N W (suc n) y (w_bank i b h) q (set_link_bank i false l)
  others_s13 q y l m =
      let f2 = on_map (lines 17 22 y) {B = K2 N (w_bank i b h) l.link_x} (λ _ x. done) m.bank_current in
      let f3 = on_map (lines 15 16 y) {B = K3 N (w_bank i b h) l.link_x (upd l.link_bank i false l.copy_seq)} (λ _ x z. done) m.bank_or_link in
      let f4 = on_map (lines 15 16 y) {B = upd l.link_bank i false l.copy_seq ≡ true → upd h.bank i b l.copy_seq ≡ l.copy_buf → ⊥}
      (λ k x z. let w = kept_link l.link_bank i l.copy_seq x in k w.0 (rw (upd_other h.bank i l.copy_seq b w.1) at z)) m.bank_differs in
      let f4x = on_map (lines 16 16 y) {B = K4x (w_bank i b h) l.copy_seq l.copy_buf (upd l.link_bank i false l.copy_seq) l.link_x}
      (λ k x. let w = kept_link l.link_bank i l.copy_seq x in record { one = (k w.0).one; two = λ z. (k w.0).two (rw (upd_other h.bank i l.copy_seq b w.1) at z) }) m.line13_valid in
      let f5 = on_map (lines 22 22 y) {B = l.link_x ≡ true → l.e ≡ upd h.bank i b (suc h.successes % (2 * N))}
      (λ k x. k x ∙ sym (upd_other h.bank i _ b (λ z. suc_mod_ne (2 * N) h.successes two (z ∙ ei)))) m.next_bank in
      search arith

  pub own_s13 : (p : ℕ) (l : Local) → ProcessClauses N W n line13 h p l → ProcessClauses N W (suc n) line14 (w_bank i b h) p (to line14 (set_link_bank i false l))
  own_s13 p l m = let f : K2 N (w_bank i b h) l.link_x = λ x. done in search arith

  pub all_s13 : SharedClauses N W n h → SharedClauses N W (suc n) (w_bank i b h)
  all_s13 g = record {
    x_seq = g.x_seq;
    x_buf = g.x_buf;
    holders_differ = g.holders_differ;
    recent_held = g.recent_held;
    recent_values = g.recent_values;
    last_success_past = (later_g N W n h g).last_success_past;
    successes_past = (later_g N W n h g).successes_past;
    kept = λ j hj. g.kept j hj ∙ go j (split j h.xseq);
  }
    where
      go : (j : ℕ) → Split j h.xseq → cond (eqb j h.xseq) h.xbuf (h.bank j) ≡ cond (eqb j h.xseq) h.xbuf (upd h.bank i b j)
      go j (same e) = ifb_eq j _ _ _ e ∙ sym (ifb_eq j _ _ _ e)
      go j (other ne) = let z = upd_other h.bank i j b (λ z. ne (z ∙ ei ∙ sym g.x_seq)) in rw z
