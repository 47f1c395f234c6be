-- The starts.
use mathlib.Core.Path.{◌≡◌}
use mathlib.Core.Bool.{true, false}
use Prim.Native.Nat.{ℕ, suc, ◌%◌, ◌<◌}
use native.Mathlib.Omega.{arith}
use lib.Dec.{lit≤}
use Rattle.laws.proofs.Updates.{upd, upd_same, upd_other, contra}
use Rattle.linearization.proofs.GhostMachine.{Local, Shared}
use Rattle.linearization.proofs.GhostMachine.{w_start, begin}
use Rattle.model.specs.Points.{Point, idle, line1}
use Rattle.model.specs.Points.{line12}
use Rattle.model.specs.Points.{line23}
use Rattle.laws.proofs.Claimed.{on_with}
use Rattle.linearization.proofs.Invariants.{later_g, lines, wide}
use Rattle.linearization.proofs.Invariants.{ProcessClauses, SharedClauses}

module _ (N W n : ℕ) (h : Shared) (p : ℕ) (idl : h.flag p ≡ false) where
  pub others_start : (q : ℕ) (y : Point) (l : Local) → (q ≡ p → ⊥) → ProcessClauses N W n y h q l → ProcessClauses N W (suc n) y (w_start p n h) q l
  others_start q y l ne m =
      let e1 = upd_other h.start p q n ne in let a1 = m.start_past in
      let fs = on_with (lines 19 19 y) (lines 18 19 y) {A' = l.link_help (l.copy_seq % N) ≡ true → upd h.start p n (l.copy_seq % N) < l.checked_at} (wide 19 19 18 19 y (lit≤ tt) (lit≤ tt))
      (λ g d x. rw (upd_other h.start p (l.copy_seq % N) n (λ z. contra (g x).flag (rw z idl))) (d x)) m.offer_seen m.check_after_start in
      search (arith, upd_other)

  pub all_start : SharedClauses N W n h → SharedClauses N W (suc n) (w_start p n h)
  all_start g = let z = later_g N W n h g in search

  pub own_ll : (l : Local) → ProcessClauses N W n idle h p l → ProcessClauses N W (suc n) line1 (w_start p n h) p (begin line1 l.offered l)
  own_ll l m = let e1 = upd_same h.start p n in search arith

  pub own_sc : (l : Local) (w : ℕ → ℕ) → ProcessClauses N W n idle h p l → ProcessClauses N W (suc n) line12 (w_start p n h) p (begin line12 w l)
  own_sc l w m = let e1 = upd_same h.start p n in search arith

  pub own_vl : (l : Local) → ProcessClauses N W n idle h p l → ProcessClauses N W (suc n) line23 (w_start p n h) p (begin line23 l.offered l)
  own_vl l m = let e1 = upd_same h.start p n in search arith
