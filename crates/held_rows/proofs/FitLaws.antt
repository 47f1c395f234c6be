-- Numbers in range fit their fields.
use mathlib.Core.Path.{◌≡◌, refl}
use mathlib.Core.List.{List, [], ◌∷◌}
use mathlib.Core.Bool.{Bool, true, false, ◌||◌}
use Prim.Native.Nat.{ℕ, ◌^◌, ◌<◌, ◌≤◌}
use native.Mathlib.Nat.{pow-le-pow_right}
use native.Mathlib.Omega.{arith}
use lib.Dec.{eqb, leb}
use borrow.Author.Tests.{ltb-true, leb-true, eqb-true}
use Rattle.model.specs.Places.{XPlace, BankPlace, HelpPlace}
use Rattle.model.specs.declared.Process.{Process}
use Rattle.model.specs.Points.{Point, line_number, busy_points}
use Rattle.model.specs.Refusals.{x_place_ok, bank_place_ok, help_place_ok, process_ok, buffer_ok, x_ok, links_ok, line_ok}
use Rattle.llsc.specs.Rows.{every, some}
use Rattle.laws.proofs.Updates.{contra}
use Rattle.serving.proofs.RefusalFacts.{and_true}
use Rattle.held_rows.specs.Reads.{XFits, BankFits, HelpFits, ProcessFits}

pub below : (k a m : ℕ) (rest : Bool) (t : Bool) → eqb k a ≡ t → a ≤ m → (rest ≡ true → k ≤ m) → t || rest ≡ true → k ≤ m
below k a m rest true t h f e = omega (arith, eqb-true k a t, h)
below k a m rest false t h f e = f e

-- the number of some point is that of a point
among : (k m : ℕ) (ys : List Point) → every (λ y. leb (line_number y) m) ys ≡ true → some (λ y. eqb k (line_number y)) ys ≡ true → k ≤ m
among k m [] e s = absurd (contra s refl)
among k m (y ∷ ys) e s =
    let a = and_true (leb (line_number y) m) _ e in
    below k (line_number y) m (some (λ z. eqb k (line_number z)) ys) (eqb k (line_number y)) refl (leb-true (line_number y) m a.0) (among k m ys a.1) s

pub line_fits : (q : Process) → line_ok q ≡ true → q.line < 256
line_fits q e =
    let h : q.line ≤ 26 = below q.line 0 26 (some (λ y. eqb q.line (line_number y)) busy_points) (eqb q.line 0) refl (omega arith) (among q.line 26 busy_points refl) e in
    omega (arith, h)

module _ (n : ℕ) (most : n ≤ 16) where
  links_fit : (links : ℕ) → links_ok n links ≡ true → links < 65536
  links_fit links e =
      let p : 2 ^ n ≤ 2 ^ 16 = pow-le-pow_right {n = 2} (omega arith) most in
      omega (arith, ltb-true links (2 ^ n) e, p)

  pub x_fits : (x : XPlace) → x_place_ok n x ≡ true → XFits x
  x_fits x e =
      let a = and_true (x_ok n x.content) _ e in
      let b = and_true (buffer_ok n x.content.buf) _ a.0 in
      record { buf = omega (arith, ltb-true _ _ b.0); seq = omega (arith, ltb-true _ _ b.1); links = links_fit x.links a.1 }

  pub bank_fits : (k : BankPlace) → bank_place_ok n k ≡ true → BankFits k
  bank_fits k e =
      let a = and_true (buffer_ok n k.content) _ e in
      record { buf = omega (arith, ltb-true _ _ a.0); links = links_fit k.links a.1 }

  pub help_fits : (h : HelpPlace) → help_place_ok n h ≡ true → HelpFits h
  help_fits h e =
      let a = and_true (leb h.content.flag 1) _ e in
      let b = and_true (buffer_ok n h.content.buf) _ a.1 in
      record { flag = omega (arith, leb-true _ _ a.0); buf = omega (arith, ltb-true _ _ b.0); links = links_fit h.links b.1 }

  pub process_fits : (w : ℕ) (q : Process) → process_ok n w q ≡ true → ProcessFits q
  process_fits w q e =
      let a = and_true (buffer_ok n q.mybuf) _ e in
      let x = and_true (x_ok n q.x) _ a.1 in
      let y = and_true (buffer_ok n q.x.buf) _ x.0 in
      let b = and_true (buffer_ok n q.b) _ x.1 in
      let c = and_true (buffer_ok n q.c) _ b.1 in
      let d = and_true (buffer_ok n q.d) _ c.1 in
      let f = and_true (buffer_ok n q.e) _ d.1 in
      let l = and_true (line_ok q) _ f.1 in
      record {
        mybuf = omega (arith, ltb-true _ _ a.0);
        x_buf = omega (arith, ltb-true _ _ y.0);
        x_seq = omega (arith, ltb-true _ _ y.1);
        line = line_fits q l.0;
        b_buf = omega (arith, ltb-true _ _ b.0);
        c_buf = omega (arith, ltb-true _ _ c.0);
        d_buf = omega (arith, ltb-true _ _ d.0);
        e_buf = omega (arith, ltb-true _ _ f.0);
      }
