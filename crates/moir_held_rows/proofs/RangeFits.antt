-- Numbers in range fit their fields.
use mathlib.Core.Path.{◌≡◌, refl}
use mathlib.Core.List.{List, [], ◌∷◌}
use mathlib.Core.Bool.{Bool, true, false, ◌||◌}
use Prim.Native.Nat.{ℕ, ◌<◌, ◌≤◌}
use native.Mathlib.Omega.{arith}
use lib.Dec.{eqb, leb}
use borrow.Author.Tests.{ltb-true, leb-true, eqb-true}
use Rattle.llsc.specs.Rows.{every, some}
use Rattle.laws.proofs.Updates.{contra}
use Rattle.serving.proofs.RefusalFacts.{and_true}
use Rattle.moir_model.specs.declared.Header.{Header}
use Rattle.moir_model.specs.declared.Process.{Process}
use Rattle.moir_model.specs.Tags.{tag_values}
use Rattle.moir_model.specs.Points.{Point, line_number, busy_points}
use Rattle.moir_model.specs.Refusals.{header_ok, line_ok, process_ok}
use Rattle.moir_held_model.specs.Ranges.{tag_ok, process_tags_ok, header_whole, process_whole}
use Rattle.held_rows.proofs.FitLaws.{below}
use Rattle.moir_held_rows.specs.Reads.{HeaderFits, ProcessFits}

-- the number of some point is that of a point
among : (k m : ℕ) (ys : List Point) → every (λ y. leb (line_number y) m) ys ≡ true → some (λ y. eqb k (line_number y)) ys ≡ true → k ≤ m
among k m [] e s = absurd (contra s refl)
among k m (y ∷ ys) e s =
    let a = and_true (leb (line_number y) m) _ e in
    below k (line_number y) m (some (λ z. eqb k (line_number z)) ys) (eqb k (line_number y)) refl (leb-true (line_number y) m a.0) (among k m ys a.1) s

line_fits : (q : Process) → line_ok q ≡ true → q.line < 256
line_fits q e =
    let h : q.line ≤ 27 = below q.line 0 27 (some (λ y. eqb q.line (line_number y)) busy_points) (eqb q.line 0) refl (omega arith) (among q.line 27 busy_points refl) e in
    omega (arith, h)

pub tag_fits : (t : ℕ) → tag_ok t ≡ true → t < 65536
tag_fits t e = ltb-true t tag_values e

module _ (n : ℕ) (most : n ≤ 16) where
  fits : (h : Header) → header_ok n h ≡ true → tag_ok h.tag ≡ true → HeaderFits h
  fits h e t = record { tag = tag_fits h.tag t; pid = omega (arith, ltb-true h.pid.0 n e, most) }

  pub header_fits : (h : Header) → header_whole n h ≡ true → HeaderFits h
  header_fits h e = let a = and_true (header_ok n h) _ e in fits h a.0 a.1

  pub process_fits : (w : ℕ) (q : Process) → process_whole n w q ≡ true → ProcessFits q
  process_fits w q e =
      let whole = and_true (process_ok n w q) (process_tags_ok q) e in
      let x = and_true (header_ok n q.x) _ whole.0 in
      let old = and_true (header_ok n q.oldhdr) _ x.1 in
      let new = and_true (header_ok n q.newhdr) _ old.1 in
      let h = and_true (header_ok n q.h) _ new.1 in
      let l = and_true (line_ok q) _ h.1 in
      let keep_tag = and_true (tag_ok q.keep) _ whole.1 in
      let x_tag = and_true (tag_ok q.x.tag) _ keep_tag.1 in
      let old_tag = and_true (tag_ok q.oldhdr.tag) _ x_tag.1 in
      let new_tag = and_true (tag_ok q.newhdr.tag) _ old_tag.1 in
      let h_tag = and_true (tag_ok q.h.tag) _ new_tag.1 in
      let y_tag = and_true (tag_ok q.y.tag) _ h_tag.1 in
      record {
        line = line_fits q l.0;
        keep = tag_fits q.keep keep_tag.0;
        x = fits q.x x.0 x_tag.0;
        oldhdr = fits q.oldhdr old.0 old_tag.0;
        newhdr = fits q.newhdr new.0 new_tag.0;
        h = fits q.h h.0 h_tag.0;
        y = tag_fits q.y.tag y_tag.0;
        z = tag_fits q.z.tag y_tag.1;
      }
