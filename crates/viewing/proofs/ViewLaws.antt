-- The view: what its number 0 means, and the part that it gives then and at a refusal.
use mathlib.Core.Path.{◌≡◌, refl}
use mathlib.Core.List.{List, []}
use mathlib.Core.Bool.{Bool, true, false, cond}
use Prim.Native.Nat.{ℕ, zero, suc, ◌+◌, ◌-◌, ◌*◌, ◌/◌, ◌^◌, ◌≤◌, ◌<◌}
use native.Mathlib.Nat.{mul-le-mul_right, suc-mul, div-mul-le_self}
use native.Mathlib.Omega.{arith}
use lib.ListN.{length, take, drop}
use lib.Seq.{take_all}
use lib.Dec.{eqb}
use borrow.Author.Tests.{ltb-false, eqb-true, not-false, eq-eqb, ne_eqb}
use mir.Syntax.{w64}
use mir.Val.{Fits}
use denote.Ref.{Bor}
use Rattle.llsc.specs.Rows.{row2, row8always}
use Rattle.llsc.proofs.RefusalNumbers.{number_some}
use Rattle.model.specs.Refusals.{row3view, row15}
use Rattle.model.specs.View.{Part, view_number, view_part, view}
use Rattle.rows.proofs.RowLaws.{cleared, w_in}

-- what it means that no row of a view holds: value k begins after k-1 values and ends within the list
pub record Viewed (w : ℕ) (value written : List ℕ) (k : ℕ) : Type 0 where
  pub some : 0 < w
  pub small : w ≤ 64
  pub whole : length value ≡ w
  pub within : k * w ≤ length written
  pub start : 0 < k → (k - 1) * w + w ≡ k * w

starts : (w k : ℕ) → 0 < k → (k - 1) * w + w ≡ k * w
starts w zero p = omega arith
starts w (suc j) p = rw pred_suc (omega (arith, suc-mul j w))
  where
    pred_suc : suc j - 1 ≡ j
    pred_suc = omega arith

within_list : (n w k : ℕ) → k ≤ n / w → k * w ≤ n
within_list n w k h = omega (arith, mul-le-mul_right {m = k} {n = n / w} w h, div-mul-le_self n w)

pub viewed : (w : ℕ) (value written : List ℕ) (k : ℕ) → view_number w value written k ≡ 0 → Viewed w value written k
unfolding view_number
viewed w value written k e =
    let r15 : ℕ = cond (row15 w (length written) k).holds 15 0 in
    let r8 : ℕ = cond (row8always w (length value)).holds 8 r15 in
    let r3 : ℕ = cond (row3view w (length written)).holds 3 r8 in
    let c2 = cleared (row2 w).holds 1 r3 e in
    let c3 = cleared (row3view w (length written)).holds 2 r8 c2.1 in
    let c8 = cleared (row8always w (length value)).holds 7 r15 c3.1 in
    let c15 = cleared (row15 w (length written) k).holds 14 0 c8.1 in
    record {
      some = (w_in w c2.0).0;
      small = (w_in w c2.0).1;
      whole = eqb-true (length value) w (not-false (eqb (length value) w) c8.0);
      within = within_list (length written) w k (ltb-false (length written / w) k c15.0);
      start = starts w k;
    }

-- the numbers of a view fit: the words of x values, x up to k, those of one value more, and the bytes
module _ {w k x : ℕ} {value written : List ℕ} (v : Viewed w value written k) (room : length written * 8 < 2 ^ 64) (before : x ≤ k) where
  words_before : x * w ≤ length written
  words_before = omega (arith, mul-le-mul_right {m = x} {n = k} w before, v.within)

  pub words_fit : Fits w64 (x * w)
  words_fit = omega (arith, words_before)

  pub more_words_fit : Fits w64 (x * w + w)
  more_words_fit = omega (arith, words_before, v.small)

  pub bytes_fit : Fits w64 (x * w * 8)
  bytes_fit = omega (arith, words_before)

either_count : (first : Bool) (p q : Part) → p.count ≡ q.count → (cond {A = Part} first p q).count ≡ q.count
either_count true p q e = e
either_count false p q e = refl

-- "each refusal gives an empty part of the set-up value, and nothing else does": without a refusal the part has W words
module _ (w : ℕ) (value written : List ℕ) (k : ℕ) where
  pub count_of_view : view_number w value written k ≡ 0 → (view_part w value written k).count ≡ w
  unfolding view_part
  count_of_view e = rw (eq-eqb _ _ e) (either_count (eqb k 0) _ _ refl)

  pub only_refusals_empty : (view_part w value written k).count ≡ 0 → view_number w value written k ≡ 0 → ⊥
  only_refusals_empty z e = omega (arith, count_of_view e, (viewed w value written k e).some)

at_start : (place : ℕ) → place + 0 ≡ place
at_start place = omega arith

-- the three parts that the code returns
module _ (w : ℕ) (value written : Bor (List ℕ)) (k : ℕ) where
  abbrev number : ℕ
  number = view_number w value.now written.now k

  pub refused_part : (number ≡ 0 → ⊥) → (value.ref_ptr, []) ≡ view w value written k
  unfolding view view_part
  refused_part e = simp (ne_eqb _ _ e, at_start)

  pub value_part : number ≡ 0 → k ≡ 0 → (value.ref_ptr, value.now) ≡ view w value written k
  unfolding view view_part
  value_part e z =
      let all : take w value.now ≡ value.now = take_all w value.now (omega (arith, (viewed w value.now written.now k e).whole)) in
      simp (eq-eqb _ _ e, eq-eqb _ _ z, all, at_start)

  pub list_part : number ≡ 0 → (k ≡ 0 → ⊥) → ((written.ref_ptr.0, (k - 1) * w * 8 + written.ref_ptr.1), take w (drop ((k - 1) * w) written.now)) ≡ view w value written k
  unfolding view view_part
  list_part e z =
      let far : (k - 1) * w * 8 + written.ref_ptr.1 ≡ written.ref_ptr.1 + (k - 1) * w * 8 = omega arith in
      rw far (simp (eq-eqb _ _ e, ne_eqb _ _ z))

-- what `view` rests on
pub ruleset view_laws = (number_some, viewed, words_fit, more_words_fit, bytes_fit, refused_part, value_part, list_part)
