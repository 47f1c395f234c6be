-- The causes over a whole log, and what it means that none holds.
use mathlib.Core.Path.{◌≡◌, refl, sym, ap, ap₂, ◌∙◌}
use Prim.Native.Nat.{ℕ, zero, suc, ◌+◌, ◌-◌, ◌*◌, ◌/◌, ◌%◌, ◌≤◌, ◌<◌}
use mathlib.Core.List.{List}
use mathlib.Core.Bool.{Bool, true, false, not, ◌&&◌, ◌||◌, cond}
use native.Mathlib.Omega.{arith}
use native.Mathlib.Decide.{dec_lt}
use native.Mathlib.Nat.{suc-mul, div-mul-le_self, div-eq_of_lt-le, div-add-mod', lt-div-mul-add}
use native.Mathlib.Numerals.{add-one}
use lib.Dec.{eqb, ltb, leb}
use lib.ListN.{length, get_or, drop, length-drop}
use lib.Seq.{drop-drop}
use borrow.Author.Tests.{eqb-true, ltb-false, leb-false, le-leb, lt-leb, lt-ltb, le-ltb, not-false}
use Rattle.llsc.specs.Rows.{row1, row2, some}
use Rattle.rows.proofs.RowLaws.{n_in, w_in}
use Rattle.std.specs.Prelude.{Option, Some, None, Result, Ok, Err}
use Rattle.laws.proofs.AllLaws.{all_of, all_none, none_all, or_none}
use Rattle.verdicts.specs.Log.{Entry, width, entry_of, rows, entries, begun}
use Rattle.verdicts.specs.Verdicts.{row4log, row8log, row16}
use Rattle.verdicts.specs.Reasons.{first_with, one_at_fault, log_refused}
use Rattle.judging.specs.Heads.{left_over, first_from}
use Rattle.judging.specs.Orders.{Fits}
use Rattle.judging.proofs.CallLoops.{rows_length, from_0}

-- whether there is one
abbrev given : Option ℕ → ℕ
given None = 0
given (Some k) = 1

-- one row more: it is told where it passes and none before it does
abbrev further : Option ℕ → Option ℕ
further None = None
further (Some k) = Some (suc k)

last_row : (f : Entry → Bool) (w k : ℕ) (ns : List ℕ)
    → one_at_fault f (rows (suc k) w ns) ≡ cond (some f (rows k w ns)) (Some (first_with f (rows k w ns))) (cond (f (entry_of w (drop (k * width w) ns))) (Some k) None)
last_row f w zero ns = go (f (entry_of w ns)) ∙ ap (λ i. cond (f (entry_of w (drop i ns))) (Some 0) None) (let z : 0 ≡ 0 * width w = omega arith in z)
  where
    go : (b : Bool) → cond (b || false) (Some (cond {A = ℕ} b 0 1)) None ≡ cond b (Some 0) None
    go true = refl
    go false = refl
last_row f w (suc k) ns =
    go (f (entry_of w ns)) (some f (rows (suc k) w next)) (some f (rows k w next)) (f (entry_of w (drop (k * width w) next))) _ _ (last_row f w k next)
    ∙ ap (λ e. cond (some f (rows (suc k) w ns)) (Some (first_with f (rows (suc k) w ns))) (cond (f (entry_of w e)) (Some (suc k)) None)) there
  where
    next : List ℕ
    next = drop (width w) ns

    there : drop (k * width w) next ≡ drop (suc k * width w) ns
    there =
        let far : width w + k * width w ≡ suc k * width w = let z = suc-mul k (width w) in omega (arith, z) in
        drop-drop (k * width w) (width w) ns ∙ ap (λ i. drop i ns) far

    two : (b c : Bool) (i : ℕ) → further (cond b (Some i) (cond c (Some k) None)) ≡ cond b (Some (suc i)) (cond c (Some (suc k)) None)
    two true c i = refl
    two false true i = refl
    two false false i = refl

    one : (b : Bool) (i : ℕ) → cond b (Some (suc i)) None ≡ further (cond b (Some i) None)
    one true i = refl
    one false i = refl

    go : (b s t l : Bool) (i j : ℕ) → cond s (Some i) None ≡ cond t (Some j) (cond l (Some k) None)
        → cond (b || s) (Some (cond b 0 (suc i))) None ≡ cond (b || t) (Some (cond b 0 (suc j))) (cond l (Some (suc k)) None)
    go true s t l i j e = refl
    go false s t l i j e = one s i ∙ ap further e ∙ two t l j

-- row 4 looks at the whole rows and at the first number of one that is cut off
module _ (n w : ℕ) (log : List ℕ) where
  abbrev left : ℕ
  left = length log / width w

  abbrev strange : Entry → Bool
  strange e = leb n e.process

  -- what is left over is less than a row
  over : length log < left * width w + width w
  over = lt-div-mul-add (omega arith)

  rows_begun : (k : ℕ) → k * width w ≤ length log + (5 + w) → length log < k * width w + 1 → begun w log ≡ rows k w log
  rows_begun k a b =
      let above : length log + (5 + w) < (k + 1) * width w = let z = suc-mul k (width w) in let y : (k + 1) * width w ≡ suc k * width w = ap (◌* width w) (add-one k) in omega arith in
      ap (λ k. rows k w log) (div-eq_of_lt-le {k = k} (width w) {m = length log + (5 + w)} a above)

  pub begun_whole : length log ≤ left * width w → begun w log ≡ rows left w log
  begun_whole h = let z = div-mul-le_self (length log) (width w) in rows_begun left (omega arith) (omega arith)

  pub begun_cut : left * width w < length log → begun w log ≡ rows (suc left) w log
  begun_cut h = let z = suc-mul left (width w) in let y = over in rows_begun (suc left) (omega arith) (omega arith)

  -- the first of those that are whole, or else the one that is cut off
  row_4_is : one_at_fault strange (begun w log)
      ≡ cond (some strange (rows left w log)) (Some (first_with strange (rows left w log)))
      (cond (ltb 0 (length (left_over w log)) && leb n (get_or (left_over w log) 0 0)) (Some left) None)
  row_4_is = go (dec_lt (left * width w) (length log))
    where
      size : length (left_over w log) ≡ length log - left * width w
      size = length-drop (left * width w) log

      chosen : Bool → Option ℕ
      chosen b = cond (some strange (rows left w log)) (Some (first_with strange (rows left w log))) (cond (b && leb n (get_or (left_over w log) 0 0)) (Some left) None)

      go : Dec (left * width w < length log) → one_at_fault strange (begun w log) ≡ chosen (ltb 0 (length (left_over w log)))
      go (yes h) = ap (one_at_fault strange) (begun_cut h) ∙ last_row strange w left log ∙ ap chosen (sym (lt-ltb 0 _ (omega (arith, size))))
      go (no h) = ap (one_at_fault strange) (begun_whole (omega arith)) ∙ ap chosen (sym (le-ltb 0 _ (omega (arith, size))))

  module _ (r : Option ℕ) (e : r ≡ first_from strange 0 (entries w log)) where
    pub whole_strange : (k : ℕ) → r ≡ Some k → Some k ≡ one_at_fault strange (begun w log)
    whole_strange k z = go (some strange (entries w log)) _ _ (sym z ∙ e ∙ from_0 strange (entries w log)) ∙ sym row_4_is
      where
        go : (b : Bool) (i : ℕ) (x : Option ℕ) → Some k ≡ cond b (Some i) None → Some k ≡ cond b (Some i) x
        go true i x e = e
        go false i x e = absurd (let z : ◌≡◌ {A = ℕ} 1 0 = ap given e in omega arith)

    module _ (z : r ≡ None) (rest : List ℕ) (er : rest ≡ left_over w log) where
      none_whole : cond (ltb 0 (length rest) && leb n (get_or rest 0 0)) (Some left) None ≡ one_at_fault strange (begun w log)
      none_whole =
          ap (λ ns. cond (ltb 0 (length ns) && leb n (get_or ns 0 0)) (Some left) None) er
          ∙ go (some strange (entries w log)) _ _ (sym z ∙ e ∙ from_0 strange (entries w log)) ∙ sym row_4_is
        where
          go : (b : Bool) (i : ℕ) (x : Option ℕ) → None ≡ cond b (Some i) None → x ≡ cond b (Some i) x
          go true i x e = absurd (let z : ◌≡◌ {A = ℕ} 0 1 = ap given e in omega arith)
          go false i x e = refl

      cut_as : (b d : Bool) → ltb 0 (length rest) ≡ b → leb n (get_or rest 0 0) ≡ d → cond (b && d) (Some left) None ≡ one_at_fault strange (begun w log)
      cut_as b d eb ed = sym (ap₂ (λ b d. cond (b && d) (Some left) None) eb ed) ∙ none_whole

      pub cut_strange : 1 ≤ length rest → n ≤ get_or rest 0 0 → (k : ℕ) → k ≡ left → Some k ≡ one_at_fault strange (begun w log)
      cut_strange h l k ek = ap Some ek ∙ cut_as true true (lt-ltb _ _ (omega arith)) (le-leb _ _ l)

      pub cut_known : get_or rest 0 0 < n → None ≡ one_at_fault strange (begun w log)
      cut_known l = no_one (ltb 0 (length rest)) ∙ cut_as (ltb 0 (length rest)) false refl (lt-leb _ _ l)
        where
          no_one : (b : Bool) → None ≡ cond (b && false) (Some left) None
          no_one true = refl
          no_one false = refl

      pub none_cut : length rest < 1 → None ≡ one_at_fault strange (begun w log)
      none_cut h = cut_as false (leb n (get_or rest 0 0)) (le-ltb _ _ (omega arith)) refl

-- what it means that nothing refuses
pub record Taken (n w : ℕ) (value log : List ℕ) : Type 0 where
  pub narrow : w ≤ 64
  pub value_words : length value ≡ w
  pub fits : Fits w log

-- the causes before one that does not hold
record Cleared {A : Type 0} (b : Bool) (rest : Result (Unit {0}) A) : Type 0 where
  clear : b ≡ false
  next : rest ≡ Ok tt

cleared : {A : Type 0} (b : Bool) (r : A) (rest : Result (Unit {0}) A) → cond b (Err r) rest ≡ Ok tt → Cleared b rest
cleared {A} true r rest e = absurd (let z : ◌≡◌ {A = ℕ} 1 0 = ap refused e in omega arith)
  where
    refused : Result (Unit {0}) A → ℕ
    refused (Ok x) = 0
    refused (Err r) = 1
cleared false r rest e = record { clear = refl; next = e }

pub taken : (n w : ℕ) (value log : List ℕ) → log_refused n w value log ≡ Ok tt → Taken n w value log
unfolding log_refused
taken n w value log e =
    let es = entries w log in
    let c1 = cleared (row1 n).holds _ _ e in
    let c2 = cleared (row2 w).holds _ _ c1.next in
    let c4 = cleared (row4log n (begun w log)).holds _ _ c2.next in
    let c8 = cleared (row8log w value log).holds _ _ c4.next in
    let c16 = cleared (row16 es).holds _ _ c8.next in
    let hw = (w_in w c2.clear).1 in let v = or_none (not (eqb (length value) w)) _ c8.clear in
    let whole : length log % width w ≡ 0 = eqb-true _ 0 (not-false _ v.1) in
    let no_4 = sym (ap (some (λ (e : Entry). leb n e.process)) (begun_whole n w log (omega (arith, div-add-mod' (length log) (width w), whole)))) ∙ c4.clear in
    let low : (e : Entry) → leb n e.process ≡ false → leb 16 e.process ≡ false = λ e x. lt-leb 16 e.process (let z = leb-false n e.process x in omega (arith, (n_in n c1.clear).1)) in
    record {
      narrow = hw;
      value_words = eqb-true _ w (not-false _ v.0);
      fits = record {
        few = let z = ltb-false 512 (length es) c16.clear in let y = rows_length (length log / width w) w log in omega arith;
        known = all_none (λ e. leb 16 e.process) es (all_of (λ (e : Entry). leb n e.process ≡ false) _ low es (none_all (λ (e : Entry). leb n e.process) es no_4));
      };
    }
