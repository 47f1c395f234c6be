-- The refusal table: the first row that holds, and what it means that none does.
use mathlib.Core.Path.{◌≡◌, refl, sym}
use mathlib.Core.List.{List, [], ◌∷◌}
use mathlib.Core.Bool.{Bool, true, false, cond, not, ◌&&◌, ◌||◌}
use Prim.Native.Nat.{ℕ, suc, ◌*◌, ◌<◌, ◌≤◌}
use native.Mathlib.Omega.{arith}
use lib.Dec.{eqb, ltb, leb}
use borrow.Author.Tests.{ltb-true, ltb-false, leb-true, leb-false, eqb-true, not-false}
use Rattle.model.specs.declared.Bench.{Bench}
use Rattle.model.specs.declared.Process.{Process}
use Rattle.llsc.specs.declared.Order.{Order}
use Rattle.model.specs.Records.{record_at}
use Rattle.model.specs.Sizes.{lent_words, halves, busy_most}
use Rattle.llsc.specs.Rows.{first, row1, row2, row4, row8, row9}
use Rattle.model.specs.Refusals.{row3, row5, row6, row7}
use Rattle.llsc.specs.Rows.{brings_value}
use Rattle.model.specs.Refusals.{in_range, process_ok, buffer_ok, sequence_ok, x_ok, line_ok, count_ok, is_idle}
use Rattle.rows.specs.CommandRows.{ranges_ok, decision_number, late_number, InOrder}
use Rattle.laws.proofs.AndLaws.{left, right}

-- a row that does not hold is passed, one that does answers
pub over : (a : Bool) (k : ℕ) {r rest : ℕ} → a ≡ false → r ≡ rest → r ≡ cond a k rest
over true k {r} {rest} e h = cc
over false k e h = h

pub here : (a : Bool) (k rest : ℕ) → a ≡ true → k ≡ cond a k rest
here true k rest e = refl
here false k rest e = cc

-- where the number is 0, the first row does not hold, nor a later one
pub cleared : (a : Bool) (k rest : ℕ) → cond a (suc k) rest ≡ 0 → (a ≡ false) × (rest ≡ 0)
cleared true k rest e = let z : ⊥ = omega (arith, e) in absurd z
cleared false k rest e = (refl, e)

-- what rows 1 and 2 leave
pub n_in : (n : ℕ) → (row1 n).holds ≡ false → (0 < n) × (n ≤ 16)
n_in n e = let h = not-false (leb 1 n && leb n 16) e in (leb-true 1 n (left (leb 1 n) (leb n 16) h), leb-true n 16 (right (leb 1 n) (leb n 16) h))

pub w_in : (w : ℕ) → (row2 w).holds ≡ false → (0 < w) × (w ≤ 64)
w_in w e = let h = not-false (leb 1 w && leb w 64) e in (leb-true 1 w (left (leb 1 w) (leb w 64) h), leb-true w 64 (right (leb 1 w) (leb w 64) h))

pub neither : (a b : Bool) → (a || b) ≡ false → (a ≡ false) × (b ≡ false)
neither true true e = (e, e)
neither true false e = (e, refl)
neither false true e = (refl, e)
neither false false e = (refl, refl)

-- rows 1, 2, 3: the first that holds answers, whatever follows; where none does, all that they speak of is in order
pub record LentInOrder (n w records words : ℕ) : Type 0 where
  pub n_some : 0 < n
  pub n_most : n ≤ 16
  pub w_most : w ≤ 64
  pub words_lent : lent_words n w ≤ words
  pub records_lent : n ≤ records

module _ (n w records words : ℕ) where
  -- rows 1, 2, 3 before rows that say `rest`
  abbrev lent_then : ℕ → ℕ
  lent_then rest = cond (row1 n).holds 1 (cond (row2 w).holds 2 (cond (row3 n w records words).holds 3 rest))

  pub record LentPassed (rest : ℕ) : Type 0 where
    pub row_1 : (row1 n).holds ≡ false
    pub row_2 : (row2 w).holds ≡ false
    pub row_3 : (row3 n w records words).holds ≡ false
    pub others : rest ≡ 0

  none_of_three : (rest : ℕ) → lent_then rest ≡ 0 → LentPassed rest
  none_of_three rest e =
      let r3 : ℕ = cond (row3 n w records words).holds 3 rest in
      let c1 = cleared (row1 n).holds 0 (cond (row2 w).holds 2 r3) e in
      let c2 = cleared (row2 w).holds 1 r3 c1.1 in
      let c3 = cleared (row3 n w records words).holds 2 rest c2.1 in
      record { row_1 = c1.0; row_2 = c2.0; row_3 = c3.0; others = c3.1 }

  in_order : {rest : ℕ} → LentPassed rest → LentInOrder n w records words
  in_order l =
      let few = neither (ltb words (lent_words n w)) (ltb records n) l.row_3 in
      record {
        n_some = (n_in n l.row_1).0;
        n_most = (n_in n l.row_1).1;
        w_most = (w_in w l.row_2).1;
        words_lent = ltb-false words (lent_words n w) few.0;
        records_lent = ltb-false records n few.1;
      }

  -- where no row holds of a list that begins with them
  pub begins_in_order : (rest : ℕ) → lent_then rest ≡ 0 → LentInOrder n w records words × (rest ≡ 0)
  begins_in_order rest e = let l = none_of_three rest e in (in_order l, l.others)

-- what row 9 leaves of a process
pub record InRange (n w : ℕ) (q : Process) : Type 0 where
  pub mybuf : q.mybuf.0 < 3 * n
  pub x_buf : q.x.buf.0 < 3 * n
  pub x_seq : q.x.seq.0 < 2 * n
  pub b_buf : q.b.0 < 3 * n
  pub word : q.word < halves w
  pub count : q.count < 4294967296

count_small : (idle : Bool) (k w : ℕ) → w ≤ 64 → leb k (cond idle 0 (busy_most w)) ≡ true → k < 4294967296
count_small true k w h e = omega (arith, leb-true k 0 e)
count_small false k w h e = omega (arith, leb-true k (busy_most w) e)

pub in_range_lem : (n w : ℕ) (q : Process) → w ≤ 64 → process_ok n w q ≡ true → InRange n w q
in_range_lem n w q h e =
    let k = count_ok w q in
    let lt = ltb q.word (halves w) in
    let l = line_ok q in
    let be = buffer_ok n q.e in
    let bd = buffer_ok n q.d in
    let bc = buffer_ok n q.c in
    let bb = buffer_ok n q.b in
    let x = x_ok n q.x in
    let m = buffer_ok n q.mybuf in
    let e1 : (x && (bb && (bc && (bd && (be && (l && (lt && k))))))) ≡ true = right m (x && (bb && (bc && (bd && (be && (l && (lt && k))))))) e in
    let e2 : (bb && (bc && (bd && (be && (l && (lt && k)))))) ≡ true = right x (bb && (bc && (bd && (be && (l && (lt && k)))))) e1 in
    let e3 : (bc && (bd && (be && (l && (lt && k))))) ≡ true = right bb (bc && (bd && (be && (l && (lt && k))))) e2 in
    let e4 : (bd && (be && (l && (lt && k)))) ≡ true = right bc (bd && (be && (l && (lt && k)))) e3 in
    let e5 : (be && (l && (lt && k))) ≡ true = right bd (be && (l && (lt && k))) e4 in
    let e6 : (l && (lt && k)) ≡ true = right be (l && (lt && k)) e5 in
    let e7 : (lt && k) ≡ true = right l (lt && k) e6 in
    let ex : x ≡ true = left x (bb && (bc && (bd && (be && (l && (lt && k)))))) e1 in
    record {
      mybuf = ltb-true q.mybuf.0 (3 * n) (left m (x && (bb && (bc && (bd && (be && (l && (lt && k))))))) e);
      x_buf = ltb-true q.x.buf.0 (3 * n) (left (buffer_ok n q.x.buf) (sequence_ok n q.x.seq) ex);
      x_seq = ltb-true q.x.seq.0 (2 * n) (right (buffer_ok n q.x.buf) (sequence_ok n q.x.seq) ex);
      b_buf = ltb-true q.b.0 (3 * n) (left bb (bc && (bd && (be && (l && (lt && k))))) e2);
      word = ltb-true q.word (halves w) (left lt k e7);
      count = count_small (is_idle q) q.count w h (right lt k e7);
    }

module _ (b : Bench) (list : List Process) (len p : ℕ) (o : Order) (value words : ℕ) where
  -- where the lent memory is in order, the late rows decide
  pub late_decides : InOrder b list len words → late_number b.n b.w list p o value ≡ decision_number b list len p o value words
  unfolding late_number decision_number
  late_decides h = over _ 1 h.row_1 (over _ 2 h.row_2 (over _ 3 h.row_3 (over _ 9 h.row_9 refl)))

  -- what it means that no row holds
  pub record Cleared : Type 0 where
    pub n_some : 0 < b.n
    pub n_most : b.n ≤ 16
    pub w_most : b.w ≤ 64
    pub lent : 5 * b.n * b.w ≤ words
    pub records : b.n ≤ len
    pub range : in_range (record { bench = b; records = list; words = [] }) ≡ true
    pub process : p < b.n
    pub given : brings_value o ≡ true → value ≡ b.w

  q : Process
  q = record_at list (record { 0 = p })

  given_of : (brings same : Bool) → (brings && not same) ≡ false → brings ≡ true → same ≡ true
  given_of true true e t = refl
  given_of true false e t = sym e
  given_of false true e t = refl
  given_of false false e t = t

  pub none_holds : decision_number b list len p o value words ≡ 0 → Cleared
  unfolding decision_number q
  none_holds e =
      let r5 : ℕ = first (row5 o q ∷ row6 o q ∷ row7 o q ∷ []) in
      let r8 : ℕ = cond (row8 o b.w value).holds 8 r5 in
      let r4 : ℕ = cond (row4 b.n p).holds 4 r8 in
      let c3 = begins_in_order b.n b.w len words (cond (row9 (ranges_ok b list)).holds 9 r4) e in
      let c9 = cleared (row9 (ranges_ok b list)).holds 8 r4 c3.1 in
      let c4 = cleared (row4 b.n p).holds 3 r8 c9.1 in
      let c8 = cleared (row8 o b.w value).holds 7 r5 c4.1 in
      record {
        n_some = c3.0.n_some;
        n_most = c3.0.n_most;
        w_most = c3.0.w_most;
        lent = c3.0.words_lent;
        records = c3.0.records_lent;
        range = not-false (in_range (record { bench = b; records = list; words = [] })) c9.0;
        process = leb-false b.n p c4.0;
        given = λ t. eqb-true value b.w (given_of (brings_value o) (eqb value b.w) c8.0 t);
      }
