-- What it means that no row of the refusal table holds.
use mathlib.Core.Path.{◌≡◌, refl, sym}
use mathlib.Core.List.{List, []}
use mathlib.Core.Bool.{Bool, true, false, cond, not, ◌&&◌}
use Prim.Native.Nat.{ℕ, ◌+◌, ◌*◌, ◌<◌, ◌≤◌}
use native.Mathlib.Omega.{arith}
use lib.Dec.{eqb, ltb, leb}
use borrow.Author.Tests.{ltb-true, ltb-false, leb-true, leb-false, eqb-true, not-false}
use Rattle.llsc.specs.declared.Order.{Order}
use Rattle.llsc.specs.Rows.{row1, row2, row4, row8, row9, brings_value}
use Rattle.moir_model.specs.declared.Header.{Header}
use Rattle.moir_model.specs.declared.Bench.{Bench}
use Rattle.moir_model.specs.declared.Process.{Process}
use Rattle.moir_model.specs.Records.{record_at}
use Rattle.moir_model.specs.Sizes.{busy_most}
use Rattle.moir_model.specs.Refusals.{header_ok, line_ok, count_ok, is_idle, process_ok, in_range, row3, row5, row6, row7}
use Rattle.laws.proofs.AndLaws.{left, right}
use Rattle.rows.proofs.RowLaws.{cleared, n_in, w_in, neither}
use Rattle.moir_rows.specs.CommandRows.{ranges_ok, decision_number}

-- what row 9 leaves of a process
pub record InRange (n w : ℕ) (q : Process) : Type 0 where
  pub x_pid_is : q.x.pid.0 < n
  pub new_pid_is : q.newhdr.pid.0 < n
  pub word : q.word < w
  pub count : q.count < 4294967296

count_small : (idle : Bool) (k w : ℕ) → w ≤ 64 → leb k (cond idle 0 (busy_most w)) ≡ true → k < 4294967296
count_small true k w h e = omega (arith, leb-true k 0 e)
count_small false k w h e = omega (arith, leb-true k (busy_most w) e)

pub in_range_lem : (n w : ℕ) (q : Process) → w ≤ 64 → process_ok n w q ≡ true → InRange n w q
in_range_lem n w q h e =
    let k = count_ok w q in
    let lt = ltb q.word w in
    let l = line_ok q in
    let ok : Header → Bool = header_ok n in
    let e1 = right (ok q.x) (ok q.oldhdr && (ok q.newhdr && (ok q.h && (l && (lt && k))))) e in
    let e2 = right (ok q.oldhdr) (ok q.newhdr && (ok q.h && (l && (lt && k)))) e1 in
    let e3 = right (ok q.newhdr) (ok q.h && (l && (lt && k))) e2 in
    let e4 = right (ok q.h) (l && (lt && k)) e3 in
    let e5 = right l (lt && k) e4 in
    record {
      x_pid_is = ltb-true q.x.pid.0 n (left (ok q.x) (ok q.oldhdr && (ok q.newhdr && (ok q.h && (l && (lt && k))))) e);
      new_pid_is = ltb-true q.newhdr.pid.0 n (left (ok q.newhdr) (ok q.h && (l && (lt && k))) e2);
      word = ltb-true q.word w (left lt k e5);
      count = count_small (is_idle q) q.count w h (right lt k e5);
    }

module _ (b : Bench) (list : List Process) (len p : ℕ) (o : Order) (value words : ℕ) where
  -- what it means that no row holds
  pub record Cleared : Type 0 where
    pub n_some : 0 < b.n
    pub n_most : b.n ≤ 16
    pub w_most : b.w ≤ 64
    pub lent : (3 * b.n + 1) * b.w ≤ words
    pub records : b.n ≤ len
    pub range : in_range (record { bench = b; records = list; words = [] }) ≡ true
    pub process : p < b.n
    pub given : brings_value o ≡ true → value ≡ b.w
    pub busy : (row6 o (record_at list (record { 0 = p }))).holds ≡ false

  q : Process
  q = record_at list (record { 0 = p })

  given_of : (brings same : Bool) → (brings && not same) ≡ false → brings ≡ true → same ≡ true
  given_of true true e t = refl
  given_of true false e t = sym e
  given_of false true e t = refl
  given_of false false e t = t

  pub none_holds : decision_number b list len p o value words ≡ 0 → Cleared
  unfolding decision_number q
  none_holds e =
      let r7 : ℕ = cond (row7 o q).holds 7 0 in
      let r6 : ℕ = cond (row6 o q).holds 6 r7 in
      let r5 : ℕ = cond (row5 o q).holds 5 r6 in
      let r8 : ℕ = cond (row8 o b.w value).holds 8 r5 in
      let r4 : ℕ = cond (row4 b.n p).holds 4 r8 in
      let r9 : ℕ = cond (row9 (ranges_ok b list)).holds 9 r4 in
      let r3 : ℕ = cond (row3 b.n b.w len words).holds 3 r9 in
      let r2 : ℕ = cond (row2 b.w).holds 2 r3 in
      let c1 = cleared (row1 b.n).holds 0 r2 e in
      let c2 = cleared (row2 b.w).holds 1 r3 c1.1 in
      let c3 = cleared (row3 b.n b.w len words).holds 2 r9 c2.1 in
      let c9 = cleared (row9 (ranges_ok b list)).holds 8 r4 c3.1 in
      let c4 = cleared (row4 b.n p).holds 3 r8 c9.1 in
      let c8 = cleared (row8 o b.w value).holds 7 r5 c4.1 in
      let c5 = cleared (row5 o q).holds 4 r6 c8.1 in
      let c6 = cleared (row6 o q).holds 5 r7 c5.1 in
      let few = neither (ltb words ((3 * b.n + 1) * b.w)) (ltb len b.n) c3.0 in
      record {
        n_some = (n_in b.n c1.0).0;
        n_most = (n_in b.n c1.0).1;
        w_most = (w_in b.w c2.0).1;
        lent = ltb-false words ((3 * b.n + 1) * b.w) few.0;
        records = ltb-false len b.n few.1;
        range = not-false (in_range (record { bench = b; records = list; words = [] })) c9.0;
        process = leb-false b.n p c4.0;
        given = λ t. eqb-true value b.w (given_of (brings_value o) (eqb value b.w) c8.0 t);
        busy = c6.0;
      }
