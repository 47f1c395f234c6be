-- What it means that a command is not refused: N, W, its process and the numbers of row 9 are in range.
use mathlib.Core.Path.{◌≡◌, refl}
use mathlib.Core.Bool.{Bool, true, false, cond, ◌&&◌}
use mathlib.Core.List.{List}
use Prim.Native.Nat.{ℕ, zero, suc, ◌<◌, ◌≤◌}
use native.Mathlib.Omega.{arith}
use lib.Dec.{eqb, ltb, leb}
use lib.ListN.{length, get_or, take}
use lib.Seq.{length-take-le, get_or-take}
use borrow.Author.Tests.{eq-eqb, ne_eqb, ltb-true, leb-true}
use Rattle.llsc.specs.declared.Order.{Order}
use Rattle.llsc.specs.Rows.{every}
use Rattle.moir_model.specs.declared.Header.{Header}
use Rattle.moir_model.specs.declared.Bench.{Bench}
use Rattle.moir_model.specs.declared.Process.{Process}
use Rattle.moir_model.specs.declared.Reply.{Reply}
use Rattle.moir_model.specs.declared.Reply.TheVariants.{Refused}
use Rattle.moir_model.specs.Records.{no_process, record_at}
use Rattle.moir_model.specs.Sizes.{busy_most}
use Rattle.moir_model.specs.Machine.{Memory}
use Rattle.moir_model.specs.Refusals.{header_ok, line_ok, count_ok, is_idle, process_ok, in_range}
use Rattle.moir_model.specs.Command.{command, refusal, obeyed}
use Rattle.moir_model.specs.Replies.{number_of}
use Rattle.moir_rows.specs.CommandRows.{decision_number}
use Rattle.moir_machine.proofs.RowLaws.{Cleared, none_holds}
use Rattle.laws.proofs.AndLaws.{left, right}
use Rattle.laws.proofs.ListLaws.{every_at}

-- what rows 1, 2, 4 and 9 leave of the bench b and of the record q of process p
pub record InOrder (b : Bench) (q : Process) (p : ℕ) : Type 0 where
  pub n_most : b.n ≤ 16
  pub w_most : b.w ≤ 64
  pub process : p < b.n
  pub header : b.header.pid.0 < b.n
  pub x : q.x.pid.0 < b.n
  pub oldhdr : q.oldhdr.pid.0 < b.n
  pub newhdr : q.newhdr.pid.0 < b.n
  pub line : line_ok q ≡ true
  pub word : q.word < b.w
  pub count : q.count ≤ busy_most b.w

count_most : (idle : Bool) (k w : ℕ) → leb k (cond idle 0 (busy_most w)) ≡ true → k ≤ busy_most w
count_most true k w e = omega (arith, leb-true k 0 e)
count_most false k w e = leb-true k (busy_most w) e

-- a command that is not refused
module _ (m : Memory) (p : ℕ) (o : Order) (v : List ℕ) where
  pub unrefused : number_of (command m p o v).0 ≡ 0 → refusal m p o v ≡ 0
  unfolding command
  unrefused e = by (refusal m p o v) e
    where
      by : (k : ℕ) → number_of (cond {A = Reply × Memory} (eqb k 0) (obeyed m (record { 0 = p }) o v) (Refused k, m)).0 ≡ 0 → k ≡ 0
      by zero e = refl
      by (suc k) e = rw (ne_eqb (suc k) 0 (λ y. omega arith)) at e

  pub left_by : number_of (command m p o v).0 ≡ 0 → command m p o v ≡ obeyed m (record { 0 = p }) o v
  unfolding command
  left_by e = simp (eq-eqb (refusal m p o v) 0 (unrefused e))

  module _ (z : refusal m p o v ≡ 0) where
    abbrev b : Bench
    b = m.bench

    abbrev own : Process
    own = record_at m.records (record { 0 = p })

    pub cleared : Cleared b m.records (length m.records) p o (length v) (length m.words)
    unfolding refusal in_range decision_number
    cleared = none_holds b m.records (length m.records) p o (length v) (length m.words) z

    -- what row 9 looks at: the header and the own record
    row_9 : (header_ok b.n b.header ≡ true) × (process_ok b.n b.w own ≡ true)
    unfolding in_range
    row_9 =
        let c = cleared in
        let all = every (process_ok b.n b.w) (take b.n m.records) in
        let e : all ≡ true = right (header_ok b.n b.header) all c.range in
        let s : p < length (take b.n m.records) = omega (arith, length-take-le b.n m.records c.records, c.process) in
        let f : process_ok b.n b.w (get_or (take b.n m.records) p no_process) ≡ true = every_at (process_ok b.n b.w) (take b.n m.records) p no_process e s in
        (left (header_ok b.n b.header) all c.range, rw (get_or-take b.n m.records p no_process c.process) at f)

    pub in_order : InOrder b own p
    in_order =
        let c = cleared in
        let k = count_ok b.w own in
        let lt = ltb own.word b.w in
        let l = line_ok own in
        let ok : Header → Bool = header_ok b.n in
        let e = row_9.1 in
        let e1 = right (ok own.x) (ok own.oldhdr && (ok own.newhdr && (ok own.h && (l && (lt && k))))) e in
        let e2 = right (ok own.oldhdr) (ok own.newhdr && (ok own.h && (l && (lt && k)))) e1 in
        let e3 = right (ok own.newhdr) (ok own.h && (l && (lt && k))) e2 in
        let e4 = right (ok own.h) (l && (lt && k)) e3 in
        let e5 = right l (lt && k) e4 in
        record {
          n_most = c.n_most;
          w_most = c.w_most;
          process = c.process;
          header = ltb-true b.header.pid.0 b.n row_9.0;
          x = ltb-true own.x.pid.0 b.n (left (ok own.x) (ok own.oldhdr && (ok own.newhdr && (ok own.h && (l && (lt && k))))) e);
          oldhdr = ltb-true own.oldhdr.pid.0 b.n (left (ok own.oldhdr) (ok own.newhdr && (ok own.h && (l && (lt && k)))) e1);
          newhdr = ltb-true own.newhdr.pid.0 b.n (left (ok own.newhdr) (ok own.h && (l && (lt && k))) e2);
          line = left l (lt && k) e4;
          word = ltb-true own.word b.w (left lt k e5);
          count = count_most (is_idle own) own.count b.w (right lt k e5);
        }
