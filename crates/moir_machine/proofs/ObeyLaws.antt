-- Where no row holds, the order can be obeyed.
use mathlib.Core.Path.{◌≡◌}
use mathlib.Core.List.{List}
use mathlib.Core.Bool.{true}
use Prim.Native.Nat.{ℕ, ◌<◌}
use native.Mathlib.Omega.{arith}
use lib.ListN.{length, get_or, take, length-take}
use lib.Seq.{get_or-take}
use Rattle.moir_model.specs.declared.Bench.{Bench}
use Rattle.moir_model.specs.declared.Process.{Process}
use Rattle.llsc.specs.declared.Order.{Order}
use Rattle.moir_model.specs.Records.{no_process, record_at}
use Rattle.llsc.specs.Rows.{every}
use Rattle.moir_model.specs.Refusals.{header_ok, process_ok, in_range}
use Rattle.moir_steps.specs.Ranges.{Obeyable}
use Rattle.moir_rows.specs.CommandRows.{decision_number}
use Rattle.laws.proofs.AndLaws.{right}
use Rattle.laws.proofs.ListLaws.{every_at}
use Rattle.moir_machine.proofs.RowLaws.{Cleared, none_holds, InRange, in_range_lem}

module _ (b : Bench) (list : List Process) (len p : ℕ) (o : Order) (value words : List ℕ) where
  in_list : length list ≡ 16 → (h : Cleared b list len p o (length value) (length words)) → InRange b.n b.w (get_or list p no_process)
  unfolding in_range
  in_list l h =
      let e : every (process_ok b.n b.w) (take b.n list) ≡ true = right (header_ok b.n b.header)
      (every (process_ok b.n b.w) (take b.n list)) h.range in
      let s : p < length (take b.n list) = simp length-take (omega (arith, h.process, h.n_most)) in
      let f : process_ok b.n b.w (get_or (take b.n list) p no_process) ≡ true = every_at (process_ok b.n b.w) (take b.n list) p no_process e s in
      in_range_lem b.n b.w (get_or list p no_process) h.w_most (rw (get_or-take b.n list p no_process h.process) at f)

  pub obeyable : length list ≡ 16 → decision_number b list len p o (length value) (length words) ≡ 0
      → Obeyable o (record { 0 = p }) value b (record_at list (record { 0 = p })) words
  obeyable l e =
      let h = none_holds b list len p o (length value) (length words) e in
      let q = in_list l h in
      record {
        ready = record {
          standing = record { n_most = h.n_most; w_most = h.w_most; words = h.lent; word = q.word; count = q.count };
          process = h.process;
          x_pid_is = q.x_pid_is;
          new_pid_is = q.new_pid_is;
        };
        value = h.given;
      }

  -- the process that is named has a record, and it is lent
  pub process_lent : decision_number b list len p o (length value) (length words) ≡ 0 → (p < 16) × (p < len)
  process_lent e =
      let h = none_holds b list len p o (length value) (length words) e in
      (omega (arith, h.process, h.n_most), omega (arith, h.process, h.records))
