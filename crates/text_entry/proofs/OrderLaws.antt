-- The lent memory of a run that goes on is in order: rows 1, 2, 3 and 9 don't hold.
use mathlib.Core.Path.{◌≡◌, sym, ap, ◌∙◌}
use mathlib.Core.Bool.{not, ◌&&◌, ◌||◌}
use mathlib.Core.List.{List, []}
use Prim.Native.Nat.{ℕ, ◌*◌, ◌≤◌}
use native.Mathlib.Omega.{arith}
use lib.Dec.{ltb}
use lib.ListN.{length, take}
use lib.Seq.{take-take}
use borrow.Author.Tests.{ltb-false}
use Rattle.model.specs.declared.Process.{Process}
use Rattle.llsc.specs.declared.Order.TheVariants.{Step}
use Rattle.llsc.specs.Rows.{every, row9}
use Rattle.model.specs.Refusals.{in_range, bench_ok, process_ok}
use Rattle.rows.specs.CommandRows.{InOrder}
use Rattle.rows.proofs.RowLaws.{neither, n_in}
use Rattle.text_entry.specs.RunState.{RunState, progress, Sound}
use Rattle.text_entry.proofs.FilledLaws.{lent_length}
use Rattle.text_model.proofs.ReachedLaws.{Unhindered, unhindered}

module _ {len : ℕ} {h : RunState} (s : Sound len h) (z : h.stop ≡ 0) where
  free : Unhindered (progress len h).memory
  free = unhindered (s.going z).reached 0 Step []

  abbrev list : List Process
  list = h.run.held.all

  pub lent : length (take len list) ≡ len
  lent = lent_length s.few s.filled

  pub enough : h.run.held.bench.n ≤ len
  enough =
      let few = neither (ltb (length h.words) (5 * h.run.held.bench.n * h.run.held.bench.w)) (ltb (length (take len list)) h.run.held.bench.n) free.row_3 in
      omega (arith, ltb-false (length (take len list)) h.run.held.bench.n few.1, lent)

  pub most_processes : h.run.held.bench.n ≤ 16
  most_processes = (n_in h.run.held.bench.n free.row_1).1

  same_range : (row9 (in_range (record { bench = h.run.held.bench; records = list; words = [] }))).holds ≡ (row9 (in_range (progress len h).memory)).holds
  unfolding in_range
  same_range = ap (λ (l : List Process). not (bench_ok h.run.held.bench && every (process_ok h.run.held.bench.n h.run.held.bench.w) l)) (sym (take-take h.run.held.bench.n len list enough))

  pub in_order : InOrder h.run.held.bench list len (length h.words)
  in_order = record {
    row_1 = free.row_1;
    row_2 = free.row_2;
    row_3 = ap (λ (k : ℕ). ltb (length h.words) (5 * h.run.held.bench.n * h.run.held.bench.w) || ltb k h.run.held.bench.n) (sym lent) ∙ free.row_3;
    row_9 = same_range ∙ free.row_9;
  }
