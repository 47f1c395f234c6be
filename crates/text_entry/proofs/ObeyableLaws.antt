-- Where no row holds, the order can be obeyed.
use mathlib.Core.Path.{◌≡◌, ap, ◌∙◌}
use mathlib.Core.List.{List}
use mathlib.Core.Bool.{true}
use Prim.Native.Nat.{ℕ, ◌<◌}
use native.Mathlib.Omega.{arith}
use lib.ListN.{length, get_or, take, length-take}
use lib.Seq.{get_or-take}
use borrow.Author.Tests.{eq-eqb, ne_eqb}
use Rattle.model.specs.declared.Bench.{Bench}
use Rattle.model.specs.declared.Process.{Process}
use Rattle.llsc.specs.declared.Order.{Order}
use Rattle.model.specs.declared.Moved.{Moved}
use Rattle.model.specs.Records.{no_process, record_at}
use Rattle.model.specs.Machine.{obey}
use Rattle.llsc.specs.Rows.{every}
use Rattle.model.specs.Refusals.{in_range, bench_ok, process_ok}
use Rattle.taken.specs.Ranges.{Obeyable}
use Rattle.rows.specs.CommandRows.{decision_number}
use Rattle.text_entry.specs.Decision.{refused_outcome, obeyed_at, decided}
use Rattle.laws.proofs.AndLaws.{right}
use Rattle.laws.proofs.ListLaws.{every_at}
use Rattle.rows.proofs.RowLaws.{Cleared, none_holds, InRange, in_range_lem}

module _ (b : Bench) (list : List Process) (len p : ℕ) (o : Order) (value words : List ℕ) where
  in_list : length list ≡ 16 → (h : Cleared b list len p o (length value) (length words)) → InRange b.n b.w (get_or list p no_process)
  unfolding in_range
  in_list l h =
      let e : every (process_ok b.n b.w) (take b.n list) ≡ true = right (bench_ok b) (every (process_ok b.n b.w) (take b.n list)) h.range in
      let s : p < length (take b.n list) = simp length-take (omega (arith, h.process, h.n_most)) in
      let f : process_ok b.n b.w (get_or (take b.n list) p no_process) ≡ true = every_at (process_ok b.n b.w) (take b.n list) p no_process e s in
      in_range_lem b.n b.w (get_or list p no_process) h.w_most (rw (get_or-take b.n list p no_process h.process) at f)

  pub obeyable : length list ≡ 16 → decision_number b list len p o (length value) (length words) ≡ 0 → Obeyable o (record { 0 = p }) value b (record_at list (record { 0 = p })) words
  obeyable l e =
      let h = none_holds b list len p o (length value) (length words) e in
      let q = in_list l h in
      record {
        ready = record {
          lent = record { n_some = h.n_some; n_most = h.n_most; w_most = h.w_most; process = h.process; words = h.lent };
          mybuf = q.mybuf;
          x_buf = q.x_buf;
          x_seq = q.x_seq;
          b_buf = q.b_buf;
          word = q.word;
          count = q.count;
        };
        value = h.given;
      }

  -- the two answers of a decision
  pub refused_law : (k : ℕ) → k ≡ decision_number b list len p o (length value) (length words) → (k ≡ 0 → ⊥) → (refused_outcome b len k, words) ≡ decided b list len p o value words
  unfolding decided
  refused_law k e h = rw e (simp (ne_eqb (decision_number b list len p o (length value) (length words)) 0 (λ z. h (e ∙ z))))

  pub obeyed_law : (out : Moved × List ℕ) → decision_number b list len p o (length value) (length words) ≡ 0
      → out ≡ obey o (record { 0 = p }) value b (record_at list (record { 0 = p })) words → obeyed_at p out ≡ decided b list len p o value words
  unfolding decided
  obeyed_law out e h = ap (obeyed_at p) h ∙ simp (eq-eqb (decision_number b list len p o (length value) (length words)) 0 e)
