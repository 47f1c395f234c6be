-- The by-value command is the command: what `decided` makes of the gathered records, stored back, is what `model`'s `command` says.
use mathlib.Core.Path.{◌≡◌, refl, sym, ap, ◌∙◌}
use mathlib.Core.List.{List, []}
use mathlib.Core.Bool.{Bool, true, false, cond, not, ◌&&◌}
use Prim.Native.Nat.{ℕ, zero, suc, ◌*◌, ◌≤◌}
use native.Mathlib.Omega.{arith}
use lib.Dec.{ltb}
use lib.ListN.{length, get_or, set}
use lib.Seq.{set_out}
use borrow.Author.Tests.{eq-eqb, ne_eqb, ltb-false, leb-false}
use Rattle.model.specs.declared.Bench.{Bench}
use Rattle.model.specs.declared.Process.{Process}
use Rattle.llsc.specs.declared.Order.{Order}
use Rattle.model.specs.Records.{no_process}
use Rattle.model.specs.Machine.{Memory, obey}
use Rattle.llsc.specs.Rows.{every, row1, row2, row4, row8}
use Rattle.model.specs.Refusals.{in_range, bench_ok, process_ok, row3, row5, row6, row7}
use Rattle.model.specs.Command.{refusal, command}
use Rattle.rows.specs.CommandRows.{decision_number}
use Rattle.text_entry.specs.Decision.{decided, obeyed_at}
use Rattle.lent.specs.Gathered.{gathered}
use Rattle.text_entry.specs.Decision.{stored_back}
use Rattle.rows.proofs.RowLaws.{n_in, neither, none_holds}
use Rattle.text_entry.proofs.ObeyableLaws.{refused_law, obeyed_law}
use Rattle.lent.proofs.GatheredLaws.{gathered_here, gathered_take}

-- two tables with the same first three rows, and then the same number where those do not hold
later : (a c d : Bool) (x y : ℕ) → (a ≡ false → d ≡ false → x ≡ y) → cond a 1 (cond c 2 (cond d 3 x)) ≡ cond a 1 (cond c 2 (cond d 3 y))
later true c d x y f = refl
later false true d x y f = refl
later false false true x y f = refl
later false false false x y f = f refl refl

same_row : (a : Bool) (k x y : ℕ) → (a ≡ false → x ≡ y) → cond a k x ≡ cond a k y
same_row true k x y f = refl
same_row false k x y f = f refl

module _ (b : Bench) (rs : List Process) (ws : List ℕ) (p : ℕ) (o : Order) (v : List ℕ) where
  abbrev list : List Process
  list = gathered rs no_process 16

  abbrev m : Memory
  m = record { bench = b; records = rs; words = ws }

  abbrev number : ℕ
  number = decision_number b list (length rs) p o (length v) (length ws)

  same_range : b.n ≤ 16 → b.n ≤ length rs → in_range (record { bench = b; records = list; words = [] }) ≡ in_range m
  unfolding in_range
  same_range h k = ap (λ (l : List Process). bench_ok b && every (process_ok b.n b.w) l) (gathered_take rs no_process no_process b.n h k)

  abbrev calls : Process → ℕ
  calls q = cond (row8 o b.w (length v)).holds 8 (cond (row5 o q).holds 5 (cond (row6 o q).holds 6 (cond (row7 o q).holds 7 0)))

  abbrev from_9 : Bool → Process → ℕ
  from_9 t q = cond (not t) 9 (cond (row4 b.n p).holds 4 (calls q))

  same_number : number ≡ refusal m p o v
  unfolding decision_number refusal
  same_number =
      later (row1 b.n).holds (row2 b.w).holds (row3 b.n b.w (length rs) (length ws)).holds
      (from_9 (in_range (record { bench = b; records = list; words = [] })) (get_or list p no_process))
      (from_9 (in_range m) (get_or rs p no_process))
      (λ e f.
      let h = (n_in b.n e).1 in
      let k : b.n ≤ length rs = ltb-false (length rs) b.n (neither (ltb (length ws) (5 * b.n * b.w)) (ltb (length rs) b.n) f).1 in
      ap (λ (t : Bool). from_9 t (get_or list p no_process)) (same_range h k) ∙
      same_row (not (in_range m)) 9 _ _ (λ r. same_row (row4 b.n p).holds 4 _ _ (λ s.
      let l = leb-false b.n p s in
      ap calls (gathered_here rs no_process 16 p (omega arith) (omega arith)))))

  by_number : (k : ℕ) → number ≡ k → stored_back rs (decided b list (length rs) p o v ws) ≡ command m p o v
  unfolding command
  by_number zero e =
      let h = none_holds b list (length rs) p o (length v) (length ws) e in
      let q : get_or list p no_process ≡ get_or rs p no_process = gathered_here rs no_process 16 p (omega arith) (omega (arith, h.process, h.n_most)) in
      ap (stored_back rs) (sym (obeyed_law b list (length rs) p o v ws (obey o (record { 0 = p }) v b (get_or list p no_process) ws) e refl)) ∙
      ap (λ (r : Process). stored_back rs (obeyed_at p (obey o (record { 0 = p }) v b r ws))) q ∙
      simp (eq-eqb (refusal m p o v) 0 (sym same_number ∙ e))
  by_number (suc k) e =
      let n : number ≡ 0 → ⊥ = λ z. omega (arith, e, z) in
      let out : set rs (length rs) no_process ≡ rs = set_out rs (length rs) no_process (omega arith) in
      ap (stored_back rs) (sym (refused_law b list (length rs) p o v ws number refl n)) ∙
      simp (out, same_number, ne_eqb (refusal m p o v) 0 (λ z. n (same_number ∙ z)))

  pub decision_law : stored_back rs (decided b (gathered rs no_process 16) (length rs) p o v ws) ≡ command (record { bench = b; records = rs; words = ws }) p o v
  decision_law = by_number number refl
