-- The by-value command is the command: what `decided` makes of the gathered records, stored back, is what `moir_model`'s `command` says.
use mathlib.Core.Path.{◌≡◌, refl, sym, ap, ◌∙◌}
use mathlib.Core.List.{List, []}
use mathlib.Core.Bool.{Bool, true, false, cond, not, ◌&&◌}
use Prim.Native.Nat.{ℕ, ◌+◌, ◌*◌, ◌≤◌}
use native.Mathlib.Omega.{arith}
use lib.Dec.{ltb}
use lib.ListN.{length, get_or}
use borrow.Author.Tests.{eq-eqb, ne_eqb, ltb-false, leb-false}
use Rattle.moir_model.specs.declared.Bench.{Bench}
use Rattle.moir_model.specs.declared.Process.{Process}
use Rattle.llsc.specs.declared.Order.{Order}
use Rattle.std.specs.Prelude.{Result, Ok, Err}
use Rattle.llsc.specs.declared.refusals.Refusal.{Refusal}
use Rattle.llsc.specs.Refusals.{refusal_number}
use Rattle.moir_model.specs.declared.Moved.{Moved}
use Rattle.moir_model.specs.Records.{no_process}
use Rattle.moir_model.specs.Machine.{Memory, obey}
use Rattle.llsc.specs.Rows.{every, row1, row2, row4, row8}
use Rattle.moir_model.specs.Refusals.{header_ok, process_ok, in_range, row3, row5, row6, row7}
use Rattle.moir_model.specs.Command.{refusal, command}
use Rattle.moir_rows.specs.CommandRows.{decision_number}
use Rattle.moir_machine.specs.Decision.{Decides, stored_back}
use Rattle.lent.specs.Gathered.{gathered}
use Rattle.rows.proofs.RowLaws.{n_in, neither}
use Rattle.llsc.proofs.RefusalNumbers.{number_some}
use Rattle.moir_machine.proofs.RowLaws.{none_holds}
use Rattle.lent.proofs.GatheredLaws.{gathered_at, gathered_take}

-- two tables with the same first three rows, and then the same number where those do not hold
later : (a c d : Bool) (x y : ℕ) → (a ≡ false → d ≡ false → x ≡ y) → cond a 1 (cond c 2 (cond d 3 x)) ≡ cond a 1 (cond c 2 (cond d 3 y))
later true c d x y f = refl
later false true d x y f = refl
later false false true x y f = refl
later false false false x y f = f refl refl

same_row : (a : Bool) (k x y : ℕ) → (a ≡ false → x ≡ y) → cond a k x ≡ cond a k y
same_row true k x y f = refl
same_row false k x y f = f refl

module _ (b : Bench) (rs : List Process) (ws : List ℕ) (p : ℕ) (o : Order) (v : List ℕ) where
  abbrev list : List Process
  list = gathered rs no_process 16

  abbrev m : Memory
  m = record { bench = b; records = rs; words = ws }

  abbrev number : ℕ
  number = decision_number b list (length rs) p o (length v) (length ws)

  same_range : b.n ≤ 16 → b.n ≤ length rs → in_range (record { bench = b; records = list; words = [] }) ≡ in_range m
  unfolding in_range
  same_range h k = ap (λ (l : List Process). header_ok b.n b.header && every (process_ok b.n b.w) l) (gathered_take rs no_process no_process b.n h k)

  abbrev calls : Process → ℕ
  calls q = cond (row8 o b.w (length v)).holds 8 (cond (row5 o q).holds 5 (cond (row6 o q).holds 6 (cond (row7 o q).holds 7 0)))

  abbrev from_9 : Bool → Process → ℕ
  from_9 t q = cond (not t) 9 (cond (row4 b.n p).holds 4 (calls q))

  same_number : number ≡ refusal m p o v
  unfolding decision_number refusal
  same_number =
      later (row1 b.n).holds (row2 b.w).holds (row3 b.n b.w (length rs) (length ws)).holds
      (from_9 (in_range (record { bench = b; records = list; words = [] })) (get_or list p no_process))
      (from_9 (in_range m) (get_or rs p no_process))
      (λ e f.
      let h = (n_in b.n e).1 in
      let k : b.n ≤ length rs = ltb-false (length rs) b.n (neither (ltb (length ws) ((3 * b.n + 1) * b.w)) (ltb (length rs) b.n) f).1 in
      ap (λ (t : Bool). from_9 t (get_or list p no_process)) (same_range h k) ∙
      same_row (not (in_range m)) 9 _ _ (λ r. same_row (row4 b.n p).holds 4 _ _ (λ s.
      let l = leb-false b.n p s in
      ap calls (gathered_at rs no_process no_process 16 p (omega arith) (omega arith) (omega arith)))))

  pub decision_law : (out : Result Moved Refusal) (ws' : List ℕ) → Decides b list (length rs) p o v ws out ws' → stored_back b rs p out ws' ≡ command m p o v
  unfolding command
  decision_law (Ok done) ws' x =
      let h = none_holds b list (length rs) p o (length v) (length ws) x.0 in
      let q : get_or list p no_process ≡ get_or rs p no_process =
      gathered_at rs no_process no_process 16 p (omega arith) (omega (arith, h.process, h.n_most)) (omega (arith, h.process, h.records)) in
      ap (λ (out : Moved × List ℕ). stored_back b rs p (Ok out.0) out.1) (x.1 ∙ ap (λ (r : Process). obey o (record { 0 = p }) v b r ws) q) ∙
      simp (eq-eqb (refusal m p o v) 0 (sym same_number ∙ x.0))
  decision_law (Err r) ws' x =
      let e : refusal m p o v ≡ refusal_number r = sym same_number ∙ x.0 in
      simp (x.1, e, ne_eqb (refusal_number r) 0 (number_some r))
