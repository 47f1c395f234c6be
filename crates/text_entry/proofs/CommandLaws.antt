-- A command of a text run: what the by-value decision comes to, the line of its answer, and that the run stays sound.
use mathlib.Core.Path.{◌≡◌, refl, sym, ap, subst, ◌∙◌}
use mathlib.Core.Bool.{Bool, true, false, cond}
use mathlib.Core.List.{List, [], ◌∷◌}
use Prim.Native.Nat.{ℕ, zero, suc, ◌≤◌}
use native.Mathlib.Omega.{arith}
use lib.Dec.{leb}
use lib.ListN.{length, take}
use borrow.Author.Tests.{leb-true}
use Rattle.model.specs.declared.Bench.{Bench}
use Rattle.model.specs.declared.Process.{Process}
use Rattle.llsc.specs.declared.Order.{Order}
use Rattle.model.specs.declared.Moved.{Moved}
use Rattle.model.specs.Records.{no_process, record_at}
use Rattle.model.specs.Machine.{obey}
use Rattle.llsc.specs.Rows.{Row, first, every}
use Rattle.model.specs.Refusals.{rows_of}
use Rattle.model.specs.Command.{command}
use Rattle.taken.specs.Ranges.{Obeyable}
use Rattle.rows.specs.CommandRows.{ranges_ok, decision_number}
use Rattle.text_entry.specs.Decision.{Outcome, refused_outcome, obeyed_at, decided, stored_back}
use Rattle.lent.specs.Gathered.{gathered}
use Rattle.laws.proofs.AndLaws.{left, right}
use Rattle.rows.proofs.RowLaws.{Cleared, none_holds}
use Rattle.text_entry.proofs.ObeyableLaws.{obeyable, refused_law, obeyed_law}
use Rattle.text_entry.proofs.DecidedLaws.{decision_law}
use Rattle.text_entry.specs.RunState.{Filled}
use Rattle.text_entry.proofs.WordLaws.{Every}
use Rattle.text_entry.proofs.ObeyLaws.{Obeyed, order_obeyed}
use Rattle.text_entry.proofs.FilledLaws.{filled_gathered, lent_length}

-- the numbers of a command's rows are at most 9
either_small : (t : Bool) (k rest : ℕ) → k ≤ 9 → rest ≤ 9 → cond t k rest ≤ 9
either_small true k rest p q = p
either_small false k rest p q = q

pub first_small : (rows : List Row) → every (λ r. leb r.number 9) rows ≡ true → first rows ≤ 9
first_small [] e = omega arith
first_small (r ∷ rows) e =
    let rest = every (λ (s : Row). leb s.number 9) rows in
    either_small r.holds r.number (first rows) (leb-true r.number 9 (left (leb r.number 9) rest e)) (first_small rows (right (leb r.number 9) rest e))

module _ (b : Bench) (list : List Process) (len p : ℕ) (o : Order) (v ws : List ℕ) where
  abbrev number : ℕ
  number = decision_number b list len p o (length v) (length ws)

  abbrev own : Process
  own = record_at list (record { 0 = p })

  number_small : number ≤ 9
  unfolding decision_number
  number_small = first_small (rows_of b.n b.w len (length ws) (ranges_ok b list) p o (length v) own) refl

  -- what a decision comes to: obeyed, with what no row's holding means, or refused
  pub data Decides : Outcome × List ℕ → Type 0 where
    obeys : (out : Moved × List ℕ) → Cleared b list len p o (length v) (length ws) → Obeyable o (record { 0 = p }) v b own ws → Obeyed b own ws out → Decides (obeyed_at p out)
    refuses : (k : ℕ) → (k ≡ 0 → ⊥) → k ≤ 9 → Decides (refused_outcome b len k, ws)

  module _ (sixteen : length list ≡ 16) (e : Every v) where
    by_number : (k : ℕ) → number ≡ k → Decides (decided b list len p o v ws)
    by_number zero z =
        let h = obeyable b list len p o v ws sixteen z in
        subst Decides (obeyed_law b list len p o v ws (obey o (record { 0 = p }) v b own ws) z refl)
        (obeys (obey o (record { 0 = p }) v b own ws) (none_holds b list len p o (length v) (length ws) z) h (order_obeyed h.ready o v e))
    by_number (suc k) z =
        let n : number ≡ 0 → ⊥ = λ y. omega (arith, y, z) in
        subst Decides (refused_law b list len p o v ws number refl n) (refuses number n number_small)

    pub decides : Decides (decided b list len p o v ws)
    decides = by_number number refl

  -- stored back, it is the command
  pub decided_command : len ≤ 16 → Filled len list → stored_back (take len list) (decided b list len p o v ws) ≡ command (record { bench = b; records = take len list; words = ws }) p o v
  decided_command h f =
      let g : list ≡ gathered (take len list) no_process 16 = filled_gathered len list f in
      let l : length (take len list) ≡ len = lent_length h f in
      ap (λ (x : List Process). stored_back (take len list) (decided b x len p o v ws)) g ∙
      ap (λ (x : ℕ). stored_back (take len list) (decided b (gathered (take len list) no_process 16) x p o v ws)) (sym l) ∙
      decision_law b (take len list) ws p o v
