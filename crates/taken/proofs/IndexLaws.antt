-- Which places a step takes: the indices by the line's number, and that they lie in their tables.
use mathlib.Core.List.{List}
use mathlib.Core.Bool.{Bool, true, false, cond}
use Prim.Native.Nat.{ℕ, ◌+◌, ◌*◌, ◌<◌}
use native.Mathlib.Nat.{mod-lt}
use native.Mathlib.Omega.{arith}
use lib.Dec.{eqb}
use Rattle.model.specs.declared.SequenceNumber.{SequenceNumber}
use Rattle.llsc.specs.declared.ProcessNumber.{ProcessNumber}
use Rattle.model.specs.declared.Process.{Process}
use Rattle.model.specs.Tables.{next, helped}
use Rattle.model.specs.Points.{Point, line_number}
use Rattle.model.specs.Points.{line14, line15, line18}
use Rattle.taken.specs.Ranges.{Ready}
use Rattle.taken.specs.Taken.{bank_index, help_index}

-- what both cases have, a choice between them has
either : {A : Type 0} (P : A → Type 0) (t : Bool) {a b : A} → P a → P b → P (cond t a b)
either P true h i = h
either P false h i = i

-- a step's indices, at any point
module _ {n w : ℕ} {q : Process} {p : ProcessNumber} {ws : List ℕ} (r : Ready n w q p ws) (y : Point) where
  pub bank_index_in : (bank_index y n q).0 < 2 * n
  bank_index_in =
      let In : SequenceNumber → Type 0 = λ s. s.0 < 2 * n in
      let h : In (next n q.x.seq) = mod-lt (q.x.seq.0 + 1) {m = 2 * n} (omega (arith, r.lent.n_some)) in
      either In (eqb (line_number y) (line_number line18)) h r.x_seq

  pub help_index_in : (help_index y n p q).0 < n
  help_index_in =
      let l = r.lent in
      let In : ProcessNumber → Type 0 = λ j. j.0 < n in
      let h : In (helped n q.x.seq) = mod-lt q.x.seq.0 {m = n} l.n_some in
      let at_15 = either In (eqb (line_number y) (line_number line15)) h l.process in
      either In (eqb (line_number y) (line_number line14)) h at_15

  -- and so they are places of the tables
  pub bank_index_small : (bank_index y n q).0 < 32
  bank_index_small = omega (arith, bank_index_in, r.lent.n_most)

  pub help_index_small : (help_index y n p q).0 < 16
  help_index_small = omega (arith, help_index_in, r.lent.n_most)
