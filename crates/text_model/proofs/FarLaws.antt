-- A process number above 15 is refused on every memory of the first bench, and alike.
use mathlib.Core.Path.{◌≡◌}
use mathlib.Core.List.{List}
use Prim.Native.Nat.{ℕ, ◌≤◌}
use native.Mathlib.Omega.{arith}
use lib.ListN.{length}
use borrow.Author.Tests.{le-leb, ne_eqb}
use Rattle.llsc.specs.declared.Order.{Order}
use Rattle.model.specs.Machine.{Memory}
use Rattle.llsc.specs.Rows.{row1, row2, row9}
use Rattle.model.specs.Refusals.{in_range, row3}
use Rattle.model.specs.Command.{refusal, command}
use Rattle.model.specs.Replies.{number_of}
use Rattle.rows.proofs.RowLaws.{n_in}
use Rattle.text_runs.proofs.EarlyRows.{early, early_some}
use Rattle.text_runs.proofs.KeptLaws.{either}
use Rattle.text_runs.specs.KeptEntries.{FarRefused}
use Rattle.text_model.specs.TextRun.{figure2}

-- a process number above 15 is none of N: where none of the rows 1, 2, 3 and 9 holds, row 4 does
abbrev early_in : Memory → ℕ
early_in m =
    early (row1 m.bench.n).holds (row2 m.bench.w).holds (row3 m.bench.n m.bench.w (length m.records) (length m.words)).holds (row9 (in_range m)).holds

some_in : (m : Memory) → early_in m ≡ 0 → ⊥
some_in m = early_some _ _ _ _

far_refusal : (m : Memory) (p : ℕ) (o : Order) (v : List ℕ) → 16 ≤ p → refusal m p o v ≡ early_in m
unfolding refusal
far_refusal m p o v l = either (λ x. x ≡ early_in m) (row1 m.bench.n).holds (λ h. simp h) (λ h. simp (h, le-leb m.bench.n p (omega (arith, n_in m.bench.n h, l))))

far_command : (m : Memory) (p : ℕ) (o : Order) (v : List ℕ) → 16 ≤ p → number_of (command m p o v).0 ≡ early_in m
unfolding command
far_command m p o v h = simp (far_refusal m p o v h, ne_eqb (early_in m) 0 (some_in m))

pub far_refused : (m : Memory) → FarRefused figure2 m
far_refused m = record { number = early_in m; some = some_in m; refused = far_command m }
