-- A process number above 15 is refused on every memory of a station, and alike; where no command is left, every one is.
use mathlib.Core.Path.{◌≡◌, refl, sym, ap, ◌∙◌}
use mathlib.Core.Bool.{Bool, true, false, not, cond, ◌||◌}
use mathlib.Core.List.{List}
use Prim.Native.Nat.{ℕ, ◌≤◌}
use native.Mathlib.Omega.{arith}
use lib.Dec.{eqb}
use lib.ListN.{length}
use borrow.Author.Tests.{le-leb, ne_eqb, eqb-false}
use Rattle.llsc.specs.declared.Order.{Order}
use Rattle.llsc.specs.Rows.{row1, row2, row9}
use Rattle.model.specs.Replies.{number_of}
use Rattle.rows.proofs.RowLaws.{n_in}
use Rattle.station.specs.Station.{StationMemory}
use Rattle.station.specs.StationRefusals.{row23, row3of, station_in_range}
use Rattle.station.specs.StationCommand.{station_refusal, station_command}
use Rattle.board_commands.proofs.Theorems.{command_number}
use Rattle.station_text_laws.specs.EntryByEntry.{on_record0, station_machine}
use Rattle.text_runs.proofs.KeptLaws.{either}
use Rattle.text_runs.specs.KeptEntries.{FarRefused}
use Rattle.text_runs.specs.Machines.{Machine}
use Rattle.held_text_model.specs.Upto.{one_less, upto}

-- where none of the rows 1, 2, 23, 3 and 9 holds, row 4 does
abbrev early : Bool → Bool → Bool → Bool → Bool → ℕ
early n w r lent range = cond n 1 (cond w 2 (cond r 23 (cond lent 3 (cond range 9 4))))

early_some : (n w r lent range : Bool) → early n w r lent range ≡ 0 → ⊥
early_some true w r lent range z = omega (arith, z)
early_some false true r lent range z = omega (arith, z)
early_some false false true lent range z = omega (arith, z)
early_some false false false true range z = omega (arith, z)
early_some false false false false true z = omega (arith, z)
early_some false false false false false z = omega (arith, z)

module _ (m : StationMemory) where
  abbrev number : ℕ
  number = early (row1 m.n).holds (row2 m.w).holds (row23 m.r).holds (row3of m.n m.w m.r (length m.processes) (length m.words)).holds (row9 (station_in_range m)).holds

  far_refusal : (p : ℕ) (o : Order) (v : List ℕ) → 16 ≤ p → station_refusal m (on_record0 p o v) ≡ number
  unfolding station_refusal
  far_refusal p o v l = either (λ x. x ≡ number) (row1 m.n).holds (λ h. simp h) (λ h. simp (h, le-leb m.n p (omega (arith, n_in m.n h, l))))

  station_far : FarRefused station_machine m
  station_far = record {
    number = number;
    some = early_some _ _ _ _ _;
    refused = λ p o v l. command_number m (on_record0 p o v) ∙ far_refusal p o v l;
  }

-- the same of a machine for so many commands
module _ {M : Machine} (m : M.Memory) (f : FarRefused M m) where
  last_some : (t : Bool) → cond t 12 f.number ≡ 0 → ⊥
  last_some true z = omega (arith, z)
  last_some false z = f.some z

  by_left : (t : Bool) (left p : ℕ) (o : Order) (v : List ℕ) → 16 ≤ p
      → (cond {A = ℕ × (ℕ × M.Memory)} t (12, (left, m)) (one_less M left (M.command m p o v))).0 ≡ cond t 12 f.number
  by_left true left p o v l = refl
  by_left false left p o v l = f.refused p o v l

  upto_far : (left : ℕ) → FarRefused (upto M) (left, m)
  upto_far left = record {
    number = cond (eqb left 0) 12 f.number;
    some = last_some (eqb left 0);
    refused = λ p o v l. by_left (eqb left 0) left p o v l;
  }

pub far_refused : (s : ℕ × StationMemory) → FarRefused (upto station_machine) s
far_refused s = upto_far s.1 (station_far s.1) s.0
