-- Kind, line and word moves of every program point of Figure 6, by computation.
use mathlib.Core.Path.{◌≡◌, refl}
use mathlib.Core.List.{[], ◌∷◌, map}
use Rattle.std.specs.Prelude.{None, Some}
use Rattle.moir_model.specs.Points.{Point, idle, line_number, busy_points}
use Rattle.llsc.specs.declared.calls.CallKind.TheVariants.{Ll, Sc, Vl}
use Rattle.messages.specs.declared.calls.Moves.TheVariants.{Whole}
use Rattle.moir_messages.specs.MoirCalls.{kind_of, figure_line, moves_of}

-- in the order of `busy_points`: lines 2, 4, 5, 6, 7 and 10 of a WLL, 13, 14, 17 and 19, then 2, 4, 5, 6 and 7 of an SC
record Told : Type 0 where
  kinds : map (λ (p : Point). kind_of (line_number p)) busy_points
      ≡ map Some (Ll ∷ Ll ∷ Ll ∷ Ll ∷ Ll ∷ Ll ∷ Vl ∷ Sc ∷ Sc ∷ Sc ∷ Sc ∷ Sc ∷ Sc ∷ Sc ∷ Sc ∷ [])
  idle_kind : kind_of (line_number idle) ≡ None
  lines : map (λ (p : Point). figure_line (line_number p)) busy_points ≡ 2 ∷ 4 ∷ 5 ∷ 6 ∷ 7 ∷ 10 ∷ 13 ∷ 14 ∷ 17 ∷ 19 ∷ 2 ∷ 4 ∷ 5 ∷ 6 ∷ 7 ∷ []
  moves : map (λ (p : Point). moves_of (figure_line (line_number p))) busy_points
      ≡ Some Whole ∷ Some Whole ∷ Some Whole ∷ Some Whole ∷ Some Whole ∷ None ∷ None ∷ None ∷ Some Whole ∷ None ∷ Some Whole
      ∷ Some Whole ∷ Some Whole ∷ Some Whole ∷ Some Whole ∷ []

told : Told
told = record { kinds = refl; idle_kind = refl; lines = refl; moves = refl }
