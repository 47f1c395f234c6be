-- Kind, line and word moves of every program point of Figure 2, by computation.
use mathlib.Core.Path.{◌≡◌, refl}
use mathlib.Core.List.{[], ◌∷◌, map}
use Rattle.std.specs.Prelude.{None, Some}
use Rattle.model.specs.Points.{Point, idle, line_number, busy_points}
use Rattle.llsc.specs.declared.calls.CallKind.TheVariants.{Ll, Sc, Vl}
use Rattle.messages.specs.declared.calls.Moves.TheVariants.{Halves}
use Rattle.messages.specs.OpenCalls.{kind_of, figure_line, moves_of}

-- in the order of `busy_points`: lines 1 to 15, 17, 18, 19, 23, then the copy of line 7 and the VL(X) of lines 12 and 14
record Told : Type 0 where
  kinds : map (λ (p : Point). kind_of (line_number p)) busy_points
      ≡ map Some (Ll ∷ Ll ∷ Ll ∷ Ll ∷ Ll ∷ Ll ∷ Ll ∷ Ll ∷ Ll ∷ Ll ∷ Ll ∷ Sc ∷ Sc ∷ Sc ∷ Sc ∷ Sc ∷ Sc ∷ Sc ∷ Vl ∷ Ll ∷ Sc ∷ Sc ∷ [])
  idle_kind : kind_of (line_number idle) ≡ None
  lines : map (λ (p : Point). figure_line (line_number p)) busy_points
      ≡ 1 ∷ 2 ∷ 3 ∷ 4 ∷ 5 ∷ 6 ∷ 7 ∷ 8 ∷ 9 ∷ 10 ∷ 11 ∷ 12 ∷ 13 ∷ 14 ∷ 15 ∷ 17 ∷ 18 ∷ 19 ∷ 23 ∷ 7 ∷ 12 ∷ 14 ∷ []
  moves : map (λ (p : Point). moves_of (line_number p)) busy_points
      ≡ None ∷ None ∷ Some Halves ∷ None ∷ None ∷ Some Halves ∷ None ∷ None ∷ None ∷ None ∷ Some Halves ∷ None ∷ None ∷ None ∷ None ∷ Some Halves ∷ None
      ∷ None ∷ None ∷ Some Halves ∷ None ∷ None ∷ []

told : Told
told = record { kinds = refl; idle_kind = refl; lines = refl; moves = refl }
