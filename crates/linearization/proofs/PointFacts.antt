-- The points and the numbers that stand for them in a process record.
use mathlib.Core.Path.{◌≡◌, refl, sym, ap, ◌∙◌}
use mathlib.Core.Bool.{Bool, true, not, ◌||◌}
use mathlib.Core.List.{[], ◌∷◌}
use lib.Dec.{eqb}
use borrow.Author.Tests.{eqb-true}
use Rattle.model.specs.Points.{Point, line_number, point_of, busy_points, idle, line1, line2, line3, line4, line5, line6}
use Rattle.model.specs.Points.{line7, line7copy, line8, line9, line10, line11, line12, line12valid, line13, line14}
use Rattle.model.specs.Points.{line14valid, line15, line17, line18, line19, line23}
use Rattle.llsc.specs.Rows.{some}

pub point_of_lem : (y : Point) → point_of (line_number y) ≡ y
point_of_lem idle = refl
point_of_lem line1 = refl
point_of_lem line2 = refl
point_of_lem line3 = refl
point_of_lem line4 = refl
point_of_lem line5 = refl
point_of_lem line6 = refl
point_of_lem line7 = refl
point_of_lem line7copy = refl
point_of_lem line8 = refl
point_of_lem line9 = refl
point_of_lem line10 = refl
point_of_lem line11 = refl
point_of_lem line12 = refl
point_of_lem line12valid = refl
point_of_lem line13 = refl
point_of_lem line14 = refl
point_of_lem line14valid = refl
point_of_lem line15 = refl
point_of_lem line17 = refl
point_of_lem line18 = refl
point_of_lem line19 = refl
point_of_lem line23 = refl

-- lines inside a call, and those of them that are a run of words
abbrev pub is_idle : Point → Bool
is_idle y = eqb (line_number y) (line_number idle)

abbrev pub busy : Point → Bool
busy y = not (is_idle y)

abbrev pub moving : Point → Bool
moving y = some (λ x. eqb (line_number y) (line_number x)) (line3 ∷ line6 ∷ line7copy ∷ line11 ∷ line17 ∷ [])

pub idle_is : (y : Point) → is_idle y ≡ true → y ≡ idle
idle_is y e = sym (point_of_lem y) ∙ ap point_of (eqb-true (line_number y) 0 e)

pub line_ok : (y : Point) → (eqb (line_number y) (line_number idle) || some (λ u. eqb (line_number y) (line_number u)) busy_points) ≡ true
line_ok idle = refl
line_ok line1 = refl
line_ok line2 = refl
line_ok line3 = refl
line_ok line4 = refl
line_ok line5 = refl
line_ok line6 = refl
line_ok line7 = refl
line_ok line7copy = refl
line_ok line8 = refl
line_ok line9 = refl
line_ok line10 = refl
line_ok line11 = refl
line_ok line12 = refl
line_ok line12valid = refl
line_ok line13 = refl
line_ok line14 = refl
line_ok line14valid = refl
line_ok line15 = refl
line_ok line17 = refl
line_ok line18 = refl
line_ok line19 = refl
line_ok line23 = refl
