-- The points and the numbers that stand for them in a process record.
use mathlib.Core.Path.{◌≡◌, refl}
use mathlib.Core.Bool.{true, ◌||◌}
use lib.Dec.{eqb}
use Rattle.llsc.specs.Rows.{some}
use Rattle.moir_model.specs.Points.{Point, line_number, point_of, busy_points, idle, ll10, ll2, ll4, ll5, ll6, ll7, sc14, sc17, sc19, sc2, sc4, sc5, sc6, sc7, vl13}

pub point_of_lem : (y : Point) → point_of (line_number y) ≡ y
point_of_lem idle = refl
point_of_lem ll10 = refl
point_of_lem ll2 = refl
point_of_lem ll4 = refl
point_of_lem ll5 = refl
point_of_lem ll6 = refl
point_of_lem ll7 = refl
point_of_lem sc14 = refl
point_of_lem sc17 = refl
point_of_lem sc19 = refl
point_of_lem sc2 = refl
point_of_lem sc4 = refl
point_of_lem sc5 = refl
point_of_lem sc6 = refl
point_of_lem sc7 = refl
point_of_lem vl13 = refl

pub line_ok : (y : Point) → (eqb (line_number y) (line_number idle) || some (λ u. eqb (line_number y) (line_number u)) busy_points) ≡ true
line_ok idle = refl
line_ok ll10 = refl
line_ok ll2 = refl
line_ok ll4 = refl
line_ok ll5 = refl
line_ok ll6 = refl
line_ok ll7 = refl
line_ok sc14 = refl
line_ok sc17 = refl
line_ok sc19 = refl
line_ok sc2 = refl
line_ok sc4 = refl
line_ok sc5 = refl
line_ok sc6 = refl
line_ok sc7 = refl
line_ok vl13 = refl
