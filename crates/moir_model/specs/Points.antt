-- The program points of Figure 6 (document 001), one access to a step, and the numbers by which a process record names
-- them.
use Rattle.std.specs.Prelude.{ℕ, List, [], ◌∷◌, cond, eqb}

-- Each point is named by its operation and its line. Copy's lines stand twice: called by a WLL in line 12 (`ll`), and
-- by an SC in line 20 (`sc`). Line 6 is CR 8's: "In place of `y := z`, a further step reads the segment again into y."
-- A line without an access goes with the access before it: 3 with 2, 8, 9 and 12 with 7, 11 with 10, 15 with 14, 18 with
-- 17's last word, 20 and 21 with 19 and 7.
pub data Point : Type 0 where
  idle : Point
  ll10 ll2 ll4 ll5 ll6 ll7 : Point
  sc14 sc17 sc19 sc2 sc4 sc5 sc6 sc7 : Point
  vl13 : Point

-- the number that stands for a point in a process record: its line, and 20 more in the Copy of an SC
abbrev pub line_number : Point → ℕ
line_number idle = 0
line_number ll2 = 2
line_number ll4 = 4
line_number ll5 = 5
line_number ll6 = 6
line_number ll7 = 7
line_number ll10 = 10
line_number vl13 = 13
line_number sc14 = 14
line_number sc17 = 17
line_number sc19 = 19
line_number sc2 = 22
line_number sc4 = 24
line_number sc5 = 25
line_number sc6 = 26
line_number sc7 = 27

-- every point but idle
abbrev pub busy_points : List Point
busy_points = ll2 ∷ ll4 ∷ ll5 ∷ ll6 ∷ ll7 ∷ ll10 ∷ vl13 ∷ sc14 ∷ sc17 ∷ sc19 ∷ sc2 ∷ sc4 ∷ sc5 ∷ sc6 ∷ sc7 ∷ []

-- the point of a list that has this number, or idle where none has it
abbrev pub find : ℕ → List Point → Point
find k [] = idle
find k (y ∷ ys) = cond (eqb k (line_number y)) y (find k ys)

-- the point that a number stands for; a number that stands for none is taken for idle (row 9 refuses it)
abbrev pub point_of : ℕ → Point
point_of k = find k busy_points
