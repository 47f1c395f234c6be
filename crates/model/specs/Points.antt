-- The program points of Figure 2, cut into single accesses as 01's "Commands and steps" says, and the numbers by which
-- a process record names them.
use Rattle.std.specs.Prelude.{ℕ, List, [], ◌∷◌, cond, eqb}

-- Each point is named by its line. A line that makes a second kind of access has a point for it:
-- line7copy the words from BUF[b] of line 7, line12valid and line14valid the VL(X) of lines 12 and 14.
-- Line 16 is done with 15, and 20 to 22 with 19.
pub data Point : Type 0 where
  idle : Point
  line1 line2 line3 line4 line5 line6 line7 line7copy line8 line9 line10 line11 : Point
  line12 line12valid line13 line14 line14valid line15 line17 line18 line19 : Point
  line23 : Point

-- the number that stands for a point in a process record
abbrev pub line_number : Point → ℕ
line_number idle = 0
line_number line1 = 1
line_number line2 = 2
line_number line3 = 3
line_number line4 = 4
line_number line5 = 5
line_number line6 = 6
line_number line7 = 7
line_number line8 = 8
line_number line9 = 9
line_number line10 = 10
line_number line11 = 11
line_number line12 = 12
line_number line13 = 13
line_number line14 = 14
line_number line15 = 15
line_number line17 = 17
line_number line18 = 18
line_number line19 = 19
line_number line23 = 23
line_number line7copy = 24
line_number line12valid = 25
line_number line14valid = 26

-- every point but idle
abbrev pub busy_points : List Point
busy_points =
    line1 ∷ line2 ∷ line3 ∷ line4 ∷ line5 ∷ line6 ∷ line7 ∷ line8 ∷ line9 ∷ line10 ∷ line11 ∷ line12 ∷ line13 ∷ line14 ∷ line15 ∷
    line17 ∷ line18 ∷ line19 ∷ line23 ∷ line7copy ∷ line12valid ∷ line14valid ∷ []

-- the point of a list that has this number, or idle where none has it
abbrev pub find : ℕ → List Point → Point
find k [] = idle
find k (y ∷ ys) = cond (eqb k (line_number y)) y (find k ys)

-- the point that a number stands for; a number that stands for none is taken for idle (row 9 refuses it)
abbrev pub point_of : ℕ → Point
point_of k = find k busy_points
