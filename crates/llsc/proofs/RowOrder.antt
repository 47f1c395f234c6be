-- Where several causes of a command's refusal hold at once, the row that comes first decides: 1, 2, 3, 9, 4, 8, then 5, 6
-- or 7. Computed.
use mathlib.Core.Path.{◌≡◌, refl}
use Prim.Native.Nat.{ℕ}
use mathlib.Core.List.{List, [], ◌∷◌}
use mathlib.Core.Bool.{true, false}
use Rattle.llsc.specs.declared.Order.TheVariants.{StartSc, Step}
use Rattle.llsc.specs.Rows.{Row, first, command_rows, command_rows_with, set_up_rows_with}

-- every cause of an SC's refusal holds, then the first is taken away, and so on
pub one_first : first (command_rows 0 65 20 1 19 false 2 StartSc 1 false false) ≡ 1
one_first = refl

pub two_next : first (command_rows 2 65 20 1 19 false 2 StartSc 1 false false) ≡ 2
two_next = refl

pub three_next : first (command_rows 2 2 20 1 19 false 2 StartSc 1 false false) ≡ 3
three_next = refl

pub nine_next : first (command_rows 2 2 20 2 20 false 2 StartSc 1 false false) ≡ 9
nine_next = refl

pub four_next : first (command_rows 2 2 20 2 20 true 2 StartSc 1 false false) ≡ 4
four_next = refl

pub eight_next : first (command_rows 2 2 20 2 20 true 0 StartSc 1 false false) ≡ 8
eight_next = refl

pub five_next : first (command_rows 2 2 20 2 20 true 0 StartSc 2 false false) ≡ 5
five_next = refl

pub seven_last : first (command_rows 2 2 20 2 20 true 0 StartSc 2 true false) ≡ 7
seven_last = refl

-- a step at an idle process, and at a busy one, which brings no value and needs no LL
pub six_at_idle : first (command_rows 2 2 20 2 20 true 0 Step 0 true false) ≡ 6
six_at_idle = refl

pub none_at_busy : first (command_rows 2 2 20 2 20 true 0 Step 0 false false) ≡ 0
none_at_busy = refl

-- The rows that a bench adds, 23 directly after 2 and 24 directly after 4, both of which hold here: 1, 2, 23, 3, 9, 4, 24,
-- 8, 5, 6, 7 for a command and 1, 2, 23, 3, 8 for a set-up.
abbrev held : ℕ → List Row
held k = record { number = k; holds = true } ∷ []

record WithRowsAdded : Type 0 where
  two_before_23 : first (command_rows_with (held 23) (held 24) 2 65 20 1 19 false 2 StartSc 1 false false) ≡ 2
  then_23 : first (command_rows_with (held 23) (held 24) 2 2 20 1 19 false 2 StartSc 1 false false) ≡ 23
  four_before_24 : first (command_rows_with [] (held 24) 2 2 20 2 20 true 2 StartSc 1 false false) ≡ 4
  then_24 : first (command_rows_with [] (held 24) 2 2 20 2 20 true 0 StartSc 1 false false) ≡ 24
  set_up_2 : first (set_up_rows_with (held 23) 2 65 20 1 19 1) ≡ 2
  set_up_23 : first (set_up_rows_with (held 23) 2 2 20 1 19 1) ≡ 23
  set_up_3 : first (set_up_rows_with [] 2 2 20 1 19 1) ≡ 3
  set_up_8 : first (set_up_rows_with [] 2 2 20 2 20 1) ≡ 8

with_rows_added : WithRowsAdded
with_rows_added = record {
  two_before_23 = refl;
  then_23 = refl;
  four_before_24 = refl;
  then_24 = refl;
  set_up_2 = refl;
  set_up_23 = refl;
  set_up_3 = refl;
  set_up_8 = refl;
}
