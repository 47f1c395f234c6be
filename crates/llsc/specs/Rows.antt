-- The refusal table (01, "When the bench says no") as every bench has it: its rows over numbers and truths, and their
-- order, which is said here alone. What a bench says of its own is how many words it needs (row 3), which numbers are in
-- range (row 9), and the rows that it adds directly after 2 and directly after 4: 23 and 24 of a station of several
-- records (`station/specs/StationRefusals`), none for a bench of one record.
use Rattle.std.specs.Prelude.{◌≡◌, ℕ, List, [], ◌∷◌, ◌++◌, Bool, true, false, not, ◌&&◌, ◌||◌, cond, eqb, ltb, leb}
use Rattle.llsc.specs.declared.Order.{Order}
use Rattle.llsc.specs.declared.Order.TheVariants.{StartLl, StartSc, StartVl, Step}

-- a row of the table: its number, and whether its cause holds
pub record Row : Type 0 where
  pub number : ℕ
  pub holds : Bool

-- "Checked in row order": the number of the first row whose cause holds, 0 for none
abbrev pub first : List Row → ℕ
first [] = 0
first (r ∷ rs) = cond r.holds r.number (first rs)

-- every element passes
abbrev pub every {ℓ} : {A : Type ℓ} → (A → Bool) → List A → Bool
every f [] = true
every f (a ∷ rest) = f a && every f rest

-- some element passes
abbrev pub some {ℓ} : {A : Type ℓ} → (A → Bool) → List A → Bool
some f [] = false
some f (a ∷ rest) = f a || some f rest

abbrev pub between : ℕ → ℕ → ℕ → Bool
between low high k = leb low k && leb k high

-- Row 1: "N not 1..16". Row 2: "W not 1..64".
abbrev pub row1 : ℕ → Row
row1 n = record { number = 1; holds = not (between 1 16 n) }

abbrev pub row2 : ℕ → Row
row2 w = record { number = 2; holds = not (between 1 64 w) }

-- Row 3: fewer words lent than needed, or fewer than N process records
abbrev pub row3 : ℕ → ℕ → ℕ → ℕ → Row
row3 n needed records words = record { number = 3; holds = ltb words needed || ltb records n }

-- Row 9: a number of the lent memory is out of its range
abbrev pub row9 : Bool → Row
row9 ranges = record { number = 9; holds = not ranges }

-- Row 4: "process number not below N"
abbrev pub row4 : ℕ → ℕ → Row
row4 n p = record { number = 4; holds = leb n p }

-- which orders are a start, and which need an LL answered before
abbrev pub is_start : Order → Bool
is_start StartLl = true
is_start StartSc = true
is_start StartVl = true
is_start Step = false

abbrev pub needs_ll : Order → Bool
needs_ll StartLl = false
needs_ll StartSc = true
needs_ll StartVl = true
needs_ll Step = false

abbrev pub brings_value : Order → Bool
brings_value StartLl = false
brings_value StartSc = true
brings_value StartVl = false
brings_value Step = false

-- Row 5: "start at a busy process". Row 6: "step at an idle process". Row 7: "SC or VL started where no LL was ever
-- answered". `idle` and `answered` are said of the process that is named.
abbrev pub row5 : Order → Bool → Row
row5 o idle = record { number = 5; holds = is_start o && not idle }

abbrev pub row6 : Order → Bool → Row
row6 o idle = record { number = 6; holds = not (is_start o) && idle }

abbrev pub row7 : Order → Bool → Row
row7 o answered = record { number = 7; holds = needs_ll o && not answered }

-- Row 8: "value not of W words". A command's value is looked at only where it starts an SC.
abbrev pub row8 : Order → ℕ → ℕ → Row
row8 o w value = record { number = 8; holds = brings_value o && not (eqb value w) }

abbrev pub row8always : ℕ → ℕ → Row
row8always w value = record { number = 8; holds = not (eqb value w) }

-- Rows 1, 2, those that a bench adds there (CR 10: "23 .. after 2"), and 3, with which a command's rows and a set-up's
-- begin, for so many words needed, records lent and words lent; `rest` is what follows them
abbrev pub lent_rows_with : List Row → ℕ → ℕ → ℕ → ℕ → ℕ → List Row → List Row
lent_rows_with after2 n w needed records words rest = row1 n ∷ row2 w ∷ after2 ++ (row3 n needed records words ∷ rest)

-- The rows of a command, 1, 2, 3, 9, 4, those that a bench adds there (CR 10: "24 .. directly after 4 and before 8"), then
-- 8 (CR 7: "row 8 moves to directly after row 4"), then 5, 6, 7. First those that speak of its process p and of its order
-- with a value of so many words;
abbrev pub process_rows_with : List Row → ℕ → ℕ → ℕ → Order → ℕ → Bool → Bool → List Row
process_rows_with after4 n w p o value idle answered =
    row4 n p ∷ after4 ++ (row8 o w value ∷ row5 o idle ∷ row6 o idle ∷ row7 o answered ∷ [])

-- then all, with the truth of row 9's ranges
abbrev pub command_rows_with : List Row → List Row → ℕ → ℕ → ℕ → ℕ → ℕ → Bool → ℕ → Order → ℕ → Bool → Bool → List Row
command_rows_with after2 after4 n w needed records words ranges p o value idle answered =
    lent_rows_with after2 n w needed records words (row9 ranges ∷ process_rows_with after4 n w p o value idle answered)

-- "Set-up reads no old records and takes 1, 2, 3, 8."
abbrev pub set_up_rows_with : List Row → ℕ → ℕ → ℕ → ℕ → ℕ → ℕ → List Row
set_up_rows_with after2 n w needed records words value =
    lent_rows_with after2 n w needed records words (row8always w value ∷ [])

-- a bench of one record adds none
abbrev pub lent_rows : ℕ → ℕ → ℕ → ℕ → ℕ → List Row → List Row
lent_rows = lent_rows_with []

abbrev pub process_rows : ℕ → ℕ → ℕ → Order → ℕ → Bool → Bool → List Row
process_rows = process_rows_with []

abbrev pub command_rows : ℕ → ℕ → ℕ → ℕ → ℕ → Bool → ℕ → Order → ℕ → Bool → Bool → List Row
command_rows = command_rows_with [] []

abbrev pub set_up_rows : ℕ → ℕ → ℕ → ℕ → ℕ → ℕ → List Row
set_up_rows = set_up_rows_with []

-- none of the rows that speak of the lent memory
pub record NotLentMemory (row : ℕ) : Type 0 where
  pub not_1 : row ≡ 1 → ⊥
  pub not_2 : row ≡ 2 → ⊥
  pub not_3 : row ≡ 3 → ⊥
  pub not_9 : row ≡ 9 → ⊥
