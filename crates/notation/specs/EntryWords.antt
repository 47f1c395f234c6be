-- An entry kept as one number, for the list that the readers write and a run carries out.
-- Inner: the meaning of a text does not speak of it; `WordLaws` proves that what is kept is read again.
-- From the low end: three bits for the kind, five for the process, 32 for the number after `s`, 24 for the place of its
-- item in the text.
use Rattle.std.specs.Prelude.{ℕ, ◌/◌, ◌%◌, cond, eqb, leb}
use Rattle.notation.specs.declared.Entry.{Entry}
use Rattle.notation.specs.declared.Entry.TheVariants.{StartLl, StartVl, StartSc, Step, Finish}

-- a process number above 15 is kept as 16: either is none of N, and refused alike
abbrev pub kept_process : ℕ → ℕ
kept_process p = cond (leb p 15) p 16

abbrev pub kept_entry : Entry → Entry
kept_entry (StartLl p) = StartLl (kept_process p)
kept_entry (StartVl p) = StartVl (kept_process p)
kept_entry (StartSc p k) = StartSc (kept_process p) k
kept_entry (Step p) = Step (kept_process p)
kept_entry (Finish p) = Finish (kept_process p)

-- an entry of a kind, a process and a number
abbrev pub entry_of_kind : ℕ → ℕ → ℕ → Entry
entry_of_kind kind p k = cond (eqb kind 0) (StartLl p) (cond (eqb kind 1) (StartVl p) (cond (eqb kind 2) (StartSc p k) (cond (eqb kind 3) (Step p) (Finish p))))

-- where a part begins, and how many values it can have
abbrev pub process_unit : ℕ
process_unit = 8

abbrev pub process_values : ℕ
process_values = 32

abbrev pub number_unit : ℕ
number_unit = 256

abbrev pub number_values : ℕ
number_values = 4294967296

abbrev pub place_unit : ℕ
place_unit = 1099511627776

abbrev pub largest_place : ℕ
largest_place = 16777215

abbrev pub kind_in : ℕ → ℕ
kind_in word = word % process_unit

abbrev pub process_in : ℕ → ℕ
process_in word = word / process_unit % process_values

abbrev pub number_in : ℕ → ℕ
number_in word = word / number_unit % number_values

-- the entry that a number keeps
unfoldable pub entry_in : ℕ → Entry
entry_in word = entry_of_kind (kind_in word) (process_in word) (number_in word)

abbrev pub place_in : ℕ → ℕ
place_in word = word / place_unit
