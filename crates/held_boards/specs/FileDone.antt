-- What the run of a board's trace file (02, CR 12: "The bench also runs such a file on record 0 of the memory lent") makes
-- of a held list.
use Rattle.std.specs.Prelude.{◌≡◌, ◌⊎◌, ℕ, ◌<◌, ◌≤◌, List}
use Rattle.boards.specs.Files.{BoardRecord}
use Rattle.board_commands.specs.declared.FileRun.{FileRun}
use Rattle.board_commands.specs.BoardRun.{run_records, run_file}
use Rattle.held_model.specs.Layout.{mark_place}
use Rattle.held_model.specs.Memory.{number_at, memory_of}

-- Of a mark the memory tells only whether it is 0. The commands of a run write 0 or 1 for some, and leave the others.
abbrev pub MarksKept : List ℕ → List ℕ → Type 0
MarksKept l l' =
    (p j : ℕ) → p < 16 → j < number_at l 2 → (number_at l' (mark_place j p) ≤ 1) ⊎ (number_at l' (mark_place j p) ≡ number_at l (mark_place j p))

-- the records of a right file; where no command was done every number stays
pub record RecordsDone (l : List ℕ) (rs : List BoardRecord) (r : FileRun) (l' : List ℕ) : Type 0 where
  pub done : (r, memory_of l') ≡ run_records 0 rs (memory_of l)
  pub marks : MarksKept l l'
  pub untouched : r.done ≡ 0 → l' ≡ l

-- "memory, number (0 for none) and commands done are as if its records came one by one"
pub record FileDone (l file : List ℕ) (r : FileRun) (l' : List ℕ) : Type 0 where
  pub done : (r, memory_of l') ≡ run_file file (memory_of l)
  pub marks : MarksKept l l'
  pub untouched : r.done ≡ 0 → l' ≡ l
