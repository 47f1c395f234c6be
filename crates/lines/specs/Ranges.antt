-- The ranges that the lines rely on.
-- Inner: conditions of the code alone; the ranges of crate taken, which every accepted command meets, have them.
use Rattle.std.specs.Prelude.{ℕ, ◌<◌, ◌≤◌}
use Rattle.llsc.specs.declared.ProcessNumber.{ProcessNumber}
use Rattle.model.specs.declared.Process.{Process}

-- A line with links: the process has a link in each place, and its count can be raised.
pub record Stepping (p : ProcessNumber) (q : Process) : Type 0 where
  pub link : p.0 < 16
  pub count : q.count < 4294967296

-- A line that moves a half word: its word place is one of a run's m.
pub record Moving (m : ℕ) (q : Process) : Type 0 where
  pub word : q.word < m
  pub count : q.count < 4294967296

-- N processes have places.
pub record Sized (n : ℕ) : Type 0 where
  pub some : 0 < n
  pub most : n ≤ 16
