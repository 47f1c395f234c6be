-- How large sums may be.
-- Inner: what the reader asks of the sums, so that no addition overflows; `add_listing` of the crate `sums` sees to it.
use Rattle.std.specs.Prelude.{ℕ, ◌≤◌, ◌<◌, List, length, get_or}
use Rattle.answers.specs.declared.Sum.{Sum}
use Rattle.answers.specs.Shape.{longest_listing}
use Rattle.answers.specs.Gains.{no_sum}

-- all four sums are at most b
pub record Below (b : ℕ) (s : Sum) : Type 0 where
  pub successes : s.successes ≤ b
  pub scs : s.scs ≤ b
  pub steps : s.steps ≤ b
  pub lls : s.lls ≤ b

-- those of the first n processes
abbrev pub AllBelow : ℕ → ℕ → List Sum → Type 0
AllBelow n b l = (q : ℕ) → q < n → Below b (get_or l q no_sum)

-- a listing can be read on top of these sums
pub record Readable (n : ℕ) (l : List Sum) (bs : List ℕ) : Type 0 where
  pub few : n ≤ 16
  pub short : length bs ≤ longest_listing
  pub below : AllBelow n 72057594037927935 l
