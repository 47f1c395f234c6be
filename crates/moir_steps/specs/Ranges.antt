-- The ranges that a step relies on: what rows 1, 2, 3, 9 and 4 of the refusal table ask of an accepted one.
-- `moir_access`'s `Truth` has them as premise; `moir_machine`'s `ObeyLaws` proves them of every command that no row
-- refuses.
use Rattle.std.specs.Prelude.{◌≡◌, true, ℕ, ◌<◌, ◌≤◌, List, length}
use Rattle.llsc.specs.declared.ProcessNumber.{ProcessNumber}
use Rattle.llsc.specs.declared.Order.{Order}
use Rattle.llsc.specs.Rows.{brings_value}
use Rattle.moir_model.specs.declared.Bench.{Bench}
use Rattle.moir_model.specs.declared.Process.{Process}
use Rattle.moir_model.specs.Sizes.{lent_words}

-- N, W and the lent words are as rows 1 to 3 ask, word place and count as row 9 does
pub record Standing (b : Bench) (q : Process) (ws : List ℕ) : Type 0 where
  pub n_most : b.n ≤ 16
  pub w_most : b.w ≤ 64
  pub words : lent_words b.n b.w ≤ length ws
  pub word : q.word < b.w
  pub count : q.count < 4294967296

-- and the process is one of N, as are those whose rows of A it reads
pub record Ready (b : Bench) (q : Process) (p : ProcessNumber) (ws : List ℕ) : Type 0 where
  pub standing : Standing b q ws
  pub process : p.0 < b.n
  pub x_pid_is : q.x.pid.0 < b.n
  pub new_pid_is : q.newhdr.pid.0 < b.n

-- and an SC's value has W words
pub record Obeyable (o : Order) (p : ProcessNumber) (v : List ℕ) (b : Bench) (q : Process) (ws : List ℕ) : Type 0 where
  pub ready : Ready b q p ws
  pub value : brings_value o ≡ true → length v ≡ b.w
