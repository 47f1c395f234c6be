-- The ranges that a step relies on, n for N and w for W: what rows 1, 2, 3, 9 and 4 of the refusal table ask of an
-- accepted one. `access`'s `Truth` has them as premise; `text_entry`'s `ObeyableLaws` proves them of every command that
-- no row refuses.
use Rattle.std.specs.Prelude.{◌≡◌, true, ℕ, ◌<◌, ◌≤◌, List, length}
use Rattle.llsc.specs.declared.ProcessNumber.{ProcessNumber}
use Rattle.model.specs.declared.Bench.{Bench}
use Rattle.model.specs.declared.Process.{Process}
use Rattle.llsc.specs.declared.Order.{Order}
use Rattle.model.specs.Sizes.{buffers, sequence_numbers, halves, lent_words}
use Rattle.llsc.specs.Rows.{brings_value}

-- N, W and the lent words are as rows 1 to 3 ask, the process is one of N
pub record Lent (n w : ℕ) (p : ProcessNumber) (ws : List ℕ) : Type 0 where
  pub n_some : 0 < n
  pub n_most : n ≤ 16
  pub w_most : w ≤ 64
  pub process : p.0 < n
  pub words : lent_words n w ≤ length ws

-- and the numbers of the process record are in their ranges
pub record Ready (n w : ℕ) (q : Process) (p : ProcessNumber) (ws : List ℕ) : Type 0 where
  pub lent : Lent n w p ws
  pub mybuf : q.mybuf.0 < buffers n
  pub x_buf : q.x.buf.0 < buffers n
  pub x_seq : q.x.seq.0 < sequence_numbers n
  pub b_buf : q.b.0 < buffers n
  pub word : q.word < halves w
  pub count : q.count < 4294967296

-- and an SC's value has W words
pub record Obeyable (o : Order) (p : ProcessNumber) (v : List ℕ) (b : Bench) (q : Process) (ws : List ℕ) : Type 0 where
  pub ready : Ready b.n b.w q p ws
  pub value : brings_value o ≡ true → length v ≡ b.w
