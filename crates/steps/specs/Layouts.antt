-- What a step relies on in a layout: the rows that it reaches are lent, and the half word that it moves.
-- Inner: `LayoutLaws` proves it of one record alone, and of each step that it is ready.
use Rattle.std.specs.Prelude.{◌≡◌, true, ℕ, ◌+◌, ◌*◌, ◌<◌, ◌≤◌, List, length}
use Rattle.llsc.specs.declared.ProcessNumber.{ProcessNumber}
use Rattle.model.specs.declared.Bench.{Bench}
use Rattle.model.specs.declared.Process.{Process}
use Rattle.llsc.specs.declared.Order.{Order}
use Rattle.model.specs.Sizes.{buffers, halves}
use Rattle.llsc.specs.Rows.{brings_value}
use Rattle.model.specs.Words.{offer_in}
use Rattle.words.specs.declared.layouts.FirstRows.{FirstRows}
use Rattle.words.specs.Layouts.{layout_from}
use Rattle.taken.specs.Ranges.{Ready}

-- the 3N buffers, the N return areas and the N offer areas are lent
pub record Placed (f : FirstRows) (n : ℕ) (ws : List ℕ) : Type 0 where
  pub buffers_lent : (f.buffers + buffers n) * f.w ≤ length ws
  pub returns_lent : (f.returns + n) * f.w ≤ length ws
  pub offers_lent : (f.offers + n) * f.w ≤ length ws

pub record ReadyIn (f : FirstRows) (n : ℕ) (q : Process) (p : ProcessNumber) (ws : List ℕ) : Type 0 where
  pub ready : Ready n f.w q p ws
  pub placed : Placed f n ws

-- and an SC's value has W words, W being the bench's
pub record ObeyableIn (f : FirstRows) (o : Order) (p : ProcessNumber) (v : List ℕ) (b : Bench) (q : Process) (ws : List ℕ) : Type 0 where
  pub ready_in : ReadyIn f b.n q p ws
  pub w_is : f.w ≡ b.w
  pub value : brings_value o ≡ true → length v ≡ b.w

-- the words that an order brings fit into p's offer area
abbrev pub Offered : FirstRows → Order → ProcessNumber → List ℕ → List ℕ → Type 0
Offered f o p v ws = brings_value o ≡ true → offer_in (layout_from f) f.w p 0 + length v ≤ length ws

-- a half word moves from the word at `source` to the word at `target`
pub record Moves (w : ℕ) (q : Process) (source target : ℕ) (ws : List ℕ) : Type 0 where
  pub word : q.word < halves w
  pub count : q.count < 4294967296
  pub source_lent : source < length ws
  pub target_lent : target < length ws
