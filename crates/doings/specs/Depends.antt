-- What a command depends on (CR 13): "its answer and what it leaves depend on N, W, that item and its own process
-- alone". The items are those of which `On` holds: the one that the command touches, or none.
use Rattle.std.specs.Prelude.{◌≡◌, ℕ, List}
use Rattle.llsc.specs.declared.ProcessNumber.{ProcessNumber}
use Rattle.model.specs.declared.Bench.{Bench}
use Rattle.model.specs.declared.Process.{Process}
use Rattle.model.specs.declared.Moved.{Moved}
use Rattle.model.specs.Words.{Layout}
use Rattle.doings.specs.declared.Item.{Item}
use Rattle.doings.specs.Items.{item_in}
use Rattle.doings.specs.Own.{own_in}

-- two memories of a record, alike in N, W, the items and the areas of p, whose record is q in both
pub record Alike (On : Item → Type 0) (p : ProcessNumber) (q : Process) (l l₂ : Layout) (b b₂ : Bench) (ws ws₂ : List ℕ)
    : Type 0 where
  pub n : b.n ≡ b₂.n
  pub w : b.w ≡ b₂.w
  pub own : own_in l b.w p q ws ≡ own_in l₂ b₂.w p q ws₂
  pub item : (i : Item) → On i → item_in l i b ws ≡ item_in l₂ i b₂ ws₂

-- what two commands of p left: the same reply, the same of the own process, record and areas, and the same in the items
pub record SameAfter (On : Item → Type 0) (p : ProcessNumber) (l l₂ : Layout) (out out₂ : Moved × List ℕ) : Type 0 where
  pub reply : out.0.reply ≡ out₂.0.reply
  pub own : own_in l out.0.bench.w p out.0.process out.1
      ≡ own_in l₂ out₂.0.bench.w p out₂.0.process out₂.1
  pub item : (i : Item) → On i → item_in l i out.0.bench out.1 ≡ item_in l₂ i out₂.0.bench out₂.1
