-- What it means that a trace tells the truth about a step.
use Rattle.std.specs.Prelude.{◌≡◌, ◌≢◌, List, true, false, ℕ, length}
use Rattle.llsc.specs.declared.ProcessNumber.{ProcessNumber}
use Rattle.model.specs.declared.Bench.{Bench}
use Rattle.model.specs.declared.Process.{Process}
use Rattle.model.specs.Words.{one_record}
use Rattle.model.specs.Points.{Point}
use Rattle.model.specs.Machine.{step_at}
use Rattle.model.specs.Places.{no_links, linked, link}
use Rattle.taken.specs.Ranges.{Ready}
use Rattle.doings.specs.declared.Item.{Item}
use Rattle.access.specs.declared.Values.{Values}
use Rattle.access.specs.declared.Values.TheVariants as of
use Rattle.access.specs.declared.Act.{Act}
use Rattle.access.specs.declared.Act.TheVariants.{Read, Write, Ll, Sc, Vl}
use Rattle.access.specs.declared.Access.{Access}
use Rattle.access.specs.Accesses.{item_of}
use Rattle.doings.specs.Items.{InBench, Holding, x_holding, bank_holding, help_holding, item_at}
use Rattle.doings.specs.Depends.{Alike, SameAfter}

-- what an item holds that has these values, and these links
abbrev pub holding_of : Values → ℕ → Holding
holding_of (of.X v) l = x_holding (record { content = v; links = l })
holding_of (of.Bank i v) l = bank_holding (record { content = v; links = l })
holding_of (of.Help i v) l = help_holding (record { content = v; links = l })
holding_of (of.Half f k v) l = record { first = v; second = 0; links = l }

-- What the act of p says of its item, which held `old` before the step and holds `new` after it.
abbrev pub Says : Act → ProcessNumber → Holding → Holding → Type 0
-- the values read are those that the item holds, and it stays as it is
Says (Read v) p old new = (old ≡ holding_of v old.links) × (new ≡ old)
-- the values are written, and all links are cleared
Says (Write v) p old new = new ≡ holding_of v no_links
-- the values returned are those that the item holds and keeps; p's link is set, the others are as before
Says (Ll v) p old new = (old ≡ holding_of v old.links) × (new ≡ holding_of v (link old.links p))
-- p had the link: the values are written, and all links are cleared
Says (Sc true v) p old new = (linked old.links p ≡ true) × (new ≡ holding_of v no_links)
-- p did not have the link: the item stays as it is
Says (Sc false v) p old new = (linked old.links p ≡ false) × (new ≡ old)
-- the truth is p's link
Says (Vl t i) p old new = (linked old.links p ≡ t) × (new ≡ old)

-- The access a is what a step of p made of the bench and the words: its item is as it says, and every other is as
-- before.
pub record TellsTruth (p : ProcessNumber) (a : Access) (b : Bench) (ws : List ℕ) (b' : Bench) (ws' : List ℕ) : Type 0 where
  pub item : Says a.act p (item_at (item_of a.act) b ws) (item_at (item_of a.act) b' ws')
  pub others : (i : Item) → InBench b i → i ≢ item_of a.act → item_at i b' ws' ≡ item_at i b ws

-- The ranges of a step, and tables of their declared lengths.
pub record Stepped (b : Bench) (q : Process) (p : ProcessNumber) (ws : List ℕ) : Type 0 where
  pub ready : Ready b.n b.w q p ws
  pub bank : length b.bank ≡ 32
  pub help : length b.help ≡ 16

-- A step of p at the point y depends on the item i alone, beside N, W and its own process: in every other bench and
-- words that are alike in these it is answered alike, and leaves the same of its process and in i.
abbrev pub DependsOn : Point → ProcessNumber → Bench → Process → List ℕ → Item → Type 0
DependsOn y p b q ws i =
    (b₂ : Bench) (ws₂ : List ℕ) → Stepped b₂ q p ws₂
    → Alike (λ j. i ≡ j) p q (one_record b.n) (one_record b₂.n) b b₂ ws ws₂
    → SameAfter (λ j. i ≡ j) p (one_record b.n) (one_record b₂.n) (step_at y p b q ws) (step_at y p b₂ q ws₂)
