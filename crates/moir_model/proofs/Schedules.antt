-- Schedules written short, and what their replies show: the words in which the checks of the definitions are put.
use mathlib.Core.Path.{◌≡◌}
use Prim.Native.Nat.{ℕ}
use mathlib.Core.List.{List, [], ◌∷◌, ◌++◌}
use mathlib.Core.Bool.{true}
use lib.ListN.{length, replicate}
use Rattle.llsc.specs.declared.Order.TheVariants.{StartLl, StartSc, StartVl, Step}
use Rattle.llsc.specs.History.{Command}
use Rattle.moir_model.specs.declared.Header.{Header}
use Rattle.moir_model.specs.declared.Segment.{Segment}
use Rattle.moir_model.specs.declared.Bench.{Bench}
use Rattle.moir_model.specs.declared.Process.{Process}
use Rattle.moir_model.specs.Machine.{Memory}
use Rattle.moir_model.specs.SetUp.{set_up}
use Rattle.llsc.specs.Answers.{refused, accepted, answered}
use Rattle.moir_model.specs.Replies.{Answer, Said}
use Rattle.moir_model.specs.History.{Event, events}

-- `pl`, `pv`, `ps` with the value k in each of w words, and n times `p.`
abbrev pub l : ℕ → List Command
l p = record { process = p; order = StartLl; value = [] } ∷ []

abbrev pub v : ℕ → List Command
v p = record { process = p; order = StartVl; value = [] } ∷ []

abbrev pub s : ℕ → ℕ → ℕ → List Command
s w p k = record { process = p; order = StartSc; value = replicate w k } ∷ []

abbrev pub steps : ℕ → ℕ → List Command
steps n p = replicate n (record { process = p; order = Step; value = [] })

-- a line of the listing: an answer, or a refusal
pub data Shown : Type 0 where
  answer : ℕ → Answer → ℕ → Shown
  refusal : ℕ → Shown

abbrev shown_by : ℕ → Said → List Shown
shown_by p (refused c) = refusal c ∷ []
shown_by p accepted = []
shown_by p (answered a k) = answer p a k ∷ []

abbrev pub shown : List Event → List Shown
shown [] = []
shown (e ∷ es) = shown_by e.command.process e.said ++ shown es

-- Memory lent for N to 2 and W to 2, full of dirt that a set-up must not read.
abbrev dirty_header : Header
dirty_header = record { tag = 77; pid = record { 0 = 99 } }

abbrev dirty_segment : Segment
dirty_segment = record { tag = 78; val = 98 }

abbrev dirty_bench : Bench
dirty_bench = record { n = 77; w = 0; header = dirty_header; tags = replicate 64 79 }

abbrev dirty_process : Process
dirty_process = record {
  line = 16;
  word = 95;
  count = 94;
  answered = true;
  keep = 76;
  x = dirty_header;
  oldhdr = dirty_header;
  newhdr = dirty_header;
  h = dirty_header;
  y = dirty_segment;
  z = dirty_segment;
}

abbrev pub dirty : Memory
dirty = record { bench = dirty_bench; records = replicate 3 dirty_process; words = replicate 15 1234 }

-- a run: its first line `n w k`, its commands, how many there are, and what it shows
pub record Run : Type 0 where
  pub n : ℕ
  pub w : ℕ
  pub k : ℕ
  pub entries : ℕ
  pub commands : List Command
  pub shows : List Shown

abbrev pub begun : Run → Memory
begun r = (set_up dirty r.n r.w (replicate r.w r.k)).1

-- every run of the list shows what it should
abbrev pub Right : List Run → Type 0
Right [] = Unit {0}
Right (r ∷ rs) = (shown (events (begun r) r.commands) ≡ r.shows) × ((length r.commands ≡ r.entries) × Right rs)
