-- Schedules written short, and what their replies show: the words in which the checks of the definitions are put.
use mathlib.Core.Path.{◌≡◌}
use Prim.Native.Nat.{ℕ, zero, suc}
use mathlib.Core.List.{List, [], ◌∷◌, ◌++◌}
use mathlib.Core.Bool.{true}
use lib.ListN.{replicate}
use Rattle.model.specs.declared.Bench.{Bench}
use Rattle.model.specs.declared.Process.{Process}
use Rattle.llsc.specs.declared.Order.TheVariants.{StartLl, StartSc, StartVl, Step}
use Rattle.model.specs.Machine.{Memory}
use Rattle.model.specs.SetUp.{set_up}
use Rattle.llsc.specs.Answers.{Answer, Said, refused, accepted, answered}
use Rattle.llsc.specs.History.{Command, Event}
use Rattle.model.specs.History.{events}

-- `pl`, `pv`, `ps` with the value k in each of w words, and n times `p.` (the n steps that `p!` makes)
abbrev pub l : ℕ → List Command
l p = record { process = p; order = StartLl; value = [] } ∷ []

abbrev pub v : ℕ → List Command
v p = record { process = p; order = StartVl; value = [] } ∷ []

abbrev pub s : ℕ → ℕ → ℕ → List Command
s w p k = record { process = p; order = StartSc; value = replicate w k } ∷ []

abbrev pub steps : ℕ → ℕ → List Command
steps n p = replicate n (record { process = p; order = Step; value = [] })

-- a line of the listing: an answer, or a refusal
pub data Shown : Type 0 where
  answer : ℕ → Answer → ℕ → Shown
  refusal : ℕ → Shown

abbrev shown_by : ℕ → Said → List Shown
shown_by p (refused c) = refusal c ∷ []
shown_by p accepted = []
shown_by p (answered a k) = answer p a k ∷ []

abbrev pub shown : List Event → List Shown
shown [] = []
shown (e ∷ es) = shown_by e.command.process e.said ++ shown es

-- Memory lent for N to 2 and W to 2, full of dirt that a set-up must not read.
abbrev dirty_bench : Bench
dirty_bench = record {
  n = 77;
  w = 0;
  x = record { content = record { buf = record { 0 = 9 }; seq = record { 0 = 9 } }; links = 65535 };
  bank = replicate 32 (record { content = record { 0 = 200 }; links = 65535 });
  help = replicate 16 (record { content = record { flag = 3; buf = record { 0 = 201 } }; links = 65535 });
}

abbrev dirty_process : Process
dirty_process = record {
  mybuf = record { 0 = 99 };
  x = record { buf = record { 0 = 98 }; seq = record { 0 = 97 } };
  line = 16;
  word = 95;
  count = 94;
  answered = true;
  b = record { 0 = 93 };
  c = record { 0 = 92 };
  d = record { 0 = 91 };
  e = record { 0 = 90 };
}

abbrev pub dirty : Memory
dirty = record { bench = dirty_bench; records = replicate 3 dirty_process; words = replicate 21 1234 }

-- a run: its first line `n w k`, its commands, how many of them are done (the E of `end E` or `refused C E`), and what it shows
pub record Run : Type 0 where
  pub n : ℕ
  pub w : ℕ
  pub k : ℕ
  pub commands : List Command
  pub entries : ℕ
  pub shows : List Shown

abbrev pub events_of : Run → List Event
events_of r = events (set_up dirty r.n r.w (replicate r.w r.k)).1 r.commands

-- how many commands are accepted before the first refusal; `k` counts those that follow this one
abbrev one : Said → ℕ → ℕ
one (refused c) k = zero
one accepted k = suc k
one (answered a n) k = suc k

abbrev pub done : List Event → ℕ
done [] = zero
done (e ∷ es) = one e.said (done es)

-- every run of the list shows what it should, with as many commands done
abbrev pub Right : List Run → Type 0
Right [] = Unit {0}
Right (r ∷ rs) = (shown (events_of r) ≡ r.shows) × ((done (events_of r) ≡ r.entries) × Right rs)
