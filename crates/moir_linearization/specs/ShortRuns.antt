-- Short runs: a list of fewer than 65,535 commands is always within CR 8's bound, so the order of its answers is claimed
-- with no hypothesis. 01 has "60,000 entries already done" refuse, so every text run is such a list.
use Rattle.std.specs.Prelude.{◌≡◌, List, ℕ, ◌<◌, length}
use Rattle.llsc.specs.History.{Command}
use Rattle.moir_model.specs.Machine.{Memory, Shaped}
use Rattle.moir_model.specs.SetUp.{set_up}
use Rattle.moir_model.specs.History.{events}
use Rattle.moir_linearization.specs.Bound.{success_limit, Bounded}
use Rattle.moir_linearization.specs.Linearizable.{Claim}

-- CR 8's 65,535, of commands in place of successes
abbrev pub Short : List Command → Type 0
Short cs = length cs < success_limit

-- "runs in which fewer than 65,535 SCs succeed during any one call and from any WLL's start to the end of each later SC or
-- VL": every short list is one, from any memory, whatever its commands are and whoever is to be counted as a process
abbrev pub ShortAreBounded : Type 0
ShortAreBounded = (m : Memory) (n : ℕ) (cs : List Command) → Short cs → Bounded n (events m cs)

-- "Prove the Figure 1 order for its answers": over every short list after every accepted set-up, whatever the lent memory
-- held
abbrev pub ShortOrder : Type 0
ShortOrder =
    (m : Memory) → Shaped m → (n w : ℕ) (value : List ℕ) (cs : List Command) → (set_up m n w value).0 ≡ 0
    → Short cs → Claim n value (events (set_up m n w value).1 cs)
