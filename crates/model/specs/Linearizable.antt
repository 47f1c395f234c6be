-- Promise 3, the statement: `llsc`'s claim with this bench's counts.
use Rattle.std.specs.Prelude.{◌≡◌, ◌⊎◌, ℕ, ◌+◌, ◌*◌, ◌≤◌, List}
use Rattle.llsc.specs.Object.{Kind, ll, sc, vl}
use Rattle.llsc.specs.History.{Command, Event, Slot, Call}
use Rattle.llsc.specs.Linearizable as AnyBench
use Rattle.model.specs.Sizes.{ll_most, sc_most}
use Rattle.model.specs.Machine.{Memory, Shaped}
use Rattle.model.specs.SetUp.{set_up}
use Rattle.model.specs.History.{events}

-- "4W+5, 4W+6, 6W+7 and 8W+7 for LL, and 2W+4 to 2W+8 for SC; VL stays 1"
abbrev pub OwnSteps : ℕ → Kind → ℕ → Type 0
OwnSteps w ll s = (s ≡ 4 * w + 5) ⊎ ((s ≡ 4 * w + 6) ⊎ ((s ≡ 6 * w + 7) ⊎ (s ≡ ll_most w)))
OwnSteps w (sc offered) s = (2 * w + 4 ≤ s) × (s ≤ sc_most w)
OwnSteps w vl s = s ≡ 1

abbrev pub Counted : ℕ → Call → Type 0
Counted w c = AnyBench.Counted (OwnSteps w c.kind) c.count c.steps

-- "open calls have fewer than their kind's largest", the bound of wait-freedom
abbrev pub largest : ℕ → Kind → ℕ
largest w ll = ll_most w
largest w (sc offered) = sc_most w
largest w vl = 1

abbrev pub OpenCounted : ℕ → Slot → Type 0
OpenCounted w slot = AnyBench.OpenCounted (largest w) slot

-- what is claimed of the events of one list
abbrev pub Claim : ℕ → List ℕ → List Event → Type 0
Claim w value es = AnyBench.Claim (OwnSteps w) (largest w) value es

-- PROMISE 3: "The list follows an accepted set-up with any N, W and value, whatever the lent memory held."
abbrev pub Promise3 : Type 0
Promise3 = (m : Memory) → Shaped m → (n w : ℕ) (value : List ℕ) (cs : List Command) → (set_up m n w value).0 ≡ 0 → Claim w value (events (set_up m n w value).1 cs)
