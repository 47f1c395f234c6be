-- A block that is repeated: the copy so far.
use Prim.Native.Nat.{ℕ, ◌-◌, ◌≤◌, ◌<◌}
use mathlib.Core.Path.{◌≡◌}
use mathlib.Core.List.{List}
use lib.ListN.{length, get_or}

-- the block again, up to `next`
pub record Copied (list list' : List ℕ) (from to next end : ℕ) : Type 0 where
  pub on : to ≤ next
  pub within : next ≤ end
  pub lent : length list' ≡ length list
  pub before : (i : ℕ) → i < to → get_or list' i 0 ≡ get_or list i 0
  pub again : (i : ℕ) → to ≤ i → i < next → get_or list' i 0 ≡ get_or list' (i - (to - from)) 0
