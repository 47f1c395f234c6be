-- The ways to finish (02, CR 5).
use Rattle.std.specs.Prelude.{ℕ, zero, suc, ◌+◌}

-- "each the sum of its two neighbours, with edges of 1": with a turns of process 0 and b of process 1 to take, either
-- process 0 takes the next one or process 1 does. It is the binomial coefficient of a + b over a.
unfoldable pub ways : ℕ → ℕ → ℕ
ways zero b = 1
ways (suc a) zero = 1
ways (suc a) (suc b) = ways a (suc b) + ways (suc a) b
