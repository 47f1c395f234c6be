-- How a number comes to be written: divided by ten again and again, with a digit made ready by each division.
use Rattle.std.specs.Prelude.{ℕ, zero, suc, ◌+◌, ◌-◌, ◌*◌, ◌/◌, ◌<◌, ◌≡◌, List, [], ◌∷◌, length, drop}
use Rattle.listing.specs.Decimal.{decimal, tens}

-- what is left of the number, and the digits that stand ready
pub record Division : Type 0 where
  pub rest : ℕ
  pub ready : List ℕ

-- CR 6: "divide once a digit, from the last to the first": what a division cuts off is a digit, which comes before
-- those that stand ready
unfoldable pub divide : Division → Division
divide d = record { rest = d.rest / 10; ready = (48 + (d.rest - d.rest / 10 * 10)) ∷ d.ready }

-- n after k divisions
unfoldable pub divided : ℕ → ℕ → Division
divided zero n = record { rest = n; ready = [] }
divided (suc k) n = divide (divided k n)

-- CR 6: "after k divisions the last k digits stand ready and the rest of the number is left, down to nothing"
pub record ReadyDigits (n k : ℕ) (d : Division) : Type 0 where
  pub last : d.ready ≡ drop (length (decimal n) - k) (decimal n)
  pub left : d.rest ≡ n / tens k
  -- nothing is left exactly when all digits stand
  pub whole : 0 < k → d.rest ≡ 0 → k ≡ length (decimal n)
  pub nothing : k ≡ length (decimal n) → d.rest ≡ 0
