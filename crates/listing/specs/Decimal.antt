-- Numbers in decimal.
use Rattle.std.specs.Prelude.{ℕ, zero, suc, ◌+◌, ◌*◌, ◌/◌, ◌%◌, List, [], ◌∷◌, ◌++◌, cond, ltb}

-- the digits of n without leading zeros, at most f of them
unfoldable pub digits : ℕ → ℕ → List ℕ
digits zero n = []
digits (suc f) n = cond (ltb n 10) ((48 + n) ∷ []) (digits f (n / 10) ++ (48 + n % 10) ∷ [])

-- 01: "Numbers are decimal"; a number below 2 to the 64 has at most 20 digits
unfoldable pub decimal : ℕ → List ℕ
decimal n = digits 20 n

-- 10 to the k
unfoldable pub tens : ℕ → ℕ
tens zero = 1
tens (suc k) = tens k * 10
