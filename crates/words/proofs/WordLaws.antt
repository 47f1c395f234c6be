-- Places in the lent words.
use mathlib.Core.Path.{◌≡◌}
use Prim.Native.Nat.{ℕ, suc, ◌+◌, ◌*◌, ◌≤◌, ◌<◌}
use native.Mathlib.Nat.{mul-le-mul_right, suc-mul}
use native.Mathlib.Omega.{arith}

-- word k of row b lies within c rows
pub within : {b c k w : ℕ} → b < c → k < w → b * w + k < c * w
within {b} {c} {k} {w} hb hk = omega (arith, mul-le-mul_right {m = suc b} {n = c} w hb, suc-mul b w)

-- a word of one of the 5N rows is lent
pub lies : (n : ℕ) {b k w l : ℕ} → b < 5 * n → k < w → 5 * n * w ≤ l → b * w + k < l
lies n {b} {k} {w} {l} hb hk hl = omega (arith, within {b = b} {c = 5 * n} hb hk)

-- and so is a whole row
pub row_lies : (n : ℕ) {r k w l : ℕ} → r < 5 * n → k ≡ w → 5 * n * w ≤ l → r * w + 0 + k ≤ l
row_lies n {r} {k} {w} {l} hr hk hl = omega (arith, mul-le-mul_right {m = suc r} {n = 5 * n} w hr, suc-mul r w)
