-- The rows that refuse a command whatever it is: 1, 2, 3 and 9, in their order; where none of them holds, row 4 does.
use mathlib.Core.Path.{◌≡◌}
use mathlib.Core.Bool.{Bool, true, false, cond}
use Prim.Native.Nat.{ℕ}
use native.Mathlib.Omega.{arith}

-- its number, from whether each of the four holds
abbrev pub early : Bool → Bool → Bool → Bool → ℕ
early n w lent range = cond n 1 (cond w 2 (cond lent 3 (cond range 9 4)))

pub early_some : (n w lent range : Bool) → early n w lent range ≡ 0 → ⊥
early_some true w lent range z = omega (arith, z)
early_some false true lent range z = omega (arith, z)
early_some false false true range z = omega (arith, z)
early_some false false false true z = omega (arith, z)
early_some false false false false z = omega (arith, z)
