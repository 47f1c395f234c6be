-- A refusal has a number other than 0.
use mathlib.Core.Path.{◌≡◌}
use native.Mathlib.Omega.{arith}
use Rattle.llsc.specs.declared.refusals.Refusal.{Refusal}
use Rattle.llsc.specs.declared.refusals.Refusal.TheVariants.{NOutOfRange}
use Rattle.llsc.specs.Refusals.{refusal_number}

pub number_some : (r : Refusal) → refusal_number r ≡ 0 → ⊥
number_some NOutOfRange e = omega (arith, e)
number_some r e = omega (arith, e)
