-- What a run shows of a step: its access, where it is traced.
use mathlib.Core.Path.{◌≡◌, refl, sym, ap}
use Prim.Native.Nat.{ℕ}
use native.Mathlib.Omega.{arith}
use mathlib.Core.Bool.{Bool, true, false, cond}
use Rattle.std.specs.Prelude.{Option, Some, None, is_some, IfSome}

never : false ≡ true → ⊥
never e = let z : ◌≡◌ {A = ℕ} 0 1 = ap (λ (t : Bool). cond t 1 0) e in omega arith

-- what `then` answers, where its closure gives x alone
pub shown_if : {A : Type 0} {P : A → Type 0} {t : Bool} {x : A} (o : Option A) → ((a : A) → P a → a ≡ x)
    → is_some o ≡ t → IfSome o P → o ≡ cond t (Some x) None
shown_if {t = true} (Some a) h e p = ap Some (h a p)
shown_if {t = false} (Some a) h e p = absurd (never (sym e))
shown_if {t = true} None h e p = absurd (never e)
shown_if {t = false} None h e p = refl
