-- Laws of the loop that looks for the last `(` that is not closed.
use Prim.Native.Nat.{ℕ, zero, suc, ◌+◌, ◌-◌, ◌≤◌, ◌<◌}
use mathlib.Core.Path.{◌≡◌, refl, sym, ap, ◌∙◌}
use mathlib.Core.List.{List}
use mathlib.Core.Bool.{Bool, true, false, cond}
use native.Mathlib.Omega.{arith}
use lib.Dec.{eqb}
use lib.ListN.{get_or}
use Rattle.std.specs.Prelude.{None, Some}
use Rattle.positions.specs.Brackets.{opens_here, closed_with, unclosed_below}

-- one byte lower
pub below : (text : List ℕ) (left closed : ℕ) → 0 < left → let b = get_or text (left - 1) 0 in
    unclosed_below text left closed ≡ cond (opens_here b closed) (Some (left - 1)) (unclosed_below text (left - 1) (closed_with b closed))
unfolding unclosed_below
below text zero closed h = absurd (omega arith)
below text (suc i) closed h =
    let less : i ≡ suc i - 1 = omega arith in
    ap (λ (j : ℕ). cond (opens_here (get_or text j 0) closed) (Some j) (unclosed_below text j (closed_with (get_or text j 0) closed))) less

pub found : (text : List ℕ) (left closed : ℕ) {r : Bool} → 0 < left → r ≡ opens_here (get_or text (left - 1) 0) closed → r ≡ true
    → Some (left - 1) ≡ unclosed_below text left closed
found text left closed h e t = sym (below text left closed h ∙ simp (sym e ∙ t))

pub passed : (text : List ℕ) (left closed : ℕ) {r : Bool} → 0 < left → r ≡ opens_here (get_or text (left - 1) 0) closed → r ≡ false
    → unclosed_below text left closed ≡ unclosed_below text (left - 1) (closed_with (get_or text (left - 1) 0) closed)
passed text left closed h e t = below text left closed h ∙ simp (sym e ∙ t)

pub none_left : (text : List ℕ) (left closed : ℕ) → left ≤ 0 → None ≡ unclosed_below text left closed
unfolding unclosed_below
none_left text zero closed h = refl
none_left text (suc i) closed h = absurd (omega arith)

-- at most one more is closed
pub one_more : (b closed : ℕ) → closed_with b closed ≤ closed + 1
one_more b closed = pick (eqb b 41) (eqb b 40)
  where
    pick : (s t : Bool) → cond s (closed + 1) (cond t (closed - 1) closed) ≤ closed + 1
    pick true t = omega arith
    pick false true = omega arith
    pick false false = omega arith

-- what `unclosed` rests on
pub ruleset unclosed_laws = (found, passed, none_left, one_more)
