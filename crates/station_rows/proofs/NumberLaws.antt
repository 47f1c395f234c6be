-- The numbers below r, as a loop over them finds them and as the rows of the table count them.
use mathlib.Core.Path.{◌≡◌, refl, ap, ◌∙◌}
use mathlib.Core.Bool.{Bool, ◌&&◌}
use Prim.Native.Nat.{ℕ, zero, suc, ◌+◌}
use native.Mathlib.Omega.{arith}
use Rattle.std.specs.List.{list_all, range_with_len}
use Rattle.llsc.specs.Rows.{every}
use Rattle.model.specs.SetUp.{numbers}

all_from : (f : ℕ → Bool) (a n : ℕ) → list_all f (range_with_len a n) ≡ every f (numbers a n)
all_from f a zero = refl
all_from f a (suc n) =
    let s : a + 1 ≡ suc a = omega arith in
    ap (λ b. f a && b) (all_from f (a + 1) n ∙ ap (λ (k : ℕ). every f (numbers k n)) s)

-- what `all` over the numbers below r finds
pub all_is_every : (f : ℕ → Bool) (r : ℕ) → list_all f (range_with_len 0 r) ≡ every f (numbers 0 r)
all_is_every f r = all_from f 0 r
