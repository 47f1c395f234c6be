-- The first elements of a list, each replaced by one value.
use mathlib.Core.Path.{◌≡◌, refl, sym, ap₂}
use mathlib.Core.List.{List, [], ◌∷◌, ◌++◌}
use Prim.Native.Nat.{ℕ, zero, suc, ◌≤◌}
use native.Mathlib.Omega.{arith}
use lib.ListN.{length, replicate, drop}
use Rattle.station.specs.StationSetUp.{firsts}

pub filled : {A : Type 0} (c : A) (f : ℕ → A → A) → ((j : ℕ) (x : A) → f j x ≡ c) → (a r : ℕ) (xs : List A) → r ≤ length xs
    → replicate r c ++ drop r xs ≡ firsts f a r xs
filled c f k a zero xs h = refl
filled c f k a (suc r) [] h = absurd (omega (arith, h))
filled c f k a (suc r) (x ∷ xs) h = ap₂ (λ y ys. y ∷ ys) (sym (k a x)) (filled c f k (suc a) r xs (omega (arith, h)))
