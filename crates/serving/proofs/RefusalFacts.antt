-- Rows of the refusal table: none holds where the first that holds is 0.
use mathlib.Core.Path.{◌≡◌, refl}
use mathlib.Core.Bool.{Bool, true, false, not, ◌&&◌, ◌||◌, cond}
use mathlib.Core.List.{List, [], ◌∷◌}
use Prim.Native.Nat.{ℕ, zero, suc, ◌≤◌}
use lib.Dec.{eqb}
use lib.ListN.{get_or}
use borrow.Author.Tests.{leb-true, eqb-false, not-true, not-false}
use Rattle.llsc.specs.Rows.{Row, first, between, every}
use Rattle.laws.proofs.Updates.{contra}

pub and_true : (a b : Bool) → a && b ≡ true → (a ≡ true) × (b ≡ true)
and_true true b e = (refl, e)
and_true false b e = absurd (contra e refl)

pub or_false : (a b : Bool) → a || b ≡ false → (a ≡ false) × (b ≡ false)
or_false true b e = absurd (contra refl e)
or_false false b e = (refl, e)

-- the numbers of the rows are not 0
abbrev pub numbered : List Row → Bool
numbered rs = every (λ r. not (eqb r.number 0)) rs

abbrev pub no_row : Row
no_row = record { number = 0; holds = false }

first_row_lem : (k : ℕ) (b : Bool) (next : ℕ) → (k ≡ 0 → ⊥) → cond b k next ≡ 0 → (b ≡ false) × (next ≡ 0)
first_row_lem k true next ne e = absurd (ne e)
first_row_lem k false next ne e = (refl, e)

-- so if the first that holds is 0, none holds; j counts the rows from 0
pub none_holds : (rs : List Row) → numbered rs ≡ true → first rs ≡ 0 → (j : ℕ) → (get_or rs j no_row).holds ≡ false
none_holds [] n e j = refl
none_holds (r ∷ rs) n e zero = (first_row_lem r.number r.holds (first rs) (eqb-false _ 0 (not-true _ (and_true (not (eqb r.number 0)) _ n).0)) e).0
none_holds (r ∷ rs) n e (suc j) =
    none_holds rs (and_true (not (eqb r.number 0)) _ n).1
    (first_row_lem r.number r.holds (first rs) (eqb-false _ 0 (not-true _ (and_true (not (eqb r.number 0)) _ n).0)) e).1 j

pub inside : (low high k : ℕ) → not (between low high k) ≡ false → (low ≤ k) × (k ≤ high)
inside low high k e = let z = and_true _ _ (not-false _ e) in (leb-true _ _ z.0, leb-true _ _ z.1)
