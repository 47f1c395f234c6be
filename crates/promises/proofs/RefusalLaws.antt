-- Where a cause of a list of rows holds, the first that does has a number; where none holds, the first is 0.
use mathlib.Core.Path.{◌≡◌, refl}
use mathlib.Core.Bool.{Bool, true, false, cond, not, ◌||◌}
use mathlib.Core.List.{List, [], ◌∷◌}
use lib.Dec.{eqb}
use borrow.Author.Tests.{eqb-false, not-true}
use Rattle.llsc.specs.Rows.{Row, first}
use Rattle.laws.proofs.Updates.{contra}
use Rattle.serving.proofs.RefusalFacts.{and_true, numbered}
use Rattle.promises.specs.Promises.{some_cause}

pub some_first : (rs : List Row) → numbered rs ≡ true → some_cause rs ≡ true → first rs ≡ 0 → ⊥
some_first [] n e z = contra e refl
some_first (r ∷ rs) n e z =
    let parts = and_true (not (eqb r.number 0)) (numbered rs) n in
    by r.holds (eqb-false r.number 0 (not-true _ parts.0)) (some_first rs parts.1) e z
  where
    by : (b : Bool) → (r.number ≡ 0 → ⊥) → (some_cause rs ≡ true → first rs ≡ 0 → ⊥)
        → (b || some_cause rs) ≡ true → cond b r.number (first rs) ≡ 0 → ⊥
    by true h rest e z = h z
    by false h rest e z = rest e z

pub none_first : (rs : List Row) → some_cause rs ≡ false → first rs ≡ 0
none_first [] e = refl
none_first (r ∷ rs) e = by r.holds (none_first rs) e
  where
    by : (b : Bool) → (some_cause rs ≡ false → first rs ≡ 0)
        → (b || some_cause rs) ≡ false → cond b r.number (first rs) ≡ 0
    by true rest e = absurd (contra refl e)
    by false rest e = rest e
