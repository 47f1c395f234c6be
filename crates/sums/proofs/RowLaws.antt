-- Laws of the rows of the table.
use Prim.Native.Nat.{ℕ, zero, suc, ◌+◌, ◌≤◌, ◌<◌}
use mathlib.Core.Path.{◌≡◌, refl, sym, ap, subst, ◌∙◌}
use mathlib.Core.List.{List}
use mathlib.Core.Bool.{Bool, true, false}
use native.Mathlib.Omega.{arith}
use native.Mathlib.Numerals.{add-one}
use borrow.Author.Tests.{ltb-true, ltb-false}
use lib.Dec.{ltb}
use lib.ListN.{length, get_or, set, get_or-replicate, length-replicate, length-set}
use lib.Seq.{get_or-set_same, get_or-set_other}
use Rattle.answers.specs.declared.Sum.{Sum}
use Rattle.answers.specs.Gains.{no_sum}
use Rattle.sums.specs.Fractions.{row_of, no_row, rows_of}

rows_suc : (l : List Sum) (k : ℕ) → set (rows_of l k) k (row_of (get_or l k no_sum)) ≡ rows_of l (suc k)
unfolding rows_of
rows_suc l k = refl

pub rows_more : (l : List Sum) (k : ℕ) → set (rows_of l k) k (row_of (get_or l k no_sum)) ≡ rows_of l (k + 1)
rows_more l k = rows_suc l k ∙ ap (rows_of l) (sym (add-one k))

rows_length : (l : List Sum) (k : ℕ) → length (rows_of l k) ≡ 16
unfolding rows_of
rows_length l zero = length-replicate 16 no_row
rows_length l (suc k) = length-set (rows_of l k) k (row_of (get_or l k no_sum)) ∙ rows_length l k

row_pick : (l : List Sum) (k p : ℕ) (t : Bool) → ltb p k ≡ t → p < suc k → k < 16
    → (p < k → get_or (rows_of l k) p no_row ≡ row_of (get_or l p no_sum))
    → get_or (set (rows_of l k) k (row_of (get_or l k no_sum))) p no_row ≡ row_of (get_or l p no_sum)
row_pick l k p true e h q f =
    get_or-set_other (rows_of l k) k p (row_of (get_or l k no_sum)) no_row (λ z. omega (arith, ltb-true p k e)) ∙ f (ltb-true p k e)
row_pick l k p false e h q f =
    subst (λ (x : ℕ). get_or (set (rows_of l k) k (row_of (get_or l k no_sum))) x no_row ≡ row_of (get_or l x no_sum))
    (omega (arith, ltb-false p k e)) (get_or-set_same (rows_of l k) k (row_of (get_or l k no_sum)) no_row (omega (arith, rows_length l k)))

pub row_below : (l : List Sum) (k p : ℕ) → p < k → k ≤ 16 → get_or (rows_of l k) p no_row ≡ row_of (get_or l p no_sum)
unfolding rows_of
row_below l zero p h q = absurd (omega arith)
row_below l (suc k) p h q = row_pick l k p (ltb p k) refl h (omega arith) (λ r. row_below l k p r (omega arith))

pub row_past : (l : List Sum) (k p : ℕ) → k ≤ p → p < 16 → get_or (rows_of l k) p no_row ≡ no_row
unfolding rows_of
row_past l zero p h q = get_or-replicate 16 p no_row no_row q
row_past l (suc k) p h q =
    get_or-set_other (rows_of l k) k p (row_of (get_or l k no_sum)) no_row (λ z. omega arith) ∙ row_past l k p (omega arith) q
