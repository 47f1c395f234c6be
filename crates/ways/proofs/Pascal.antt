-- Pascal's rule, tested over the whole table, makes each of its entries the number of ways to finish.
use Prim.Native.Nat.{ℕ, zero, suc, ◌+◌, ◌≤◌}
use mathlib.Core.Path.{◌≡◌, refl, ap₂, ◌∙◌}
use mathlib.Core.List.{List, []}
use mathlib.Core.Bool.{Bool, true, false, cond, ◌||◌}
use native.Mathlib.Omega.{arith}
use lib.ListN.{length, get_or}
use lib.Dec.{eqb}
use borrow.Author.Tests.{eqb-true, ne_eqb}
use Rattle.laws.proofs.AndLaws.{left, right}
use Rattle.laws.proofs.Updates.{contra}
use Rattle.ways.specs.declared.TheConstants.{WAYS}
use Rattle.ways.specs.Ways.{ways}
use Rattle.ways.specs.Table.{every_entry, entry_at, rule_at, good_row, rule, Pascal}
use Rattle.ways.proofs.Tested.{at}

on_edge : (t a b : Bool) → cond t a b ≡ true → t ≡ true → a ≡ true
on_edge true a b h e = h
on_edge false a b h e = absurd (contra e refl)

off_edge : (t a b : Bool) → cond t a b ≡ true → t ≡ false → b ≡ true
off_edge true a b h e = absurd (contra refl e)
off_edge false a b h e = h

or_true : (t : Bool) → (t || true) ≡ true
or_true true = refl
or_true false = refl

positive : (k : ℕ) → eqb (suc k) 0 ≡ false
positive k = ne_eqb (suc k) 0 (λ (z : suc k ≡ 0). omega (arith, z))

-- the rule is tested over the constants of the code
pub table_is : Pascal WAYS
unfolding rule rule_at good_row
table_is = record { size = refl; tested = refl }

module _ (t : List (List ℕ)) (p : Pascal t) where
  row_passed : (a : ℕ) → a ≤ 32 → good_row t a (get_or t a []) ≡ true
  unfolding rule
  row_passed a h = at [] (good_row t) t p.tested a (omega (arith, p.size))

  pub row_size : (a : ℕ) → a ≤ 32 → length (get_or t a []) ≡ 33
  unfolding good_row
  row_size a h =
      let row = get_or t a [] in
      eqb-true (length row) 33 (left (eqb (length row) 33) (every_entry (rule_at t a) 0 row) (row_passed a h))

  passed : (a b : ℕ) → a ≤ 32 → b ≤ 32 → rule_at t a b (entry_at t a b) ≡ true
  unfolding good_row
  passed a b ha hb =
      let row = get_or t a [] in
      at 0 (rule_at t a) row (right (eqb (length row) 33) (every_entry (rule_at t a) 0 row) (row_passed a ha)) b
      (omega (arith, row_size a ha))

  pub entry_is : (a b : ℕ) → a ≤ 32 → b ≤ 32 → entry_at t a b ≡ ways a b
  unfolding ways rule_at
  entry_is zero b ha hb = eqb-true (entry_at t 0 b) 1 (passed 0 b ha hb)
  entry_is (suc a) zero ha hb =
      eqb-true (entry_at t (suc a) 0) 1 (on_edge _ _ _ (passed (suc a) 0 ha hb) (or_true (eqb (suc a) 0)))
  entry_is (suc a) (suc b) ha hb =
      eqb-true _ _ (off_edge _ _ _ (passed (suc a) (suc b) ha hb) (ap₂ ◌||◌ (positive a) (positive b)))
      ∙ ap₂ (λ i j. entry_at t i (suc b) + entry_at t (suc a) j) (omega arith) (omega arith)
      ∙ ap₂ ◌+◌ (entry_is a (suc b) (omega arith) hb) (entry_is (suc a) b ha (omega arith))

-- what the function reads
pub kept_is : (a b : ℕ) → a ≤ 32 → b ≤ 32 → get_or (get_or WAYS a []) b 0 ≡ ways a b
kept_is = entry_is WAYS table_is
