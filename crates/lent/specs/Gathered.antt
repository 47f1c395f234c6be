-- The lent records by value, and stored back one by one where they lie.
-- Inner: `GatheredLaws` proves that they are the lent ones, as far as N needs.
use Rattle.std.specs.Prelude.{ℕ, zero, suc, List, get_or, set, replicate}

-- the first i of sixteen records taken from l, and d in the other places
unfoldable pub gathered : {A : Type 0} → List A → A → ℕ → List A
gathered l d zero = replicate 16 d
gathered l d (suc i) = set (gathered l d i) i (get_or l i d)

-- l with its first i records taken from a, and d where a has none
unfoldable pub stored : {A : Type 0} → List A → List A → A → ℕ → List A
stored l a d zero = l
stored l a d (suc i) = set (stored l a d i) i (get_or a i d)
