-- Words of at most ten digits: every word of a text run is one, since its texts have no larger numbers.
use mathlib.Core.Path.{◌≡◌, refl, sym, ap}
use mathlib.Core.List.{List, [], ◌∷◌}
use Prim.Native.Nat.{ℕ, zero, suc, ◌≤◌, ◌<◌}
use native.Mathlib.Omega.{arith}
use native.Mathlib.Nat.{le_of_suc-le-suc, not-suc-le-zero}
use lib.ListN.{length, get_or, set, take, replicate, length-replicate}
use lib.Seq.{sets, length-take-le}
use Rattle.notation.specs.Grammar.{largest}

-- the first k words
pub record Below (k : ℕ) (ws : List ℕ) : Type 0 where
  pub at : (i : ℕ) → i < k → get_or ws i 0 ≤ largest

-- every word of a value
pub record Every (v : List ℕ) : Type 0 where
  pub at : (i : ℕ) → get_or v i 0 ≤ largest

get_d_set_le : (l : List ℕ) (i j v : ℕ) → v ≤ largest → get_or l j 0 ≤ largest → get_or (set l i v) j 0 ≤ largest
get_d_set_le [] i j v p q = q
get_d_set_le (a ∷ l) zero zero v p q = p
get_d_set_le (a ∷ l) zero (suc j) v p q = q
get_d_set_le (a ∷ l) (suc i) zero v p q = q
get_d_set_le (a ∷ l) (suc i) (suc j) v p q = get_d_set_le l i j v p q

pub below_set : {k : ℕ} {ws : List ℕ} (i v : ℕ) → v ≤ largest → Below k ws → Below k (set ws i v)
below_set {ws = ws} i v p b = record { at = λ j h. get_d_set_le ws i j v p (b.at j h) }

pub below_sets : {k : ℕ} (ws : List ℕ) (i : ℕ) (v : List ℕ) → Every v → Below k ws → Below k (sets ws i v)
below_sets ws i [] e b = b
below_sets ws i (a ∷ v) e b = below_sets (set ws i a) (suc i) v (record { at = λ j. e.at (suc j) }) (below_set i a (e.at 0) b)

pub every_replicate : (n k : ℕ) → k ≤ largest → Every (replicate n k)
every_replicate n k h = record { at = all n }
  where
    all : (n i : ℕ) → get_or (replicate n k) i 0 ≤ largest
    all zero i = omega arith
    all (suc n) zero = h
    all (suc n) (suc i) = all n i

pub every_none : Every []
every_none = record { at = λ i. omega arith }

-- the first words of a row of equal words
pub take_replicate : {A : Type 0} (i n : ℕ) (a : A) → i ≤ n → take i (replicate n a) ≡ replicate i a
take_replicate zero n a h = refl
take_replicate (suc i) zero a h = absurd (not-suc-le-zero h)
take_replicate (suc i) (suc n) a h = ap (λ (l : List _). a ∷ l) (take_replicate i n a (le_of_suc-le-suc h))

-- the part of a row that is lent
pub prefix_length : {g k : ℕ} {value : List ℕ} → g ≤ 64 → value ≡ replicate 64 k → g ≡ length (take g value)
prefix_length {g} {k} h e = let l = length-take-le g (replicate 64 k) (omega (arith, length-replicate 64 k)) in rw e (sym l)
