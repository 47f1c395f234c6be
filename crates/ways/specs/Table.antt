-- Inner: the test that the table passes, once and whole; proofs/Pascal turns it into `ways` at each entry.
use Rattle.std.specs.Prelude.{◌≡◌, ℕ, suc, ◌+◌, ◌-◌, List, [], ◌∷◌, Bool, true, cond, ◌&&◌, ◌||◌, eqb, length, get_or}

-- f passes at each entry and its place, counted from i
abbrev pub every_entry : {A : Type 0} → (ℕ → A → Bool) → ℕ → List A → Bool
every_entry f i [] = true
every_entry f i (x ∷ xs) = f i x && every_entry f (suc i) xs

-- row a, place b
abbrev pub entry_at : List (List ℕ) → ℕ → ℕ → ℕ
entry_at t a b = get_or (get_or t a []) b 0

-- Pascal's rule for the entry x of row a, place b: 1 on an edge, elsewhere the sum of the entries above and to the left
unfoldable pub rule_at : List (List ℕ) → ℕ → ℕ → ℕ → Bool
rule_at t a b x = cond (eqb a 0 || eqb b 0) (eqb x 1) (eqb x (entry_at t (a - 1) b + entry_at t a (b - 1)))

-- a row of 33 entries, each by the rule
unfoldable pub good_row : List (List ℕ) → ℕ → List ℕ → Bool
good_row t a row = eqb (length row) 33 && every_entry (rule_at t a) 0 row

unfoldable pub rule : List (List ℕ) → Bool
rule t = every_entry (good_row t) 0 t

pub record Pascal (t : List (List ℕ)) : Type 0 where
  pub size : length t ≡ 33
  pub tested : rule t ≡ true
