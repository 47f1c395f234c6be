-- Where the numbers of a text stand: how many bytes come before the number of an index, and before a byte that is in none.
use Rattle.std.specs.Prelude.{ℕ, suc, ◌-◌, List, [], ◌∷◌, Bool, false, not, ◌&&◌, ◌||◌, cond, eqb}
use Rattle.logtext.specs.Numbers.{is_digit, is_gap}

-- the numbers that are still to be passed once one begins, or does not
abbrev pub passed : Bool → ℕ → ℕ
passed first k = cond first (k - 1) k

-- A number begins at a digit that comes after none. Before the number of index k: the bytes from here on, inside a
-- number or not; all of them where there is no such number.
unfoldable pub place_from : ℕ → Bool → List ℕ → ℕ
place_from k inside [] = 0
place_from k inside (b ∷ bs) = cond ((is_digit b && not inside) && eqb k 0) 0 (suc (place_from (passed (is_digit b && not inside) k) (is_digit b) bs))

abbrev pub place_of : ℕ → List ℕ → ℕ
place_of k text = place_from k false text

-- a byte that is neither digit nor gap, and the bytes before the first: there a text stops being a log
abbrev pub is_stray : ℕ → Bool
is_stray b = not (is_digit b || is_gap b)

unfoldable pub stray_place : List ℕ → ℕ
stray_place [] = 0
stray_place (b ∷ bs) = cond (is_stray b) 0 (suc (stray_place bs))
