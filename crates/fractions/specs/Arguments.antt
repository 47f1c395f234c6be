-- What an argument of `fractions` is worth: the number that its digits make, at most 4,294,967,295, or nothing where it is
-- no such number.
use Rattle.std.specs.Prelude.{ℕ, ◌+◌, ◌-◌, ◌*◌, List, [], ◌∷◌, cond, ltb, Option, Some, None}
use Rattle.std.specs.Char.{is_ascii_digit}

-- one digit more
abbrev pub with_digit : ℕ → ℕ → ℕ
with_digit v b = v * 10 + (b - 48)

unfoldable pub number_from : ℕ → List ℕ → Option ℕ
number_from v [] = Some v
number_from v (b ∷ bs) =
    cond (is_ascii_digit b) (cond (ltb 4294967295 (with_digit v b)) None (number_from (with_digit v b) bs)) None

abbrev pub number_told : List ℕ → Option ℕ
number_told bs = number_from 0 bs
