-- The table of a season: two fractions in lowest terms for each process (CR 2).
use Rattle.std.specs.Prelude.{ℕ, zero, suc, ◌*◌, ◌/◌, ◌%◌, ◌<◌, ◌≡◌, List, cond, eqb, get_or, set, replicate, Result, Ok, Err}
use Rattle.std.specs.Int.{◌∣◌}
use Rattle.llsc.specs.declared.refusals.Refusal.{Refusal}
use Rattle.llsc.specs.Refusals.{refusal_number}
use Rattle.answers.specs.declared.Sum.{Sum}
use Rattle.answers.specs.Gains.{no_sum}
use Rattle.sums.specs.declared.Sums.{Sums}
use Rattle.sums.specs.declared.Fraction.{Fraction}
use Rattle.sums.specs.declared.Row.{Row}
use Rattle.sums.specs.Season.{sums_refusal}

-- Euclid's greatest common divisor of a and b, b below the fuel
unfoldable pub euclid : ℕ → ℕ → ℕ → ℕ
euclid zero a b = a
euclid (suc f) a b = cond (eqb b 0) a (euclid f b (a % b))

unfoldable pub gcd : ℕ → ℕ → ℕ
gcd a b = euclid (suc b) a b

abbrev pub none : Fraction
none = record { over = 0; under = 0 }

-- "as fractions in lowest terms. A process with no such call gets 0 over 0."
unfoldable pub lowest : ℕ → ℕ → Fraction
lowest a b = cond (eqb b 0) none (record { over = a / gcd a b; under = b / gcd a b })

-- what lowest terms are: equal cross products, and no common divisor but 1
pub record Lowest (a b x y : ℕ) : Type 0 where
  pub cross : x * b ≡ a * y
  pub coprime : (d : ℕ) → d ∣ x → d ∣ y → d ≡ 1

-- a fraction f of a parts in b calls: lowest terms, and 0 over 0 exactly where there was no such call
pub record Exact (a b : ℕ) (f : Fraction) : Type 0 where
  pub some : 0 < b → Lowest a b f.over f.under
  pub no_call : b ≡ 0 → f ≡ none
  pub only : f ≡ none → b ≡ 0

-- "successful SCs over SCs answered, and the total of LL steps over LLs answered"
unfoldable pub row_of : Sum → Row
row_of s = record { successes = lowest s.successes s.scs; steps = lowest s.steps s.lls }

abbrev pub no_row : Row
no_row = record { successes = none; steps = none }

-- "for each process": the rows of the first k, and 0 over 0 behind them
unfoldable pub rows_of : List Sum → ℕ → List Row
rows_of l zero = replicate 16 no_row
rows_of l (suc k) = set (rows_of l k) k (row_of (get_or l k no_sum))

-- a row for each process below n, the others 0 over 0; or the number of the refusal: rows 1, 2 and 9 for the table too
unfoldable pub table : Sums → Result (List Row) ℕ
table s =
    let number : ℕ = sums_refusal s in
    cond (eqb number 0) (Ok (rows_of s.each s.n)) (Err number)

-- what the code returns: the rows, or a refusal
abbrev pub told_table : Result (List Row) Refusal → Result (List Row) ℕ
told_table (Ok rows) = Ok rows
told_table (Err r) = Err (refusal_number r)
