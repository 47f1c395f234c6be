-- The rows of a command over the records by value: `list` is the lent records with a filler after them, `len` how many
-- were lent.
-- Inner: the rows and their order are `moir_model`'s.
use Rattle.std.specs.Prelude.{ℕ, List, [], Bool}
use Rattle.moir_model.specs.declared.Bench.{Bench}
use Rattle.moir_model.specs.declared.Process.{Process}
use Rattle.llsc.specs.declared.Order.{Order}
use Rattle.moir_model.specs.Records.{record_at}
use Rattle.llsc.specs.Rows.{first, lent_rows}
use Rattle.moir_model.specs.Sizes.{lent_words}
use Rattle.moir_model.specs.Refusals.{in_range, process_rows, rows_of}

-- the number of the first of rows 1, 2, 3 that holds, 0 for none
unfoldable pub lent_number : ℕ → ℕ → ℕ → ℕ → ℕ
lent_number n w records words = first (lent_rows n w (lent_words n w) records words [])

-- row 9 looks at no words
abbrev pub ranges_ok : Bench → List Process → Bool
ranges_ok b list = in_range (record { bench = b; records = list; words = [] })

-- the number of the first row that holds, 0 for none, for `words` lent words and a value of `value` words
unfoldable pub decision_number : Bench → List Process → ℕ → ℕ → Order → ℕ → ℕ → ℕ
decision_number b list len p o value words =
    first (rows_of b.n b.w len words (ranges_ok b list) p o value (record_at list (record { 0 = p })))

-- the same where rows 1, 2, 3 and 9 don't hold
unfoldable pub late_number : ℕ → ℕ → List Process → ℕ → Order → ℕ → ℕ
late_number n w list p o value = first (process_rows n w p o value (record_at list (record { 0 = p })))
