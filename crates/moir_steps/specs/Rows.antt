-- The rows of the lent words, by their numbers.
-- Inner: `row_word` says with them what `moir_model`'s four places are.
use Rattle.std.specs.Prelude.{ℕ, ◌+◌, ◌*◌}
use Rattle.moir_model.specs.Words.{announced_word, segment_word, return_word, offer_word}
use Rattle.moir_steps.specs.declared.word_places.Row.{Row}
use Rattle.moir_steps.specs.declared.word_places.Row.TheVariants.{Announced, Segments, Returned, Offered}

abbrev pub row_number : ℕ → Row → ℕ
row_number n (Announced q) = q.0
row_number n Segments = n
row_number n (Returned p) = n + 1 + p.0
row_number n (Offered p) = 2 * n + 1 + p.0

-- where word k of a row lies
abbrev pub row_word : ℕ → ℕ → Row → ℕ → ℕ
row_word n w (Announced q) k = announced_word w q k
row_word n w Segments k = segment_word n w k
row_word n w (Returned p) k = return_word n w p k
row_word n w (Offered p) k = offer_word n w p k
