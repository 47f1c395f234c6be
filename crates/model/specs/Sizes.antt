-- The sizes that follow from N and W, each said once.
use Rattle.std.specs.Prelude.{ℕ, ◌+◌, ◌*◌}

-- "BUF, 3N buffers", "Bank, 2N buffer numbers": buffer numbers are below 3N, sequence numbers below 2N
abbrev pub buffers : ℕ → ℕ
buffers n = 3 * n

abbrev pub sequence_numbers : ℕ → ℕ
sequence_numbers n = 2 * n

-- the rows of W words before the offer areas: the buffers and N return areas
abbrev pub rows_before_offers : ℕ → ℕ
rows_before_offers n = 4 * n

-- "Words lent: 5 × N × W": the buffers, the return areas and the offer areas
abbrev pub lent_words : ℕ → ℕ → ℕ
lent_words n w = 5 * n * w

-- the moves of a run of words, two for each word; a word place is below it
abbrev pub halves : ℕ → ℕ
halves w = 2 * w

-- the most own steps of an LL, "8W+7", and of an SC, "2W+8"
abbrev pub ll_most : ℕ → ℕ
ll_most w = 8 * w + 7

abbrev pub sc_most : ℕ → ℕ
sc_most w = 2 * w + 8

-- "Row 9's busy limit becomes 8W+6": one less
abbrev pub busy_most : ℕ → ℕ
busy_most w = 8 * w + 6
