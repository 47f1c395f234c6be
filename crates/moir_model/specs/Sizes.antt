-- The sizes that follow from N and W, each said once (02, CR 8).
use Rattle.std.specs.Prelude.{ℕ, ◌+◌, ◌*◌}

-- "(3N + 1) × W words lent": A, the segments' words, the return areas and the offer areas
abbrev pub lent_words : ℕ → ℕ → ℕ
lent_words n w = (3 * n + 1) * w

-- the most own steps of a WLL and of an SC
abbrev pub wll_most : ℕ → ℕ
wll_most w = 5 * w + 1

abbrev pub sc_most : ℕ → ℕ
sc_most w = 6 * w + 2

-- "busy count at most 6W+1"
abbrev pub busy_most : ℕ → ℕ
busy_most w = 6 * w + 1
