-- Moir's bench as a list of numbers: where each stands.
-- 0 N, 1 W, 2 and 3 the header (tag, process). Then the tags of 64 segments. Then 17 numbers for each of sixteen
-- processes: line, word place, count, the mark of an answered WLL, the tag that it keeps; x, oldhdr, newhdr and h (tag,
-- process); y and z (tag, word). Then the words, in rows of W (`moir_model/specs/Words`).
use Rattle.std.specs.Prelude.{ℕ, ◌+◌, ◌*◌}
use Rattle.moir_model.specs.Words.{return_word}

abbrev pub header_place : ℕ
header_place = 2

abbrev pub tag_place : ℕ → ℕ
tag_place k = 4 + k

abbrev pub process_place : ℕ → ℕ
process_place p = 68 + 17 * p

-- where the mark of an answered WLL of process p stands
abbrev pub mark_place : ℕ → ℕ
mark_place p = process_place p + 3

abbrev pub words_place : ℕ
words_place = 340

-- where the words that a WLL of process p answered stand: its return area
abbrev pub answer_place : ℕ → ℕ → ℕ → ℕ
answer_place n w p = words_place + return_word n w (record { 0 = p }) 0
