-- The calls of a log's text by their index: N, W, the W words of the value, then 6 + W numbers for each call (02, CR 1).
use Rattle.std.specs.Prelude.{ℕ, ◌+◌, ◌*◌, List, cond, ltb, get_or, take, drop}
use Rattle.judging.specs.declared.heads.Head.{Head}
use Rattle.logtext.specs.Places.{place_of}
use Rattle.saying.specs.Told.{place_in}

-- W as the text has it, 0 where it is above 64
abbrev pub width_told : List ℕ → ℕ
width_told numbers = cond (ltb 64 (get_or numbers 1 0)) 0 (get_or numbers 1 0)

-- where a call's numbers begin; a text has at most 65,536 numbers, and so no call above that
abbrev pub first_of : List ℕ → ℕ → ℕ
first_of numbers call = cond (ltb 65536 call) 0 (2 + width_told numbers + call * (6 + width_told numbers))

-- its number k, 0 where there is none
abbrev pub part_of : List ℕ → ℕ → ℕ → ℕ
part_of numbers call k = get_or numbers (first_of numbers call + k) 0

-- its six numbers
abbrev pub head_in : List ℕ → ℕ → Head
head_in numbers call = record {
  process = part_of numbers call 0;
  kind = part_of numbers call 1;
  start = part_of numbers call 2;
  answer = part_of numbers call 3;
  truth = part_of numbers call 4;
  moment = part_of numbers call 5;
}

-- the line of the text in which it begins
abbrev pub line_in : List ℕ → List ℕ → ℕ → ℕ
line_in numbers text call = (place_in text (place_of (first_of numbers call) text)).line

-- the W numbers from an index on, as far as there are so many
abbrev pub words_in : List ℕ → ℕ → List ℕ
words_in numbers from = take (width_told numbers) (drop from numbers)
