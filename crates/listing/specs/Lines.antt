-- The lines of a listing as bytes, to be held against 01's "The listing has a line for each answer".
use Rattle.std.specs.Prelude.{ℕ, List, [], ◌∷◌, ◌++◌, Bool, true, false}
use Rattle.listing.specs.Quoted.{quoted, byte}
use Rattle.listing.specs.Decimal.{decimal}

-- 01: "one space between"
abbrev pub space : ℕ
space = byte " "

-- every line ends with a line feed
abbrev pub line_feed : ℕ
line_feed = byte "\n"

-- 01: "`L`, `S` or `V`"
abbrev pub letter_l : ℕ
letter_l = byte "L"

abbrev pub letter_s : ℕ
letter_s = byte "S"

abbrev pub letter_v : ℕ
letter_v = byte "V"

-- 01: "process, `L`, `S` or `V`, the count of own steps"
unfoldable pub answer_head : ℕ → ℕ → ℕ → List ℕ
answer_head process letter count = decimal process ++ ((space ∷ []) ++ ((letter ∷ []) ++ ((space ∷ []) ++ decimal count)))

-- 01: "then the W words", each after a space
unfoldable pub words_of : List ℕ → List ℕ
words_of [] = []
words_of (w ∷ ws) = (space ∷ []) ++ (decimal w ++ words_of ws)

-- the line of an LL's answer
unfoldable pub ll_line : ℕ → ℕ → List ℕ → List ℕ
ll_line process count ws = answer_head process letter_l count ++ (words_of ws ++ (line_feed ∷ []))

-- 01: "or 1 for true and 0 for false"
abbrev pub truth : Bool → List ℕ
truth true = quoted " 1\n"
truth false = quoted " 0\n"

-- the line of an SC's or a VL's answer
unfoldable pub truth_line : ℕ → ℕ → ℕ → Bool → List ℕ
truth_line process letter count answer = answer_head process letter count ++ truth answer

-- 01: "The last line is `end E`"
unfoldable pub end_line : ℕ → List ℕ
end_line entries = quoted "end " ++ (decimal entries ++ (line_feed ∷ []))

-- 01: "or `refused C E`"
unfoldable pub refused_line : ℕ → ℕ → List ℕ
refused_line refusal entries = quoted "refused " ++ (decimal refusal ++ ((space ∷ []) ++ (decimal entries ++ (line_feed ∷ []))))
