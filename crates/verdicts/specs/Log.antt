-- The stations' log (02, CR 1): one list of numbers, 6 + W for each answered call.
use Rattle.std.specs.Prelude.{ℕ, zero, suc, ◌+◌, ◌/◌, List, [], ◌∷◌, length, get_or, take, drop}

-- "each with process, kind, start place, answer place, words offered or answered, SC's or VL's 1 or 0, and the moment
-- the logger claims, all whole numbers"
pub record Entry : Type 0 where
  pub process : ℕ
  pub kind : ℕ
  pub start : ℕ
  pub answer : ℕ
  pub truth : ℕ
  pub moment : ℕ
  pub words : List ℕ

-- how many numbers a call has
abbrev pub width : ℕ → ℕ
width w = 6 + w

-- the entry at the front of a list of numbers (0 for a number that is missing)
abbrev pub entry_of : ℕ → List ℕ → Entry
entry_of w ns = record { process = get_or ns 0 0; kind = get_or ns 1 0; start = get_or ns 2 0; answer = get_or ns 3 0; truth = get_or ns 4 0; moment = get_or ns 5 0; words = take w (drop 6 ns) }

-- k entries, one after the other
abbrev pub rows : ℕ → ℕ → List ℕ → List Entry
rows zero w ns = []
rows (suc k) w ns = entry_of w ns ∷ rows k w (drop (width w) ns)

-- the calls of a log
abbrev pub entries : ℕ → List ℕ → List Entry
entries w log = rows (length log / width w) w log

-- the same with a last one that is cut off, if there is one
abbrev pub begun : ℕ → List ℕ → List Entry
begun w log = rows ((length log + (5 + w)) / width w) w log
