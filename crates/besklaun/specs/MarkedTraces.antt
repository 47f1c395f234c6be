-- A trace with its marks (02, CR 13: "When two commands may change places") in bytes that a caller of the library lends.
use Rattle.std.specs.Prelude.{ℕ, List, cond, leb, length}
use Rattle.std.proofs.lemmas.List.Edits.{sets}
use Rattle.marking.specs.Marked.{marked}

-- more bytes than any trace has
abbrev pub longest_marked : ℕ
longest_marked = 4294967295

-- the length of the marked trace, and as much of it as there is room for; a longer text is not looked at
abbrev pub mark_told : List ℕ → List ℕ → ℕ × List ℕ
mark_told trace bytes = cond (leb (length trace) longest_marked) (length (marked trace), sets bytes 0 (marked trace)) (0, bytes)
