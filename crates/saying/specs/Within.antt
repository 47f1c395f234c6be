-- A place of a text that a message tells: the place itself, or the text's end where it is past it.
use Rattle.std.specs.Prelude.{ℕ, min, List, length}

abbrev pub within_text : ℕ → List ℕ → ℕ
within_text place text = min place (length text)
