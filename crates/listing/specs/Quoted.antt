-- Bytes of plain characters, written as text.
use Rattle.std.specs.Prelude.{ℕ, List, [], ◌∷◌}
use Prim.Native.Char.{code}
use Prim.Native.String.{String}

abbrev pub quoted : String → List ℕ
quoted String.[] = []
quoted (String.◌∷◌ c s) = code c ∷ quoted s

-- the byte of one character
abbrev pub byte : String → ℕ
byte String.[] = 0
byte (String.◌∷◌ c s) = code c
