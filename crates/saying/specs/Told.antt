-- What a message tells of a place of a text, and of a byte.
use Rattle.std.specs.Prelude.{ℕ, ◌+◌, ◌-◌, ◌^◌, ◌++◌, min, List, [], ◌∷◌, ◌&&◌, cond, eqb, leb, take, codes}
use Rattle.std.specs.Fmt.{decimal}
use Rattle.positions.specs.declared.Seen.{Seen}
use Rattle.positions.specs.Positions.{seen_in}
use Rattle.saying.specs.declared.Place.{Place}
use Rattle.saying.specs.Within.{within_text}

-- counted from 1; the largest number stays as it is
abbrev pub from_one : ℕ → ℕ
from_one n = min (n + 1) (2 ^ 64 - 1)

-- the place after what was seen
abbrev pub place_after : Seen → Place
place_after s = record { line = from_one s.feeds; column = from_one s.since }

-- the place of a text that has so many bytes before it, or the text's end
abbrev pub place_in : List ℕ → ℕ → Place
place_in text at = place_after (seen_in (take (within_text at text) text))

-- "3:14"
abbrev pub place_text : Place → List ℕ
place_text p = decimal p.line ++ codes ":" ++ decimal p.column

-- "line 3, column 14"
abbrev pub position_text : Place → List ℕ
position_text p = codes "line " ++ decimal p.line ++ codes ", column " ++ decimal p.column

-- of a tab, a line feed, a carriage return and a space
abbrev pub name_text : ℕ → List ℕ
name_text b =
    cond (eqb b 9) (codes "a tab")
    (cond (eqb b 10) (codes "a line feed")
    (cond (eqb b 13) (codes "a carriage return") (codes "a space")))

-- a byte that has a shape is told as it stands, and another by its name or its number
abbrev pub byte_name : ℕ → List ℕ
byte_name b =
    cond (eqb b 9) (codes "a tab")
    (cond (eqb b 10) (codes "a line feed")
    (cond (eqb b 13) (codes "a carriage return")
    (cond (eqb b 32) (codes "a space") (cond (leb 33 b && leb b 126) (b ∷ []) (codes "byte " ++ decimal b)))))
