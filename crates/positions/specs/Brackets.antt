-- Which `(` of a text no `)` closes: the one to name where a text ends inside a group.
use Rattle.std.specs.Prelude.{ℕ, zero, suc, ◌+◌, ◌-◌, List, Bool, false, cond, eqb, length, get_or, Option, None, Some}

-- a `(` where every `)` behind it closes another
abbrev pub opens_here : ℕ → ℕ → Bool
opens_here b closed = cond (eqb b 40) (eqb closed 0) false

-- how many `(` before this byte are closed by it and what follows
abbrev pub closed_with : ℕ → ℕ → ℕ
closed_with b closed = cond (eqb b 41) (closed + 1) (cond (eqb b 40) (closed - 1) closed)

-- the last one among the first `left` bytes, if there is one
unfoldable pub unclosed_below : List ℕ → ℕ → ℕ → Option ℕ
unclosed_below text zero closed = None
unclosed_below text (suc i) closed =
    cond (opens_here (get_or text i 0) closed) (Some i) (unclosed_below text i (closed_with (get_or text i 0) closed))

abbrev pub unclosed_in : List ℕ → Option ℕ
unclosed_in text = unclosed_below text (length text) 0
