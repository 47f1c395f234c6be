-- What `swaps` prints of a trace (CR 13, docs/TRACE.md "Lines that could change places"): the trace's bytes, with two
-- columns before each line.
use Rattle.std.specs.Prelude.{ℕ, List, [], ◌∷◌, ◌++◌, Bool, true, false, eqb, Option}
use Rattle.listing.specs.Quoted.{quoted}
use Rattle.listing.specs.Lines.{line_feed}
use Rattle.marking.specs.declared.Line.{Line}
use Rattle.marking.specs.Marks.{may_swap}
use Rattle.marking.specs.Reading.{no_line, line_in}

-- "`~ ` where the line's command could change places with the command of the line before it, two spaces elsewhere"
abbrev pub mark_text : Bool → List ℕ
mark_text true = quoted "~ "
mark_text false = quoted "  "

-- Where a line begins its mark comes, which is made of that line and of `before`, the line before it; the bytes stay.
unfoldable pub marked_from : Bool → Option Line → List ℕ → List ℕ
marked_from true before [] = []
marked_from false before [] = []
marked_from true before (b ∷ bs) =
    let line : Option Line = line_in (b ∷ bs) in
    mark_text (may_swap before line) ++ (b ∷ marked_from (eqb b line_feed) line bs)
marked_from false before (b ∷ bs) = b ∷ marked_from (eqb b line_feed) before bs

-- the whole trace: before its first line there is none
abbrev pub marked : List ℕ → List ℕ
marked bs = marked_from true no_line bs
