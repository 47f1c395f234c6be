-- Lines and columns by computation.
use mathlib.Core.Path.{◌≡◌, refl}
use mathlib.Core.List.{[]}
use Rattle.std.specs.Prelude.{None, Some}
use Rattle.listing.specs.Quoted.{quoted}
use Rattle.positions.specs.Brackets.{unclosed_below, unclosed_in}
use Rattle.positions.specs.Positions.{on_byte, seen_from, seen_in, line_after, column_after}

record Places : Type 0 where
  -- a text begins at line 1, column 1
  first_line : line_after [] ≡ 1
  first_column : column_after [] ≡ 1
  -- the place of a carriage return at the end of the first line
  return_line : line_after (quoted "2 1 5") ≡ 1
  return_column : column_after (quoted "2 1 5") ≡ 6
  -- a line begins after its line feed
  next_line : line_after (quoted "2 1 5\n") ≡ 2
  next_column : column_after (quoted "2 1 5\n") ≡ 1
  -- an item on the fourth line, after an empty one and two spaces
  item_line : line_after (quoted "2 1 5\n0l 0!\n\n  ") ≡ 4
  item_column : column_after (quoted "2 1 5\n0l 0!\n\n  ") ≡ 3

places : Places
unfolding on_byte seen_from
places = record
    { first_line = refl; first_column = refl; return_line = refl; return_column = refl; next_line = refl; next_column = refl; item_line = refl; item_column = refl }

-- after "2 1 5\n12s34": the last byte is a digit, and the number that it is in began after an `s`
in_number : (seen_in (quoted "2 1 5\n12s34")).mark ≡ Some 115
unfolding on_byte seen_from
in_number = refl

-- after "2 1 5\n2( \n": the last byte that is no gap is the `(`
in_brackets : (seen_in (quoted "2 1 5\n2( \n")).solid ≡ Some 40
unfolding on_byte seen_from
in_brackets = refl

-- the `(` that the text ends in: the last one, not the one that a `)` closes, and none
record Unclosed : Type 0 where
  last : unclosed_in (quoted "2 1 5\n2(0l 3(1.") ≡ Some 12
  closed : unclosed_in (quoted "2 1 5\n2(0l 3(1.) 0.") ≡ Some 7
  none : unclosed_in (quoted "2 1 5\n2(0l)") ≡ None

unclosed : Unclosed
unfolding unclosed_below
unclosed = record { last = refl; closed = refl; none = refl }
