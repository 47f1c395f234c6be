-- The marked output by computation.
use mathlib.Core.Path.{◌≡◌, refl}
use mathlib.Core.List.{[]}
use Rattle.listing.specs.Quoted.{quoted}
use Rattle.answers.specs.Readers.{digits_after, number_in, spaced_number, expected}
use Rattle.marking.specs.Reading.{numbered, item_in, looks_in, line_in}
use Rattle.marking.specs.Marked.{marked_from, marked}

nothing : marked [] ≡ []
unfolding marked_from
nothing = refl

-- two starts, of different processes; the last line has no mark
starts : marked (quoted "1 0 start L\n2 1 start V\nend 2\n") ≡ quoted "  1 0 start L\n~ 2 1 start V\n  end 2\n"
unfolding marked_from line_in number_in spaced_number expected digits_after
starts = refl

-- of one process
one_process : marked (quoted "1 0 start L\n2 0 1 Help[0] write 1 4 links cleared\n") ≡ quoted "  1 0 start L\n  2 0 1 Help[0] write 1 4 links cleared\n"
unfolding marked_from line_in item_in looks_in numbered number_in spaced_number expected digits_after
one_process = refl

-- examples/changing-places.txt, entries 23 to 26 and 30, 31: each mark is of a line and the one before it
changing_places : marked (quoted "23 0 start S 7\n24 1 start V\n25 0 12 Bank[0] LL 0 link set\n26 0 14 Help[0] LL 0 4 link set\n")
    ≡ quoted "  23 0 start S 7\n~ 24 1 start V\n~ 25 0 12 Bank[0] LL 0 link set\n  26 0 14 Help[0] LL 0 4 link set\n"
unfolding marked_from line_in item_in looks_in numbered number_in spaced_number expected digits_after
changing_places = refl

sc_and_vl : marked (quoted "30 0 19 X SC 4 1 true links cleared answers 0 S 6 1\n31 1 23 X VL false answers 1 V 1 0\n")
    ≡ quoted "  30 0 19 X SC 4 1 true links cleared answers 0 S 6 1\n  31 1 23 X VL false answers 1 V 1 0\n"
unfolding marked_from line_in item_in looks_in numbered number_in spaced_number expected digits_after
sc_and_vl = refl

-- both only look at X
both_look : marked (quoted "8 0 2 X LL 0 0 link set\n9 1 23 X VL true answers 1 V 1 1\n")
    ≡ quoted "  8 0 2 X LL 0 0 link set\n~ 9 1 23 X VL true answers 1 V 1 1\n"
unfolding marked_from line_in item_in looks_in numbered number_in spaced_number expected digits_after
both_look = refl
