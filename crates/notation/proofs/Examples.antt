-- Texts of 01 and texts that break, read by computation.
use Prim.Native.Nat.{ℕ}
use Prim.Native.String.{String}
use mathlib.Core.Path.{◌≡◌, refl}
use mathlib.Core.List.{List, [], ◌∷◌}
use Rattle.listing.specs.Quoted.{quoted}
use Rattle.notation.specs.declared.Kind.TheVariants.{Gap}
use Rattle.notation.specs.declared.Mark.TheVariants.{Ll, One, All}
use Rattle.notation.specs.declared.Entry.{Entry}
use Rattle.notation.specs.declared.Entry.TheVariants.{StartLl, StartVl, StartSc, Step, Finish}
use Rattle.notation.specs.Bytes.{kind_of}
use Rattle.notation.specs.Grammar as G
use Rattle.notation.specs.Grammar.{Number, Item, Items, Text, times, deepest, item_bytes, schedule_bytes, first_bytes, bytes}
use Rattle.notation.specs.Grammar.{item_says, schedule_says, says, item_places, schedule_places, places}
use Rattle.notation.specs.Scan.{on_digit, more, move, said, at_end, go, scan}
use Rattle.notation.specs.FirstLine.{starting, inside, step, whole, proceed, read_from, read}
use Rattle.notation.specs.Readings.{Reading, right, wrong}

unfoldable read_text : String → Reading
read_text s = read (quoted s)

said_after : ℕ → ℕ → ℕ → List Entry → Reading
said_after n w v es = right (record { n = n; w = w; initial = v; entries = es })

-- texts that are right
record RightTexts : Type 0 where
  -- case A
  case-A : read_text "2 1 5\n0l 0! 0s7 0! 1l 1! 0v 0!\n" ≡ said_after 2 1 5 (StartLl 0 ∷ Finish 0 ∷ StartSc 0 7 ∷ Finish 0 ∷ StartLl 1 ∷ Finish 1 ∷ StartVl 0 ∷ Finish 0 ∷ [])
  -- run B's beginning, with its group
  group : read_text "2 1 5\n0l 2(0.) 1l" ≡ said_after 2 1 5 (StartLl 0 ∷ Step 0 ∷ Step 0 ∷ StartLl 1 ∷ [])
  -- run N: an empty schedule; gaps everywhere they may stand
  empty : read_text "16 64 0\n" ≡ said_after 16 64 0 []
  gaps : read_text "1 1 0\n \n2( 0. \n1(0l) )\n " ≡ said_after 1 1 0 (Step 0 ∷ StartLl 0 ∷ Step 0 ∷ StartLl 0 ∷ [])
  -- CR 3: `0` itself stays, and zeros that do not lead
  zeros : read_text "0 0 0\n0s0 10. 100(0.)" ≡ said_after 0 0 0 (StartSc 0 0 ∷ Step 10 ∷ times 100 (Step 0 ∷ []))
  -- the largest number
  largest : read_text "4294967295 1 5\n" ≡ said_after 4294967295 1 5 []
  -- eight deep
  eight : read_text "1 1 0\n1(1(1(1(1(1(1(1(0.))))))))" ≡ said_after 1 1 0 (Step 0 ∷ [])

right_texts : RightTexts
unfolding read_text said_after read read_from proceed step starting inside whole scan go move said more on_digit at_end kind_of times
right_texts = record { case-A = refl; group = refl; empty = refl; gaps = refl; zeros = refl; largest = refl; eight = refl }

-- texts that are not, with the number of bytes from the fault's place on
record WrongTexts : Type 0 where
  -- run M: a count of 0
  case-M : read_text "2 1 5\n0(0.)" ≡ wrong 10 4
  -- a first line without its line feed; two spaces in it; a number too large
  unended : read_text "2 1 5" ≡ wrong 10 0
  two_spaces : read_text "2  1 5\n" ≡ wrong 10 5
  too_large : read_text "4294967296 1 5\n" ≡ wrong 10 6
  -- items that nothing parts; brackets that hold nothing; a `)` that closes nothing
  close_by : read_text "2 1 5\n0l0." ≡ wrong 10 2
  hollow : read_text "2 1 5\n2( )" ≡ wrong 10 1
  stray_close : read_text "2 1 5\n0l )" ≡ wrong 10 1
  -- nine deep, and a bad count at the ninth
  nine : read_text "1 1 0\n1(1(1(1(1(1(1(1(1(" ≡ wrong 11 1
  nine_zero : read_text "1 1 0\n1(1(1(1(1(1(1(1(0(" ≡ wrong 10 1

wrong_texts : WrongTexts
unfolding read_text said_after read read_from proceed step starting inside whole scan go move said more on_digit at_end kind_of times
wrong_texts = record { case-M = refl; unended = refl; two_spaces = refl; too_large = refl; close_by = refl; hollow = refl; stray_close = refl; nine = refl; nine_zero = refl }

-- CR 3: a leading zero is told at the digit after it
record LeadingZeros : Type 0 where
  -- in the first line
  n : read_text "02 1 5\n" ≡ wrong 10 6
  w : read_text "2 01 5\n" ≡ wrong 10 4
  initial : read_text "2 1 05\n" ≡ wrong 10 2
  -- in a process, a count, the number after an `s`
  process : read_text "2 1 5\n00" ≡ wrong 10 1
  count : read_text "2 1 5\n007(0.)" ≡ wrong 10 6
  offer : read_text "2 1 5\n1s00" ≡ wrong 10 1
  -- also of a number that would be too large
  large : read_text "2 1 5\n04294967296" ≡ wrong 10 10
  -- a `0` alone breaks only where no item is
  alone : read_text "2 1 5\n0" ≡ wrong 10 0
  apart : read_text "2 1 5\n0 0 0" ≡ wrong 10 4

leading_zeros : LeadingZeros
unfolding read_text read read_from proceed step starting inside whole scan go move said more on_digit at_end kind_of
leading_zeros = record { n = refl; w = refl; initial = refl; process = refl; count = refl; offer = refl; large = refl; alone = refl; apart = refl }

-- a text of the grammar, byte for byte, with what it says and where: its group's items stand at 11 and 14, and are carried out twice
tree : Text deepest
unfolding kind_of
tree = record {
  first = record {
    n_digits = 50 ∷ [];
    n = 2;
    n_number = G.digit (record { is = refl });
    w_digits = 49 ∷ [];
    w = 1;
    w_number = G.digit (record { is = refl });
    initial_digits = 53 ∷ [];
    initial = 5;
    initial_number = G.digit (record { is = refl });
  };
  schedule = G.items (G.item (G.apart (G.item (G.apart (one first) 32 [] gap G.none) group) 32 [] gap G.none) last) [] G.none;
}
  where
    gap : G.Byte 32 Gap
    gap = record { is = refl }

    zeroth : Number (48 ∷ []) 0
    zeroth = G.digit (record { is = refl })

    one : {d : ℕ} → Item d → Items d
    one i = G.item (G.fresh [] G.none) i

    first : Item deepest
    first = G.marked (48 ∷ []) 0 108 Ll zeroth (record { is = refl })

    inner : Items 7
    inner = G.item (G.apart (one (G.marked (48 ∷ []) 0 46 One zeroth (record { is = refl }))) 32 [] gap G.none)
        (G.marked (49 ∷ []) 1 46 One (G.digit (record { is = refl })) (record { is = refl }))

    group : Item deepest
    group = G.group (50 ∷ []) 2 40 (G.digit (record { is = refl })) refl (record { is = refl }) inner [] 41 G.none (record { is = refl })

    last : Item deepest
    last = G.marked (48 ∷ []) 0 33 All zeroth (record { is = refl })

record Standing : Type 0 where
  text : bytes tree ≡ quoted "2 1 5\n0l 2(0. 1.) 0!"
  entries : (says tree).entries ≡ StartLl 0 ∷ Step 0 ∷ Step 1 ∷ Step 0 ∷ Step 1 ∷ Finish 0 ∷ []
  standing : places tree ≡ 6 ∷ 11 ∷ 14 ∷ 11 ∷ 14 ∷ 18 ∷ []

standing : Standing
unfolding tree bytes first_bytes schedule_bytes item_bytes says schedule_says item_says places schedule_places item_places times
standing = record { text = refl; entries = refl; standing = refl }
