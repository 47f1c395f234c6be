-- 01's lines, byte for byte.
use mathlib.Core.Path.{◌≡◌, refl}
use mathlib.Core.List.{[], ◌∷◌, ◌++◌}
use mathlib.Core.Bool.{true, false}
use Rattle.listing.specs.Quoted.{quoted}
use Rattle.listing.specs.Decimal.{digits, decimal}
use Rattle.listing.specs.Divisions.{divide, divided}
use Rattle.listing.specs.Lines.{letter_s, letter_v, answer_head, words_of, ll_line, truth_line, end_line, refused_line}

-- the whole listing of case A
case-A : ll_line 0 8 (5 ∷ []) ++ (truth_line 0 letter_s 5 true
    ++ (ll_line 1 8 (7 ∷ []) ++ (truth_line 0 letter_v 1 false ++ end_line 26)))
    ≡ quoted "0 L 8 5\n0 S 5 1\n1 L 8 7\n0 V 1 0\nend 26\n"
unfolding ll_line truth_line end_line answer_head words_of decimal digits
case-A = refl

-- two words
two_words : ll_line 15 519 (0 ∷ 4294967295 ∷ []) ≡ quoted "15 L 519 0 4294967295\n"
unfolding ll_line answer_head words_of decimal digits
two_words = refl

-- run G
case-G : refused_line 7 0 ≡ quoted "refused 7 0\n"
unfolding refused_line decimal digits
case-G = refl

-- the longest last line
longest : refused_line 14 60000 ≡ quoted "refused 14 60000\n"
unfolding refused_line decimal digits
longest = refl

-- the largest number of 64 bits
largest : decimal 18446744073709551615 ≡ quoted "18446744073709551615"
unfolding decimal digits
largest = refl

-- 1024 after three of its four divisions, and after all; 0 after its one
record Divided : Type 0 where
  three : divided 3 1024 ≡ record { rest = 1; ready = quoted "024" }
  four : divided 4 1024 ≡ record { rest = 0; ready = quoted "1024" }
  zero : divided 1 0 ≡ record { rest = 0; ready = quoted "0" }

divided_so : Divided
unfolding divided divide
divided_so = record { three = refl; four = refl; zero = refl }
