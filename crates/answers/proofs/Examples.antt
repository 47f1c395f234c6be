-- Listings by computation: 01's case A and another, and what row 18 takes and refuses, N = 2 and W = 1 or 2.
use Prim.Native.Nat.{ℕ, ◌-◌}
use Prim.Native.String.{String}
use mathlib.Core.Path.{◌≡◌, refl}
use mathlib.Core.List.{List, [], ◌∷◌}
use mathlib.Core.Bool.{Bool, true, false}
use lib.ListN.{length, replicate}
use Rattle.std.specs.Option.{unwrap_or}
use Rattle.std.specs.Prelude.{Result}
use Rattle.std.specs.Result.{is_ok, result_err, result_unwrap_or}
use Rattle.listing.specs.Quoted.{quoted}
use Rattle.answers.specs.declared.Sum.{Sum}
use Rattle.answers.specs.Gains.{no_sum, tally}
use Rattle.answers.specs.Readers.{digits_after, number_in, spaced_number, expected, words_in, ll_tail, truth_tail, by_letter, answer_in, finished, end_in, refused_in, last_in, lines_in, listing_in}
use Rattle.answers.specs.Readers.{sums_in, sums_read}

abbrev sum : ℕ → ℕ → ℕ → ℕ → Sum
sum a b c d = record { successes = a; scs = b; steps = c; lls = d }

-- a listing read, and on its line all that reading computes with
unfoldable read : ℕ → List Sum → String → Result (List Sum) (List ℕ)
unfolding tally digits_after number_in spaced_number expected words_in ll_tail truth_tail by_letter answer_in
    finished end_in refused_in last_in lines_in listing_in
read w before s = listing_in 2 w before (quoted s)

-- the sums that are read, of a wrong listing too
unfoldable sums_before : ℕ → String → List Sum
unfolding tally digits_after number_in spaced_number expected words_in ll_tail truth_tail by_letter answer_in sums_in sums_read
sums_before w s = sums_read 2 w (replicate 2 no_sum) (quoted s)

unfoldable sums : ℕ → String → List Sum
unfolding read
sums w s = result_unwrap_or (read w (replicate 2 no_sum) s) []

unfoldable right : ℕ → String → Bool
unfolding read
right w s = is_ok (read w [] s)

-- the place of the first wrong byte
unfoldable breaks_at : ℕ → String → ℕ
unfolding read
breaks_at w s = length (quoted s) - length (unwrap_or (result_err (read w [] s)) [])

-- 01's case A under CR 4, a failed SC, and a wide LL
case_a : sums 1 "0 L 10 5\n0 S 6 1\n1 L 10 7\n0 V 1 0\nend 31\n" ≡ sum 1 1 10 1 ∷ sum 0 0 10 1 ∷ []
unfolding sums
case_a = refl

failed_sc : sums 1 "0 L 10 5\n0 S 6 1\n0 S 6 0\nrefused 12 21\n" ≡ sum 1 2 10 1 ∷ no_sum ∷ []
unfolding sums
failed_sc = refl

-- the sums that are read: of a right listing; of one whose third line is an LL without its word; of one that breaks in
-- its last line; of one that breaks in its first
read_right : sums_before 1 "0 L 10 5\n0 S 6 1\n1 L 10 7\n0 V 1 0\nend 31\n" ≡ sum 1 1 10 1 ∷ sum 0 0 10 1 ∷ []
unfolding sums_before
read_right = refl

breaks_third : sums_before 1 "0 L 10 5\n0 S 6 1\n1 L 10\n0 V 1 0\nend 31\n" ≡ sum 1 1 10 1 ∷ no_sum ∷ []
unfolding sums_before
breaks_third = refl

breaks_last : sums_before 1 "1 S 6 0\n0 L 10 5\nend 031\n" ≡ sum 0 0 10 1 ∷ sum 0 1 0 0 ∷ []
unfolding sums_before
breaks_last = refl

breaks_first : sums_before 1 "0 L 08 5\n0 S 6 1\nend 31\n" ≡ no_sum ∷ no_sum ∷ []
unfolding sums_before
breaks_first = refl

two_words : right 2 "0 L 14 5 6\nend 15\n" ∷ right 2 "0 L 14 5\nend 15\n" ∷ right 1 "0 L 14 5 6\nend 15\n" ∷ [] ≡ true ∷ false ∷ false ∷ []
unfolding right
two_words = refl

largest_numbers : right 1 "end 0\n" ∷ right 1 "refused 4294967295 4294967295\n" ∷ right 1 "1 L 4294967295 4294967295\nend 1\n" ∷ [] ≡ true ∷ true ∷ true ∷ []
unfolding right
largest_numbers = refl

-- no bytes; no line feed; something after the last line; a leading zero in a process, a count, a word and E; a number
-- too large; a process not below N; no word; a truth of 2; a letter that is none; no last line; two spaces
wrong_at_lem : breaks_at 1 "" ∷ breaks_at 1 "end 0" ∷ breaks_at 1 "end 0\nend 0\n" ∷ breaks_at 1 "00 L 8 5\nend 0\n" ∷ breaks_at 1 "0 L 08 5\nend 0\n"
    ∷ breaks_at 1 "0 L 8 05\nend 0\n" ∷ breaks_at 1 "end 00\n" ∷ breaks_at 1 "end 4294967296\n" ∷ breaks_at 1 "2 L 8 5\nend 0\n" ∷ breaks_at 1 "0 L 8\nend 0\n"
    ∷ breaks_at 1 "0 S 5 2\nend 0\n" ∷ breaks_at 1 "0 X 5 1\nend 0\n" ∷ breaks_at 1 "0 L 8 5\n" ∷ breaks_at 1 "end  0\n" ∷ []
    ≡ 0 ∷ 5 ∷ 6 ∷ 1 ∷ 5 ∷ 7 ∷ 5 ∷ 13 ∷ 1 ∷ 5 ∷ 7 ∷ 2 ∷ 8 ∷ 4 ∷ []
unfolding breaks_at
wrong_at_lem = refl

wrong_ones : right 1 "" ∷ right 1 "end 0" ∷ right 1 "end 0\nend 0\n" ∷ right 1 "00 L 8 5\nend 0\n" ∷ right 1 "0 L 08 5\nend 0\n" ∷ right 1 "end 4294967296\n"
    ∷ right 1 "2 L 8 5\nend 0\n" ∷ right 1 "0 S 5 2\nend 0\n" ∷ right 1 "0 L 8 5\n" ∷ []
    ≡ false ∷ false ∷ false ∷ false ∷ false ∷ false ∷ false ∷ false ∷ false ∷ []
unfolding right
wrong_ones = refl
