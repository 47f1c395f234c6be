-- Seasons by computation.
use Prim.Native.Nat.{ℕ}
use mathlib.Core.Path.{◌≡◌, refl}
use mathlib.Core.List.{List, [], ◌∷◌}
use lib.ListN.{take, replicate}
use Rattle.std.specs.Result.{result_unwrap_or}
use Rattle.listing.specs.Quoted.{quoted}
use Rattle.answers.specs.declared.Sum.{Sum}
use Rattle.answers.specs.Gains.{no_sum, tally}
use Rattle.answers.specs.Readers.{digits_after, number_in, spaced_number, expected, words_in, ll_tail, truth_tail, by_letter, answer_in, finished, end_in, refused_in, last_in, lines_in, listing_in}
use Rattle.sums.specs.declared.Sums.{Sums}
use Rattle.sums.specs.declared.Row.{Row}
use Rattle.sums.specs.Season.{empty_sums, all_small, sums_refusal, is_right, add_refusal, taking, break_in, added, added_number, sums_after, add_all}
use Rattle.sums.specs.Fractions.{euclid, gcd, lowest, row_of, rows_of, table}

abbrev row : ℕ → ℕ → ℕ → ℕ → Row
row a b c d = record { successes = record { over = a; under = b }; steps = record { over = c; under = d } }

-- the number at which a listing is added; on its line stands all that adding one computes with
unfoldable number : Sums → List ℕ → ℕ
unfolding all_small sums_refusal is_right add_refusal taking break_in added tally digits_after number_in spaced_number expected
    words_in ll_tail truth_tail by_letter answer_in finished end_in refused_in last_in lines_in listing_in
number s bs = added_number (added s bs)

-- 01's case A under CR 4, a bad listing, and one with a failed SC that ended in a refusal
unfoldable season : List (List ℕ)
season =
    quoted "0 L 10 5\n0 S 6 1\n1 L 10 7\n0 V 1 0\nend 31\n"
    ∷ quoted "0 L 010 5\nend 1\n"
    ∷ quoted "0 L 14 5\n0 S 6 1\n0 S 6 0\nrefused 12 21\n"
    ∷ []

-- process 0 has 2 of 3 SCs, and 24 steps in 2 LLs, which is 12 over 1; process 1 has no SC
both : take 2 (result_unwrap_or (table (add_all (empty_sums 2 1) season)) []) ≡ row 2 3 12 1 ∷ row 0 0 10 1 ∷ []
unfolding season number empty_sums sums_after add_all euclid gcd lowest row_of rows_of table
both = refl

-- two are taken, and the sums stay at the bad one
two_taken : (add_all (empty_sums 2 1) season).taken ≡ 2
unfolding season number empty_sums sums_after add_all
two_taken = refl

-- sums of two processes, the third of which is never looked at
abbrev handed : ℕ → ℕ → ℕ → ℕ → ℕ → Sums
handed n w taken steps past =
    let first : Sum = record { successes = 0; scs = 0; steps = steps; lls = 1 } in
    let third : Sum = record { successes = past; scs = 0; steps = 0; lls = 0 } in
    record { n = n; w = w; taken = taken; each = first ∷ no_sum ∷ third ∷ replicate 13 no_sum }

-- the order 1, 2, 9, 19, 18, each before all that follow it; the last takes the listing
rows_in_order : number (handed 0 0 4096 72057594037927936 0) [] ∷ number (handed 17 0 4096 72057594037927936 0) [] ∷ number (handed 2 0 4096 72057594037927936 0) []
    ∷ number (handed 2 65 4096 72057594037927936 0) [] ∷ number (handed 2 1 4096 72057594037927936 0) [] ∷ number (handed 2 1 4096 72057594037927935 0) []
    ∷ number (handed 2 1 4095 72057594037927935 72057594037927936) [] ∷ number (handed 2 1 4095 72057594037927935 72057594037927936) (quoted "end 0\n") ∷ []
    ≡ 1 ∷ 1 ∷ 2 ∷ 2 ∷ 9 ∷ 19 ∷ 18 ∷ 0 ∷ []
unfolding number
rows_in_order = refl
