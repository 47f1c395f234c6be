-- How long the lines of a text run are.
use Prim.Native.Nat.{ℕ, suc, ◌+◌, ◌*◌, ◌≤◌, ◌<◌}
use mathlib.Core.List.{List, [], ◌∷◌, ◌++◌}
use mathlib.Core.Bool.{Bool, true, false}
use native.Mathlib.Omega.{arith}
use lib.ListN.{length, get_or, length-append}
use Rattle.listing.specs.Decimal.{decimal, tens}
use Rattle.listing.specs.Lines.{space, line_feed, letter_l, answer_head, words_of, ll_line, truth, truth_line, end_line, refused_line}
use Rattle.listing.proofs.DecimalLaws.{at_most}

-- the digits of the numbers of a text run
process_digits : (p : ℕ) → p < 16 → length (decimal p) ≤ 2
unfolding tens
process_digits p h = at_most 2 p (omega arith) (omega arith)

pub count_digits : (n : ℕ) → n ≤ 519 → length (decimal n) ≤ 3
unfolding tens
count_digits n h = at_most 3 n (omega arith) (omega arith)

pub word_digits : (w : ℕ) → w ≤ 4294967295 → length (decimal w) ≤ 10
unfolding tens
word_digits w h = at_most 10 w (omega arith) (omega arith)

pub entries_digits : (e : ℕ) → e ≤ 60000 → length (decimal e) ≤ 5
unfolding tens
entries_digits e h = at_most 5 e (omega arith) (omega arith)

-- lengths of parts put together
pub joined : (a b : List ℕ) (m n : ℕ) → length a ≤ m → length b ≤ n → length (a ++ b) ≤ m + n
joined a b m n p q = omega (arith, length-append a b)

pub head_length : (p letter count : ℕ) → p < 16 → count ≤ 519 → length (answer_head p letter count) ≤ 8
unfolding answer_head
head_length p letter count h k = joined (decimal p) (space ∷ letter ∷ space ∷ decimal count) 2 6 (process_digits p h) (omega (arith, count_digits count k))

pub words_length : (ws : List ℕ) → ((i : ℕ) → get_or ws i 0 ≤ 4294967295) → length (words_of ws) ≤ 11 * length ws
unfolding words_of
words_length [] h = omega arith
words_length (w ∷ ws) h = omega (arith, length-append (decimal w) (words_of ws), word_digits w (h 0), words_length ws (λ i. h (suc i)))

pub ll_length : (p count : ℕ) (ws : List ℕ) → p < 16 → count ≤ 519 → length ws ≤ 64 → ((i : ℕ) → get_or ws i 0 ≤ 4294967295) → length (ll_line p count ws) ≤ 713
unfolding ll_line
ll_length p count ws h k l m =
    joined (answer_head p letter_l count) (words_of ws ++ line_feed ∷ []) 8 705 (head_length p letter_l count h k)
    (joined (words_of ws) (line_feed ∷ []) 704 1 (omega (arith, words_length ws m)) (omega arith))

truth_three : (b : Bool) → length (truth b) ≤ 3
truth_three true = omega arith
truth_three false = omega arith

pub truth_length : (p letter count : ℕ) (b : Bool) → p < 16 → count ≤ 519 → length (truth_line p letter count b) ≤ 11
unfolding truth_line
truth_length p letter count b h k = joined (answer_head p letter count) (truth b) 8 3 (head_length p letter count h k) (truth_three b)

pub end_length : (e : ℕ) → e ≤ 60000 → length (end_line e) ≤ 10
unfolding end_line
end_length e h = omega (arith, joined (decimal e) (line_feed ∷ []) 5 1 (entries_digits e h) (omega arith))

pub refused_length : (c e : ℕ) → c ≤ 15 → e ≤ 60000 → length (refused_line c e) ≤ 17
unfolding refused_line
refused_length c e k h =
    let place = joined (decimal e) (line_feed ∷ []) 5 1 (entries_digits e h) (omega arith) in
    let rest = space ∷ (decimal e ++ line_feed ∷ []) in
    omega (arith, joined (decimal c) rest 2 7 (process_digits c (omega arith)) (omega (arith, place)))
