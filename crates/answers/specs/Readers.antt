-- A listing read part by part (CR 2, row 18: "answer lines and a last line in 01's shape"). Each part says what it has
-- read and the bytes after it, or the bytes from the first wrong byte on: that byte's place is a part of the reply. What is
-- read to its end is exactly a `Shaped` listing, and gains what its answers add: proofs/Theorems.
use Rattle.std.specs.Prelude.{ℕ, zero, suc, ◌+◌, ◌-◌, ◌*◌, ◌≤◌, ◌≡◌, List, [], ◌∷◌, length, get_or, drop}
use Rattle.std.specs.Prelude.{Bool, false, ◌&&◌, cond, eqb, ltb, leb, Option, Some, None, Result, Ok, Err}
use Rattle.std.specs.Borrow.{Bor}
use Rattle.std.specs.Result.{IsErrAnd}
use Rattle.listing.specs.Quoted.{quoted, byte}
use Rattle.listing.specs.Lines.{space, line_feed, letter_l, letter_s, letter_v}
use Rattle.answers.specs.declared.Sum.{Sum}
use Rattle.answers.specs.declared.Gain.{Gain}
use Rattle.answers.specs.declared.Wrong.{Wrong}
use Rattle.answers.specs.Shape.{largest}
use Rattle.answers.specs.Gains.{no_sum, ll_gain, sc_gain, tally}

-- the first byte, 0 where there is none
abbrev pub first : List ℕ → ℕ
first bs = get_or bs 0 0

abbrev pub is_digit : ℕ → Bool
is_digit c = leb 48 c && leb c 57

-- what is read and the bytes after it, or the bytes from the first wrong byte on
abbrev pub Read : Type 0 → Type 0
Read A = Result (A × List ℕ) (List ℕ)

-- bytes that must stand here: the bytes after them, or from the first that is another on
abbrev pub Passed : Type 0
Passed = Result (List ℕ) (List ℕ)

-- the end of a listing, behind which nothing stands
abbrev pub Ended : Type 0
Ended = Result (Unit {0}) (List ℕ)

-- what is read is read on by f; the first wrong byte ends it
abbrev pub read_on : {A B : Type 0} → Result A (List ℕ) → (A → Result B (List ℕ)) → Result B (List ℕ)
read_on (Ok a) f = f a
read_on (Err rest) f = Err rest

-- the digits after those that make v: "no leading zeros", "up to 4,294,967,295"
unfoldable pub digits_after : ℕ → List ℕ → Read ℕ
digits_after v [] = Ok (v, [])
digits_after v (c ∷ cs) =
    let more : ℕ = v * 10 + (c - 48) in
    cond (is_digit c)
    (cond (eqb v 0) (Err (c ∷ cs)) (cond (leb more largest) (digits_after more cs) (Err (c ∷ cs))))
    (Ok (v, c ∷ cs))

unfoldable pub number_in : List ℕ → Read ℕ
number_in bs = cond (is_digit (first bs)) (digits_after (first bs - 48) (drop 1 bs)) (Err bs)

-- the bytes of a word, each in its turn
unfoldable pub expected : List ℕ → List ℕ → Passed
expected [] bs = Ok bs
expected (k ∷ ks) [] = Err []
expected (k ∷ ks) (c ∷ cs) = cond (eqb c k) (expected ks cs) (Err (c ∷ cs))

-- a space and a number
unfoldable pub spaced_number : List ℕ → Read ℕ
spaced_number bs = read_on (expected (space ∷ []) bs) number_in

-- k numbers, each after a space
unfoldable pub words_in : ℕ → List ℕ → Passed
words_in zero bs = Ok bs
words_in (suc k) bs = read_on (spaced_number bs) (λ word. words_in k word.1)

-- the line feed that ends a line, behind what v was read from
abbrev pub fed : ℕ → List ℕ → Read ℕ
fed v bs = read_on (expected (line_feed ∷ []) bs) (λ rest. Ok (v, rest))

-- the rest of an LL's line behind its letter: the count, W words and a line feed; it is worth its count
unfoldable pub ll_tail : ℕ → List ℕ → Read ℕ
ll_tail w bs = read_on (spaced_number bs) (λ count. read_on (words_in w count.1) (fed count.0))

-- of an SC's or a VL's: the count, 1 or 0, and a line feed; it is worth its 1 or 0
unfoldable pub truth_tail : List ℕ → Read ℕ
truth_tail bs =
    read_on (spaced_number bs) (λ count.
    read_on (spaced_number count.1) (λ truth. cond (leb truth.0 1) (fed truth.0 truth.1) (Err truth.1)))

-- an answer line: its process and what it adds, by what it is worth
abbrev pub told : ℕ → (ℕ → Sum) → Read ℕ → Read Gain
told p gain g = read_on g (λ worth. Ok (record { process = p; sum = gain worth.0 }, worth.1))

-- from the letter on
unfoldable pub by_letter : ℕ → ℕ → List ℕ → Read Gain
by_letter w p bs =
    cond (eqb (first bs) letter_l) (told p ll_gain (ll_tail w (drop 1 bs)))
    (cond (eqb (first bs) letter_s) (told p sc_gain (truth_tail (drop 1 bs)))
    (cond (eqb (first bs) letter_v) (told p (λ _. no_sum) (truth_tail (drop 1 bs))) (Err bs)))

unfoldable pub answer_in : ℕ → ℕ → List ℕ → Read Gain
answer_in n w bs =
    read_on (number_in bs) (λ process.
    cond (ltb process.0 n) (read_on (expected (space ∷ []) process.1) (by_letter w process.0)) (Err process.1))

-- behind the last number of the last line its line feed, and nothing more
abbrev pub at_end : List ℕ → Ended
at_end bs = read_on (expected (line_feed ∷ []) bs) (λ rest. cond (eqb (length rest) 0) (Ok tt) (Err rest))

unfoldable pub finished : Read ℕ → Ended
finished g = read_on g (λ last. at_end last.1)

unfoldable pub end_in : List ℕ → Ended
end_in bs = read_on (expected (quoted "end ") bs) (λ rest. finished (number_in rest))

unfoldable pub refused_in : List ℕ → Ended
refused_in bs =
    read_on (expected (quoted "refused ") bs) (λ rest. read_on (number_in rest) (λ refusal. finished (spaced_number refusal.1)))

unfoldable pub last_in : List ℕ → Ended
last_in bs = cond (eqb (first bs) (byte "e")) (end_in bs) (refused_in bs)

-- a whole listing, with the sums of its answer lines; a line has at least one byte, so no more than f lines
unfoldable pub lines_in : ℕ → ℕ → ℕ → List Sum → List ℕ → Result (List Sum) (List ℕ)
lines_in n w zero l bs = Err bs
lines_in n w (suc f) l bs =
    cond (is_digit (first bs))
    (read_on (answer_in n w bs) (λ a. lines_in n w f (tally l a.0.process a.0.sum) a.1))
    (read_on (last_in bs) (λ _. Ok l))

unfoldable pub listing_in : ℕ → ℕ → List Sum → List ℕ → Result (List Sum) (List ℕ)
listing_in n w l bs = lines_in n w (suc (length bs)) l bs

-- a whole line is counted by f; where none is, the sums stay
abbrev pub with_line : Read Gain → List Sum → (Gain × List ℕ → List Sum) → List Sum
with_line (Ok a) l f = f a
with_line (Err rest) l f = l

-- CR 2: "successful SCs over SCs answered, and the total of LL steps over LLs answered": the sums with all whole answer
-- lines from the first on, at a wrong listing those before its first wrong line. Those of a right one are the sums of
-- `listing_in`: `sums_of_right`, proofs/Theorems
unfoldable pub sums_in : ℕ → ℕ → ℕ → List Sum → List ℕ → List Sum
sums_in n w zero l bs = l
sums_in n w (suc f) l bs =
    cond (is_digit (first bs))
    (with_line (answer_in n w bs) l (λ a. sums_in n w f (tally l a.0.process a.0.sum) a.1)) l

unfoldable pub sums_read : ℕ → ℕ → List Sum → List ℕ → List Sum
sums_read n w l bs = sums_in n w (suc (length bs)) l bs

-- the same of what the code returns: a value and the text behind it, or the text from the first wrong byte on
abbrev pub Text : Type 0
Text = Bor (List ℕ)

-- the digit with which a text begins, and the text behind it
abbrev pub GivesDigit : Option (ℕ × Text) → List ℕ → Type 0
GivesDigit (Some p) bs = (bs ≡ (48 + p.0) ∷ p.1.now) × (p.0 ≤ 9)
GivesDigit None bs = is_digit (first bs) ≡ false

abbrev pub GivesNumber : Result (ℕ × Text) Text → Read ℕ → Type 0
GivesNumber (Ok p) g = (g ≡ Ok (p.0, p.1.now)) × (p.0 ≤ largest)
GivesNumber (Err r) g = g ≡ Err r.now

abbrev pub GivesSpot : Result Text Text → Passed → Type 0
GivesSpot (Ok r) s = s ≡ Ok r.now
GivesSpot (Err r) s = s ≡ Err r.now

-- at the end of a listing nothing is left
abbrev pub GivesEnd : Result (Unit {0}) Text → Ended → Type 0
GivesEnd (Ok done) s = s ≡ Ok tt
GivesEnd (Err r) s = s ≡ Err r.now

abbrev pub GivesLine : Result (Gain × Text) Text → Read Gain → Type 0
GivesLine (Ok p) t = t ≡ Ok (p.0, p.1.now)
GivesLine (Err r) t = t ≡ Err r.now

-- the sums are those so far, where the listing is right or wrong
abbrev pub GivesListing : Result (Unit {0}) Text → List Sum → Result (List Sum) (List ℕ) → Type 0
GivesListing (Ok done) l a = a ≡ Ok l
GivesListing (Err r) l a = a ≡ Err r.now

-- the place of the first wrong byte in all bytes, and that the bytes from there on are the rest
abbrev pub GivesReading : List ℕ → Result (List Sum) Wrong → Result (List Sum) (List ℕ) → Type 0
GivesReading bs (Ok l) a = a ≡ Ok l
GivesReading bs (Err wrong) a = IsErrAnd a (λ rest. (rest ≡ drop wrong.at bs) × (wrong.at ≡ length bs - length rest))

-- the sums that it has, read to its end or not
abbrev pub sums_told : Result (List Sum) Wrong → List Sum
sums_told (Ok l) = l
sums_told (Err wrong) = wrong.each
