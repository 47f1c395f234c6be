-- The readers take every listing of the shape, and gain what its answers add.
use Prim.Native.Nat.{ℕ, zero, suc, ◌+◌, ◌*◌, ◌/◌, ◌%◌, ◌≤◌, ◌<◌}
use mathlib.Core.Path.{◌≡◌, refl, sym, ap, ◌∙◌}
use mathlib.Core.List.{List, [], ◌∷◌, ◌++◌, append_assoc}
use mathlib.Core.Bool.{Bool, true, false}
use native.Mathlib.Omega.{arith}
use native.Mathlib.Nat.{mod-lt, div-add-mod', div-lt_iff_lt-mul}
use borrow.Author.Tests.{ltb-true, ltb-false, lt-ltb, le-leb}
use lib.Dec.{ltb}
use lib.ListN.{length}
use Rattle.listing.specs.Quoted.{quoted}
use Rattle.listing.specs.Decimal.{decimal, tens}
use Rattle.listing.specs.Lines.{space, line_feed, letter_l, letter_s, letter_v, answer_head, words_of, ll_line, truth, truth_line, end_line, refused_line}
use Rattle.listing.proofs.DecimalLaws.{one_digit, last_digit}
use Rattle.std.specs.Prelude.{Ok}
use Rattle.std.specs.Result.{is_ok}
use Rattle.answers.specs.declared.Sum.{Sum}
use Rattle.answers.specs.declared.Gain.{Gain}
use Rattle.answers.specs.Shape.{largest, Answer, ll, sc, vl, Last, end, refused, line_of, last_of, lines_of, Fit}
use Rattle.answers.specs.Shape.{no_words, word, Fits, ll_fits, sc_fits, vl_fits, AllFit, no_lines, line, LastFits, end_fits, refused_fits}
use Rattle.answers.specs.Gains.{bit, gain_of, process_of, tally, gained}
use Rattle.answers.specs.Readers.{first, is_digit, Read, digits_after, number_in, spaced_number, Passed, expected, words_in}
use Rattle.answers.specs.Readers.{fed, ll_tail, truth_tail, by_letter, answer_in, finished, end_in, refused_in, last_in, lines_in}
use Rattle.answers.proofs.NumberLaws.{digits_end, the_digit, digit_on}

tenth : (n m : ℕ) → n < m * 10 → n / 10 < m
tenth n m h = (div-lt_iff_lt-mul {k = 10} {x = n} {y = m} (omega arith)).1 h

-- the digits of v bring the reader of numbers to where v is read
one : (v : ℕ) (cs : List ℕ) → v < 10 → number_in (decimal v ++ cs) ≡ digits_after v cs
unfolding number_in
one v cs h =
    ap (λ (x : List ℕ). number_in (x ++ cs)) (one_digit v h) ∙ simp (the_digit v (omega arith))
    (ap (λ (x : ℕ). digits_after x cs) (omega arith))

many : (v : ℕ) (cs : List ℕ) → 10 ≤ v → v ≤ largest
    → ((xs : List ℕ) → number_in (decimal (v / 10) ++ xs) ≡ digits_after (v / 10) xs) → number_in (decimal v ++ cs) ≡ digits_after v cs
many v cs h k r =
    let d : ℕ = v % 10 in
    let small : d < 10 = mod-lt v {m = 10} (omega arith) in
    let back : v / 10 * 10 + d ≡ v = omega (arith, div-add-mod' v 10) in
    ap (λ (x : List ℕ). number_in (x ++ cs)) (last_digit v h (omega arith))
    ∙ ap number_in (append_assoc (decimal (v / 10)) ((48 + d) ∷ []) cs)
    ∙ r ((48 + d) ∷ cs)
    ∙ digit_on (v / 10) d cs (omega arith) (λ z. omega arith) (omega (arith, back))
    ∙ ap (λ (x : ℕ). digits_after x cs) back

pick : (v : ℕ) (cs : List ℕ) (t : Bool) → ltb v 10 ≡ t → v ≤ largest
    → ((xs : List ℕ) → 10 ≤ v → number_in (decimal (v / 10) ++ xs) ≡ digits_after (v / 10) xs) → number_in (decimal v ++ cs) ≡ digits_after v cs
pick v cs true e k r = one v cs (ltb-true v 10 e)
pick v cs false e k r = many v cs (ltb-false v 10 e) k (λ xs. r xs (ltb-false v 10 e))

digits_read : (k v : ℕ) (cs : List ℕ) → v < tens (suc k) → v ≤ largest → number_in (decimal v ++ cs) ≡ digits_after v cs
unfolding tens
digits_read zero v cs h q = one v cs h
digits_read (suc k) v cs h q = pick v cs (ltb v 10) refl q (λ xs r. digits_read k (v / 10) xs (tenth v (tens (suc k)) h) (omega arith))

-- and a byte that is no digit ends it
abbrev got : ℕ → List ℕ → Read ℕ
got v rest = Ok (v, rest)

pub number_read : (v : ℕ) (cs : List ℕ) → v ≤ largest → is_digit (first cs) ≡ false → number_in (decimal v ++ cs) ≡ got v cs
unfolding tens
number_read v cs q e = digits_read 9 v cs (omega arith) q ∙ digits_end v cs e

pub spaced_read : (v : ℕ) (cs : List ℕ) → v ≤ largest → is_digit (first cs) ≡ false → spaced_number (space ∷ (decimal v ++ cs)) ≡ got v cs
unfolding spaced_number expected
spaced_read v cs q e = number_read v cs q e

abbrev passed : List ℕ → Passed
passed rest = Ok rest

-- behind a word stands a space or a line feed
no_digit : (ws cs : List ℕ) → is_digit (first (words_of ws ++ line_feed ∷ cs)) ≡ false
unfolding words_of
no_digit [] cs = refl
no_digit (x ∷ ws) cs = refl

words_read : (ws cs : List ℕ) → Fit ws → words_in (length ws) (words_of ws ++ line_feed ∷ cs) ≡ passed (line_feed ∷ cs)
unfolding words_in words_of
words_read [] cs no_words = refl
words_read (x ∷ ws) cs (word h k) =
    let e = ap spaced_number (ap (λ (y : List ℕ). space ∷ y) (append_assoc (decimal x) (words_of ws) (line_feed ∷ cs)))
    ∙ spaced_read x (words_of ws ++ line_feed ∷ cs) h (no_digit ws cs) in
    simp (e) (words_read ws cs k)

feed_read : (v : ℕ) (cs : List ℕ) → fed v (line_feed ∷ cs) ≡ got v cs
unfolding expected
feed_read v cs = refl

ll_read : (w c : ℕ) (ws cs : List ℕ) → length ws ≡ w → Fit ws → c ≤ largest
    → ll_tail w (space ∷ (decimal c ++ (words_of ws ++ line_feed ∷ cs))) ≡ got c cs
unfolding ll_tail
ll_read w c ws cs e f h =
    simp (spaced_read c (words_of ws ++ line_feed ∷ cs) h (no_digit ws cs), sym e, words_read ws cs f)
    (feed_read c cs)

bit_read : (t : Bool) (cs : List ℕ) → spaced_number (truth t ++ cs) ≡ got (bit t) (line_feed ∷ cs)
unfolding spaced_number expected number_in digits_after
bit_read true cs = refl
bit_read false cs = refl

bit_small : (t : Bool) → bit t ≤ 1
bit_small true = omega arith
bit_small false = omega arith

truth_stop : (t : Bool) (cs : List ℕ) → is_digit (first (truth t ++ cs)) ≡ false
truth_stop true cs = refl
truth_stop false cs = refl

truth_read : (c : ℕ) (t : Bool) (cs : List ℕ) → c ≤ largest → truth_tail (space ∷ (decimal c ++ (truth t ++ cs))) ≡ got (bit t) cs
unfolding truth_tail
truth_read c t cs h =
    simp (spaced_read c (truth t ++ cs) h (truth_stop t cs), bit_read t cs, le-leb (bit t) 1 (bit_small t))
    (feed_read (bit t) cs)

-- the head of a line, up to its letter
gap_read : (cs : List ℕ) → expected (space ∷ []) (space ∷ cs) ≡ passed cs
unfolding expected
gap_read cs = refl

head_read : (n w p : ℕ) (cs : List ℕ) → n ≤ 16 → p < n → answer_in n w (decimal p ++ space ∷ cs) ≡ by_letter w p cs
unfolding answer_in
head_read n w p cs few h = simp (number_read p (space ∷ cs) (omega arith) refl, lt-ltb p n h, gap_read cs)

parts : (p k c : ℕ) (cs : List ℕ) → answer_head p k c ++ cs ≡ decimal p ++ space ∷ k ∷ space ∷ (decimal c ++ cs)
unfolding answer_head
parts p k c cs = append_assoc (decimal p) (space ∷ k ∷ space ∷ decimal c) cs

abbrev tells_of : Answer → List ℕ → Read Gain
tells_of a rest = Ok (record { process = process_of a; sum = gain_of a }, rest)

line_read : (n w : ℕ) → n ≤ 16 → (a : Answer) (cs : List ℕ) → Fits n w a → answer_in n w (line_of a ++ cs) ≡ tells_of a cs
unfolding line_of ll_line truth_line by_letter
line_read n w few (ll p c ws) cs (ll_fits h i e f) =
    let words : List ℕ = words_of ws ++ line_feed ∷ cs in
    ap (answer_in n w) (append_assoc (answer_head p letter_l c) (words_of ws ++ line_feed ∷ []) cs
    ∙ ap (λ (x : List ℕ). answer_head p letter_l c ++ x) (append_assoc (words_of ws) (line_feed ∷ []) cs) ∙ parts p letter_l c words)
    ∙ head_read n w p (letter_l ∷ space ∷ (decimal c ++ words)) few h
    ∙ simp (ll_read w c ws cs e f i)
line_read n w few (sc p c t) cs (sc_fits h i) =
    ap (answer_in n w) (append_assoc (answer_head p letter_s c) (truth t) cs ∙ parts p letter_s c (truth t ++ cs))
    ∙ head_read n w p (letter_s ∷ space ∷ (decimal c ++ (truth t ++ cs))) few h
    ∙ simp (truth_read c t cs i)
line_read n w few (vl p c t) cs (vl_fits h i) =
    ap (answer_in n w) (append_assoc (answer_head p letter_v c) (truth t) cs ∙ parts p letter_v c (truth t ++ cs))
    ∙ head_read n w p (letter_v ∷ space ∷ (decimal c ++ (truth t ++ cs))) few h
    ∙ simp (truth_read c t cs i)

-- the last line
finish_read : (v : ℕ) → finished (got v (line_feed ∷ [])) ≡ Ok tt
unfolding finished expected
finish_read v = refl

end_word : (cs : List ℕ) → expected (quoted "end ") (quoted "end " ++ cs) ≡ passed cs
unfolding expected
end_word cs = refl

refused_word : (cs : List ℕ) → expected (quoted "refused ") (quoted "refused " ++ cs) ≡ passed cs
unfolding expected
refused_word cs = refl

pub last_read : (z : Last) → LastFits z → last_in (last_of z) ≡ Ok tt
unfolding last_in last_of end_in refused_in end_line refused_line
last_read (end e) (end_fits h) = simp (end_word (decimal e ++ line_feed ∷ []), number_read e (line_feed ∷ []) h refl) (finish_read e)
last_read (refused c e) (refused_fits i h) =
    simp (
      refused_word (decimal c ++ (space ∷ (decimal e ++ line_feed ∷ []))),
      number_read c (space ∷ (decimal e ++ line_feed ∷ [])) i refl,
      spaced_read e (line_feed ∷ []) h refl,
    )
    (finish_read e)

-- an answer line begins with a digit, the last line does not
no_answer : (n w : ℕ) (bs : List ℕ) → is_digit (first bs) ≡ false → is_ok (answer_in n w bs) ≡ false
unfolding answer_in number_in
no_answer n w bs e = simp (e)

answer_digit : (n w : ℕ) (bs : List ℕ) → is_ok (answer_in n w bs) ≡ true → is_digit (first bs) ≡ true
answer_digit n w bs r = pick_digit (is_digit (first bs)) refl
  where
    pick_digit : (t : Bool) → is_digit (first bs) ≡ t → t ≡ true
    pick_digit true e = refl
    pick_digit false e = sym (no_answer n w bs e) ∙ r

last_digitless : (z : Last) → is_digit (first (last_of z)) ≡ false
unfolding last_of end_line refused_line
last_digitless (end e) = refl
last_digitless (refused c e) = refl

module _ (n w : ℕ) (few : n ≤ 16) (z : Last) (fits : LastFits z) where
  pub lines_read : (f : ℕ) (l : List Sum) (more : List Answer) → AllFit n w more → length more < f
      → lines_in n w f l (lines_of more ++ last_of z) ≡ Ok (gained l more)
  unfolding lines_in lines_of gained
  lines_read zero l more h k = absurd (omega arith)
  lines_read (suc f) l [] no_lines k = simp (last_digitless z, last_read z fits)
  lines_read (suc f) l (a ∷ more) (line h i) k =
      let bs : List ℕ = lines_of more ++ last_of z in
      let e = line_read n w few a bs h in
      let d = answer_digit n w (line_of a ++ bs) (ap is_ok e) in
      simp (append_assoc (line_of a) (lines_of more) (last_of z), d, e) (lines_read f (tally l (process_of a) (gain_of a)) more i (omega arith))
