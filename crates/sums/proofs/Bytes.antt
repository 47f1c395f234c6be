-- How much a listing of 65,536 bytes can add: an answer line adds at most 2 to the 28th for each of its bytes.
use Prim.Native.Nat.{ℕ, zero, suc, ◌+◌, ◌*◌, ◌/◌, ◌%◌, ◌≤◌, ◌<◌}
use mathlib.Core.Path.{◌≡◌, refl, ap, ◌∙◌}
use mathlib.Core.List.{List, [], ◌∷◌, ◌++◌}
use mathlib.Core.Bool.{Bool, true, false}
use native.Mathlib.Omega.{arith}
use native.Mathlib.Nat.{le-div_iff_mul-le}
use borrow.Author.Tests.{ltb-true, ltb-false}
use lib.Dec.{ltb}
use lib.ListN.{length, length-append}
use Rattle.listing.specs.Decimal.{decimal, tens}
use Rattle.listing.specs.Lines.{space, line_feed, letter_l, letter_s, answer_head, words_of, ll_line, truth, truth_line, end_line, refused_line}
use Rattle.listing.proofs.DecimalLaws.{one_digit, last_digit}
use Rattle.answers.specs.declared.Sum.{Sum}
use Rattle.answers.specs.Shape.{largest, Answer, ll, sc, vl, Last, end, refused, line_of, last_of, lines_of, Fit, no_words, word, Fits, ll_fits, sc_fits, vl_fits, AllFit, no_lines, line, Right}
use Rattle.answers.specs.Gains.{bit, gain_of, process_of, tally, gained}
use Rattle.answers.specs.Ranges.{Below, AllBelow}
use Rattle.answers.proofs.SumLaws.{tally_below, weaker}

-- 2 to the 28th
abbrev share : ℕ
share = 268435456

-- a listing adds less than 2 to the 44th
abbrev pub most : ℕ
most = 17592186044415

-- a number not below 10 to the k has more than k digits
module _ (n : ℕ) where
  more : 10 ≤ n → n < 18446744073709551616 → length (decimal n) ≡ length (decimal (n / 10)) + 1
  more h k = ap length (last_digit n h k) ∙ length-append (decimal (n / 10)) ((48 + n % 10) ∷ [])

  some_pick : (t : Bool) → ltb n 10 ≡ t → n < 18446744073709551616 → 1 ≤ length (decimal n)
  some_pick true e k = omega (arith, ap length (one_digit n (ltb-true n 10 e)))
  some_pick false e k = omega (arith, more (ltb-false n 10 e) k)

  some_digits : n ≤ largest → 1 ≤ length (decimal n)
  some_digits k = some_pick (ltb n 10) refl (omega arith)

positive_tens : (k : ℕ) → 1 ≤ tens k
unfolding tens
positive_tens zero = omega arith
positive_tens (suc k) = omega (arith, positive_tens k)

at_least : (k n : ℕ) → n ≤ largest → tens k ≤ n → suc k ≤ length (decimal n)
unfolding tens
at_least zero n h p = some_digits n h
at_least (suc k) n h p =
    let q : tens k ≤ n / 10 = (le-div_iff_mul-le {k = 10} {x = tens k} {y = n} (omega arith)).1 p in
    omega (arith, more n (omega (arith, positive_tens k)) (omega arith), at_least k (n / 10) (omega arith) q)

count_pick : (c : ℕ) (t : Bool) → ltb c 2147483648 ≡ t → c ≤ largest → c ≤ share * (7 + length (decimal c))
unfolding tens
count_pick c true e h = omega (arith, ltb-true c 2147483648 e, some_digits c h)
count_pick c false e h = omega (arith, ltb-false c 2147483648 e, at_least 9 c h (omega (arith, ltb-false c 2147483648 e)))

count_bytes : (c : ℕ) → c ≤ largest → c ≤ share * (7 + length (decimal c))
count_bytes c h = count_pick c (ltb c 2147483648) refl h

-- the bytes of lines
head_bytes : (p k c : ℕ) → length (answer_head p k c) ≡ length (decimal p) + (3 + length (decimal c))
unfolding answer_head
head_bytes p k c = length-append (decimal p) (space ∷ k ∷ space ∷ decimal c) ∙ omega arith

ll_bytes : (p c : ℕ) (ws : List ℕ) → p ≤ largest → 0 < length ws → Fit ws → 7 + length (decimal c) ≤ length (ll_line p c ws)
unfolding ll_line words_of
ll_bytes p c [] h k no_words = absurd (omega arith)
ll_bytes p c (x ∷ ws) h k (word i f) =
    let rest : List ℕ = space ∷ ((decimal x ++ words_of ws) ++ line_feed ∷ []) in
    omega (
      arith,
      length-append (answer_head p letter_l c) rest,
      length-append (decimal x ++ words_of ws) (line_feed ∷ []),
      length-append (decimal x) (words_of ws),
      head_bytes p letter_l c,
      some_digits p h,
      some_digits x i,
    )

truth_bytes : (p k c : ℕ) (t : Bool) → 1 ≤ length (truth_line p k c t)
unfolding truth_line
truth_bytes p k c t = omega (arith, length-append (answer_head p k c) (truth t), head_bytes p k c)

last_bytes : (z : Last) → 1 ≤ length (last_of z)
unfolding last_of end_line refused_line
last_bytes (end e) = omega arith
last_bytes (refused c e) = omega arith

bit_small : (t : Bool) → bit t ≤ 1
bit_small true = omega arith
bit_small false = omega arith

module _ (n w : ℕ) (few : n ≤ 16) (some : 0 < w) where
  line_adds : (a : Answer) → Fits n w a → Below (share * length (line_of a)) (gain_of a)
  unfolding line_of
  line_adds (ll p c ws) (ll_fits h i e k) =
      let b : 7 + length (decimal c) ≤ length (ll_line p c ws) = ll_bytes p c ws (omega arith) (omega arith) k in
      record { successes = omega arith; scs = omega arith; steps = omega (arith, count_bytes c i); lls = omega arith }
  line_adds (sc p c t) (sc_fits h i) =
      let b = truth_bytes p letter_s c t in
      record { successes = omega (arith, bit_small t, b); scs = omega (arith, b); steps = omega arith; lls = omega arith }
  line_adds (vl p c t) (vl_fits h i) = record { successes = omega arith; scs = omega arith; steps = omega arith; lls = omega arith }

  lines_add : (b : ℕ) (l : List Sum) (rest : List Answer) → AllFit n w rest → AllBelow n b l → AllBelow n (b + share * length (lines_of rest)) (gained l rest)
  unfolding lines_of gained
  lines_add b l [] no_lines h = weaker n b (b + share * 0) l (omega arith) h
  lines_add b l (a ∷ rest) (line f g) h =
      let next : List Sum = tally l (process_of a) (gain_of a) in
      let own : ℕ = share * length (line_of a) in
      weaker n (b + own + share * length (lines_of rest)) (b + share * length (line_of a ++ lines_of rest)) (gained next rest)
      (omega (arith, length-append (line_of a) (lines_of rest)))
      (lines_add (b + own) next rest g (tally_below n b own l (process_of a) (gain_of a) (line_adds a f) h))

  pub listing_adds : (b : ℕ) (l : List Sum) {bs : List ℕ} (r : Right n w bs) → AllBelow n b l → AllBelow n (b + most) (gained l r.shaped.answers)
  listing_adds b l r h =
      let s = r.shaped in
      weaker n (b + share * length (lines_of s.answers)) (b + most) (gained l s.answers)
      (omega (arith, r.short, ap length s.bytes, length-append (lines_of s.answers) (last_of s.last), last_bytes s.last))
      (lines_add b l s.answers s.fit h)
