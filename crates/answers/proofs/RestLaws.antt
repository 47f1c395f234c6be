-- What a reader leaves is the end of what it was given.
use mathlib.Core.Path.{refl, sym, ap, ◌∙◌}
use mathlib.Core.List.{◌++◌, append_assoc, append-nil}
use lib.ListN.{length-append, drop}
use Rattle.std.proofs.Common.{ℕ, zero, suc, ◌-◌, ◌*◌, ◌+◌, ◌≤◌, ◌≡◌, List, [], ◌∷◌, arith, leb, ltb, eqb, length}
use Rattle.std.proofs.Transfers.{drop-appended}
use Rattle.std.specs.Prelude.{Result, Ok, Err}
use Rattle.std.specs.Result.{MatchResult}
use Rattle.std.proofs.lemmas.Result.{MatchResult-at_err}
use Rattle.listing.specs.Quoted.{quoted, byte}
use Rattle.listing.specs.Lines.{space, line_feed, letter_l, letter_s, letter_v}
use Rattle.answers.specs.declared.Sum.{Sum}
use Rattle.answers.specs.declared.Gain.{Gain}
use Rattle.answers.specs.Shape.{largest}
use Rattle.answers.specs.Gains.{no_sum, ll_gain, sc_gain, tally}
use Rattle.answers.specs.Readers.{first, is_digit, Read, read_on, digits_after, number_in, spaced_number, expected, words_in, fed, ll_tail}
use Rattle.answers.specs.Readers.{truth_tail, told, by_letter, answer_in, at_end, finished, end_in, refused_in, last_in, lines_in, listing_in}
use Rattle.answers.proofs.ChoiceLaws.{either}

-- the rest ends the bytes
abbrev Ends : List ℕ → List ℕ → Type 0
Ends bs rest = (front : List ℕ) × (bs ≡ front ++ rest)

whole : (bs : List ℕ) → Ends bs bs
whole bs = ([], refl)

nothing : (bs : List ℕ) → Ends bs []
nothing bs = (bs, sym (append-nil bs))

behind_one : (c : ℕ) (cs : List ℕ) → Ends (c ∷ cs) cs
behind_one c cs = (c ∷ [], refl)

-- what is left ends the bytes, behind what is read and from the first wrong byte on
abbrev Leaves : {A : Type 0} → (A → List ℕ) → List ℕ → Result A (List ℕ) → Type 0
Leaves left bs r = MatchResult r (λ a. Ends bs (left a)) (λ rest. Ends bs rest)

abbrev behind : {A : Type 0} → A × List ℕ → List ℕ
behind p = p.1

abbrev own : List ℕ → List ℕ
own rest = rest

abbrev none : {A : Type 0} → A → List ℕ
none _ = []

further : (bs cs rest : List ℕ) → Ends bs cs → Ends cs rest → Ends bs rest
further bs cs rest h k = (h.0 ++ k.0, h.1 ∙ ap (h.0 ++◌) k.1 ∙ sym (append_assoc h.0 k.0 rest))

weaker : {A : Type 0} (left : A → List ℕ) (bs cs : List ℕ) (r : Result A (List ℕ)) → Ends bs cs → Leaves left cs r → Leaves left bs r
weaker left bs cs (Ok a) h k = further bs cs (left a) h k
weaker left bs cs (Err rest) h k = further bs cs rest h k

on : {A B : Type 0} (p : A → List ℕ) (q : B → List ℕ) (bs : List ℕ) (r : Result A (List ℕ)) (f : A → Result B (List ℕ))
    → Leaves p bs r → ((a : A) → Leaves q (p a) (f a)) → Leaves q bs (read_on r f)
on p q bs (Ok a) f h k = weaker q bs (p a) (f a) h (k a)
on p q bs (Err rest) f h k = h

digits_left : (v : ℕ) (bs : List ℕ) → Leaves behind bs (digits_after v bs)
unfolding digits_after
digits_left v [] = whole []
digits_left v (c ∷ cs) =
    let P : Read ℕ → Type 0 = Leaves behind (c ∷ cs) in
    let more : ℕ = v * 10 + (c - 48) in
    either P (is_digit c) _ _
    (λ _. either P (eqb v 0) _ _ (λ _. whole (c ∷ cs))
    (λ _. either P (leb more largest) _ _
    (λ _. weaker behind (c ∷ cs) cs (digits_after more cs) (behind_one c cs) (digits_left more cs)) (λ _. whole (c ∷ cs))))
    (λ _. whole (c ∷ cs))

number_left : (bs : List ℕ) → Leaves behind bs (number_in bs)
unfolding number_in
number_left [] = whole []
number_left (c ∷ cs) =
    either (Leaves behind (c ∷ cs)) (is_digit c) _ _
    (λ _. weaker behind (c ∷ cs) cs (digits_after (c - 48) cs) (behind_one c cs) (digits_left (c - 48) cs)) (λ _. whole (c ∷ cs))

expected_left : (ks bs : List ℕ) → Leaves own bs (expected ks bs)
unfolding expected
expected_left [] bs = whole bs
expected_left (k ∷ ks) [] = whole []
expected_left (k ∷ ks) (c ∷ cs) =
    either (Leaves own (c ∷ cs)) (eqb c k) _ _
    (λ _. weaker own (c ∷ cs) cs (expected ks cs) (behind_one c cs) (expected_left ks cs)) (λ _. whole (c ∷ cs))

spaced_left : (bs : List ℕ) → Leaves behind bs (spaced_number bs)
unfolding spaced_number
spaced_left bs = on own behind bs (expected (space ∷ []) bs) _ (expected_left (space ∷ []) bs) number_left

words_left : (k : ℕ) (bs : List ℕ) → Leaves own bs (words_in k bs)
unfolding words_in
words_left zero bs = whole bs
words_left (suc k) bs = on behind own bs (spaced_number bs) _ (spaced_left bs) (λ word. words_left k word.1)

fed_left : (v : ℕ) (bs : List ℕ) → Leaves behind bs (fed v bs)
fed_left v bs = on own behind bs (expected (line_feed ∷ []) bs) _ (expected_left (line_feed ∷ []) bs) (λ rest. whole rest)

ll_left : (w : ℕ) (bs : List ℕ) → Leaves behind bs (ll_tail w bs)
unfolding ll_tail
ll_left w bs =
    on behind behind bs (spaced_number bs) _ (spaced_left bs)
    (λ count. on own behind count.1 (words_in w count.1) _ (words_left w count.1) (fed_left count.0))

truth_left : (bs : List ℕ) → Leaves behind bs (truth_tail bs)
unfolding truth_tail
truth_left bs =
    on behind behind bs (spaced_number bs) _ (spaced_left bs)
    (λ count. on behind behind count.1 (spaced_number count.1) _ (spaced_left count.1)
    (λ truth. either (Leaves behind truth.1) (leb truth.0 1) _ _ (λ _. fed_left truth.0 truth.1) (λ _. whole truth.1)))

told_left : (bs : List ℕ) (p : ℕ) (gain : ℕ → Sum) (g : Read ℕ) → Leaves behind bs g → Leaves behind bs (told p gain g)
told_left bs p gain g h = on behind behind bs g _ h (λ worth. whole worth.1)

letter_left : (w p : ℕ) (bs : List ℕ) → Leaves behind bs (by_letter w p bs)
unfolding by_letter
letter_left w p [] = whole []
letter_left w p (c ∷ cs) =
    let P : Read Gain → Type 0 = Leaves behind (c ∷ cs) in
    let ll = weaker behind (c ∷ cs) cs (ll_tail w cs) (behind_one c cs) (ll_left w cs) in
    let truth = weaker behind (c ∷ cs) cs (truth_tail cs) (behind_one c cs) (truth_left cs) in
    either P (eqb c letter_l) _ _ (λ _. told_left (c ∷ cs) p ll_gain (ll_tail w cs) ll)
    (λ _. either P (eqb c letter_s) _ _ (λ _. told_left (c ∷ cs) p sc_gain (truth_tail cs) truth)
    (λ _. either P (eqb c letter_v) _ _ (λ _. told_left (c ∷ cs) p (λ _. no_sum) (truth_tail cs) truth) (λ _. whole (c ∷ cs))))

answer_left : (n w : ℕ) (bs : List ℕ) → Leaves behind bs (answer_in n w bs)
unfolding answer_in
answer_left n w bs =
    on behind behind bs (number_in bs) _ (number_left bs)
    (λ process. either (Leaves behind process.1) (ltb process.0 n) _ _
    (λ _. on own behind process.1 (expected (space ∷ []) process.1) _ (expected_left (space ∷ []) process.1) (letter_left w process.0))
    (λ _. whole process.1))

end_at : (bs : List ℕ) → Leaves none bs (at_end bs)
end_at bs =
    on own none bs (expected (line_feed ∷ []) bs) _ (expected_left (line_feed ∷ []) bs)
    (λ rest. either (Leaves none rest) (eqb (length rest) 0) _ _ (λ _. nothing rest) (λ _. whole rest))

finished_left : (bs : List ℕ) (g : Read ℕ) → Leaves behind bs g → Leaves none bs (finished g)
unfolding finished
finished_left bs g h = on behind none bs g _ h (λ last. end_at last.1)

last_left : (bs : List ℕ) → Leaves none bs (last_in bs)
unfolding last_in end_in refused_in
last_left bs =
    either (Leaves none bs) (eqb (first bs) (byte "e")) _ _
    (λ _. on own none bs (expected (quoted "end ") bs) _ (expected_left (quoted "end ") bs)
    (λ rest. finished_left rest (number_in rest) (number_left rest)))
    (λ _. on own none bs (expected (quoted "refused ") bs) _ (expected_left (quoted "refused ") bs)
    (λ rest. on behind none rest (number_in rest) _ (number_left rest)
    (λ refusal. finished_left refusal.1 (spaced_number refusal.1) (spaced_left refusal.1))))

lines_left : (n w f : ℕ) (l : List Sum) (bs : List ℕ) → Leaves none bs (lines_in n w f l bs)
unfolding lines_in
lines_left n w zero l bs = whole bs
lines_left n w (suc f) l bs =
    either (Leaves none bs) (is_digit (first bs)) _ _
    (λ _. on behind none bs (answer_in n w bs) _ (answer_left n w bs)
    (λ a. lines_left n w f (tally l a.0.process a.0.sum) a.1))
    (λ _. on none none bs (last_in bs) _ (last_left bs) (λ _. whole []))

module _ (n w : ℕ) (l : List Sum) (bs : List ℕ) {rest : List ℕ} (e : listing_in n w l bs ≡ Err rest) where
  ends : Ends bs rest
  unfolding listing_in
  ends = MatchResult-at_err _ _ rest e (lines_left n w (suc (length bs)) l bs)

  pub listing_left : length rest ≤ length bs
  listing_left = omega (arith, ap length ends.1, length-append ends.0 rest)

  -- from the place of the first wrong byte on
  pub listing_ends : rest ≡ drop (length bs - length rest) bs
  listing_ends =
      let front : length bs - length rest ≡ length ends.0 = omega (arith, ap length ends.1, length-append ends.0 rest) in
      sym (ap (λ k. drop k bs) front ∙ drop-appended ends.0 bs rest ends.1)
