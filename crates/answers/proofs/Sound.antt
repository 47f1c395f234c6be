-- What the readers take is what the shape has: each part that is there is the bytes of its numbers, and then the rest.
use Prim.Native.Nat.{ℕ, zero, suc, ◌+◌, ◌-◌, ◌*◌, ◌%◌, ◌≤◌, ◌<◌}
use mathlib.Core.Path.{◌≡◌, refl, sym, ap, subst, ◌∙◌}
use mathlib.Core.List.{List, [], ◌∷◌, ◌++◌, append_assoc}
use mathlib.Core.Bool.{Bool, true, false}
use native.Mathlib.Omega.{arith}
use borrow.Author.Tests.{leb-true, ltb-true, eqb-true, eqb-false}
use lib.Dec.{ltb, leb, eqb}
use lib.ListN.{length}
use Rattle.std.specs.Prelude.{Result, IfOk}
use Rattle.std.proofs.lemmas.Result.{IfOk-weaker}
use Rattle.listing.specs.Quoted.{quoted, byte}
use Rattle.listing.specs.Decimal.{digits, decimal}
use Rattle.listing.specs.Lines.{space, line_feed, letter_l, letter_s, letter_v, answer_head, words_of, ll_line, truth, truth_line, end_line, refused_line}
use Rattle.listing.proofs.DecimalLaws.{one_digit, last_digit}
use Rattle.answers.specs.declared.Sum.{Sum}
use Rattle.answers.specs.declared.Gain.{Gain}
use Rattle.answers.specs.Shape.{largest, Answer, ll, sc, vl, Last, end, refused, line_of, last_of, lines_of, Fit}
use Rattle.answers.specs.Shape.{no_words, word, Fits, ll_fits, sc_fits, vl_fits, no_lines, line, LastFits, end_fits, refused_fits, Shaped}
use Rattle.answers.specs.Gains.{no_sum, ll_gain, sc_gain, bit, gain_of, process_of, tally}
use Rattle.answers.specs.Readers.{first, is_digit, Read, digits_after, number_in, spaced_number, Passed, Ended, expected, words_in, fed}
use Rattle.answers.specs.Readers.{ll_tail, truth_tail, told, by_letter, answer_in, at_end, finished, end_in, refused_in, last_in, lines_in}
use Rattle.answers.proofs.ChoiceLaws.{either, when_read}
use Rattle.answers.proofs.NumberLaws.{digit_range}

-- decimal numbers grow by a digit
snoc_digit : (v d : ℕ) → 0 < v → d < 10 → v * 10 + d ≤ largest → decimal (v * 10 + d) ≡ decimal v ++ (48 + d) ∷ []
snoc_digit v d p q r =
    last_digit (v * 10 + d) (omega arith) (omega arith)
    ∙ ap (λ (x : ℕ). decimal x ++ (48 + (v * 10 + d) % 10) ∷ []) (omega arith)
    ∙ ap (λ (x : ℕ). decimal v ++ (48 + x) ∷ []) (omega arith)

positive : (v : ℕ) → eqb v 0 ≡ false → 0 < v
positive zero e = absurd (eqb-false 0 0 e refl)
positive (suc v) e = omega arith

-- a number that will do, and the bytes behind it
abbrev Number : List ℕ → ℕ × List ℕ → Type 0
Number bs p = (bs ≡ decimal p.0 ++ p.1) × (p.0 ≤ largest)

digits_sound : (v : ℕ) (cs : List ℕ) → v ≤ largest → IfOk (digits_after v cs) (Number (decimal v ++ cs))
unfolding digits_after
digits_sound v [] q = (refl, q)
digits_sound v (c ∷ cs) q =
    let P : Read ℕ → Type 0 = λ g. IfOk g (Number (decimal v ++ c ∷ cs)) in
    let more : ℕ = v * 10 + (c - 48) in
    either P (is_digit c) _ _
    (λ d. either P (eqb v 0) _ _ (λ _. tt)
    (λ z. either P (leb more largest) _ _
    (λ m. subst (λ (x : List ℕ). IfOk (digits_after more cs) (Number x)) (grown d z (leb-true more largest m))
    (digits_sound more cs (leb-true more largest m)))
    (λ _. tt)))
    (λ _. (refl, q))
  where
    grown : is_digit c ≡ true → eqb v 0 ≡ false → v * 10 + (c - 48) ≤ largest → decimal (v * 10 + (c - 48)) ++ cs ≡ decimal v ++ c ∷ cs
    grown d z m =
        let r = digit_range c d in
        let s = snoc_digit v (c - 48) (positive v z) (omega (arith, r.1)) m in
        ap (λ (x : List ℕ). x ++ cs) (s ∙ ap (λ (x : ℕ). decimal v ++ x ∷ []) (omega (arith, r.0))) ∙ append_assoc (decimal v) (c ∷ []) cs

number_sound : (bs : List ℕ) → IfOk (number_in bs) (Number bs)
unfolding number_in
number_sound [] = tt
number_sound (c ∷ cs) =
    either (λ (g : Read ℕ). IfOk g (Number (c ∷ cs))) (is_digit c) _ _
    (λ d.
    let r = digit_range c d in
    let o = one_digit (c - 48) (omega (arith, r.1)) ∙ ap (λ (x : ℕ). x ∷ []) (omega (arith, r.0)) in
    subst (λ (x : List ℕ). IfOk (digits_after (c - 48) cs) (Number (x ++ cs))) o (digits_sound (c - 48) cs (omega (arith, r.1))))
    (λ _. tt)

abbrev Behind : List ℕ → List ℕ → List ℕ → Type 0
Behind ks bs rest = bs ≡ ks ++ rest

expected_sound : (ks bs : List ℕ) → IfOk (expected ks bs) (Behind ks bs)
unfolding expected
expected_sound [] bs = refl
expected_sound (k ∷ ks) [] = tt
expected_sound (k ∷ ks) (c ∷ cs) =
    either (λ (s : Passed). IfOk s (Behind (k ∷ ks) (c ∷ cs))) (eqb c k) _ _
    (λ e. IfOk-weaker (expected ks cs) (Behind ks cs) (Behind (k ∷ ks) (c ∷ cs))
    (λ rest h. ap (λ (x : ℕ). x ∷ cs) (eqb-true c k e) ∙ ap (λ (x : List ℕ). k ∷ x) h) (expected_sound ks cs))
    (λ _. tt)

abbrev Spaced : List ℕ → ℕ × List ℕ → Type 0
Spaced bs p = (bs ≡ space ∷ (decimal p.0 ++ p.1)) × (p.0 ≤ largest)

spaced_sound : (bs : List ℕ) → IfOk (spaced_number bs) (Spaced bs)
unfolding spaced_number
spaced_sound bs =
    when_read (Behind (space ∷ []) bs) (Spaced bs) (expected (space ∷ []) bs) number_in (expected_sound (space ∷ []) bs)
    (λ s e. IfOk-weaker (number_in s) (Number s) (Spaced bs) (λ p h. (e ∙ ap (λ (x : List ℕ). space ∷ x) h.0, h.1)) (number_sound s))

-- k words and the bytes behind them
record Words (k : ℕ) (bs rest : List ℕ) : Type 0 where
  ws : List ℕ
  count : length ws ≡ k
  fit : Fit ws
  bytes : bs ≡ words_of ws ++ rest

words_sound : (k : ℕ) (bs : List ℕ) → IfOk (words_in k bs) (Words k bs)
unfolding words_in words_of
words_sound zero bs = record { ws = []; count = refl; fit = no_words; bytes = refl }
words_sound (suc k) bs =
    when_read (Spaced bs) (Words (suc k) bs) (spaced_number bs) _ (spaced_sound bs)
    (λ p h. IfOk-weaker (words_in k p.1) (Words k p.1) (Words (suc k) bs)
    (λ rest m. record {
      ws = p.0 ∷ m.ws;
      count = ap suc m.count;
      fit = word h.1 m.fit;
      bytes = h.0 ∙ ap (λ (x : List ℕ). space ∷ (decimal p.0 ++ x)) m.bytes
          ∙ ap (λ (x : List ℕ). space ∷ x) (sym (append_assoc (decimal p.0) (words_of m.ws) rest));
    })
    (words_sound k p.1))

abbrev Fed : ℕ → List ℕ → ℕ × List ℕ → Type 0
Fed v bs p = (p.0 ≡ v) × (bs ≡ line_feed ∷ p.1)

fed_sound : (v : ℕ) (bs : List ℕ) → IfOk (fed v bs) (Fed v bs)
fed_sound v bs =
    when_read (Behind (line_feed ∷ []) bs) (Fed v bs) (expected (line_feed ∷ []) bs) _ (expected_sound (line_feed ∷ []) bs) (λ rest h. (refl, h))

-- the rest of an LL's line
record LlRest (w : ℕ) (bs : List ℕ) (g : ℕ × List ℕ) : Type 0 where
  ws : List ℕ
  count : length ws ≡ w
  fit : Fit ws
  small : g.0 ≤ largest
  bytes : bs ≡ space ∷ (decimal g.0 ++ (words_of ws ++ line_feed ∷ g.1))

ll_sound : (w : ℕ) (bs : List ℕ) → IfOk (ll_tail w bs) (LlRest w bs)
unfolding ll_tail
ll_sound w bs =
    when_read (Spaced bs) (LlRest w bs) (spaced_number bs) _ (spaced_sound bs)
    (λ g h. when_read (Words w g.1) (LlRest w bs) (words_in w g.1) _ (words_sound w g.1)
    (λ s m. IfOk-weaker (fed g.0 s) (Fed g.0 s) (LlRest w bs)
    (λ z e. record {
      ws = m.ws;
      count = m.count;
      fit = m.fit;
      small = subst (λ (x : ℕ). x ≤ largest) (sym e.0) h.1;
      bytes = h.0 ∙ ap (λ (x : List ℕ). space ∷ (decimal g.0 ++ x)) (m.bytes ∙ ap (λ (x : List ℕ). words_of m.ws ++ x) e.1)
          ∙ ap (λ (x : ℕ). space ∷ (decimal x ++ (words_of m.ws ++ line_feed ∷ z.1))) (sym e.0);
    })
    (fed_sound g.0 s)))

-- of an SC's or a VL's
record TruthRest (bs : List ℕ) (g : ℕ × List ℕ) : Type 0 where
  count : ℕ
  answer : Bool
  fits : count ≤ largest
  worth : bit answer ≡ g.0
  bytes : bs ≡ space ∷ (decimal count ++ (truth answer ++ g.1))

-- a number that is at most 1 is a truth
record Bit (v : ℕ) : Type 0 where
  answer : Bool
  worth : bit answer ≡ v
  bytes : (rest : List ℕ) → space ∷ (decimal v ++ line_feed ∷ rest) ≡ truth answer ++ rest

bit_of : (v : ℕ) → v ≤ 1 → Bit v
unfolding decimal digits
bit_of zero h = record { answer = false; worth = refl; bytes = λ rest. refl }
bit_of (suc zero) h = record { answer = true; worth = refl; bytes = λ rest. refl }
bit_of (suc (suc v)) h = absurd (omega arith)

truth_sound : (bs : List ℕ) → IfOk (truth_tail bs) (TruthRest bs)
unfolding truth_tail
truth_sound bs =
    when_read (Spaced bs) (TruthRest bs) (spaced_number bs) _ (spaced_sound bs)
    (λ g h. when_read (Spaced g.1) (TruthRest bs) (spaced_number g.1) _ (spaced_sound g.1)
    (λ t m. either (λ (r : Read ℕ). IfOk r (TruthRest bs)) (leb t.0 1) _ _
    (λ r. IfOk-weaker (fed t.0 t.1) (Fed t.0 t.1) (TruthRest bs)
    (λ z e.
    let k = bit_of t.0 (leb-true t.0 1 r) in
    record {
      count = g.0;
      answer = k.answer;
      fits = h.1;
      worth = k.worth ∙ sym e.0;
      bytes = h.0 ∙ ap (λ (x : List ℕ). space ∷ (decimal g.0 ++ x))
          (m.0 ∙ ap (λ (x : List ℕ). space ∷ (decimal t.0 ++ x)) e.1 ∙ k.bytes z.1);
    })
    (fed_sound t.0 t.1))
    (λ _. tt)))

-- an answer line
pub record Tells (n w : ℕ) (bs : List ℕ) (t : Gain × List ℕ) : Type 0 where
  pub answer : Answer
  pub fits : Fits n w answer
  pub process : process_of answer ≡ t.0.process
  pub gain : gain_of answer ≡ t.0.sum
  pub bytes : bs ≡ line_of answer ++ t.1

-- what stands before the letter, and the letter
module _ (n w p : ℕ) (small : p < n) where
  abbrev Lettered : List ℕ → Read Gain → Type 0
  Lettered cs t = IfOk t (Tells n w (decimal p ++ space ∷ cs))

  head : (k c : ℕ) (t : List ℕ) → decimal p ++ space ∷ k ∷ space ∷ (decimal c ++ t) ≡ answer_head p k c ++ t
  unfolding answer_head
  head k c t = sym (append_assoc (decimal p) (space ∷ k ∷ space ∷ decimal c) t)

  told_ll : (cs : List ℕ) (g : Read ℕ) → IfOk g (LlRest w cs) → Lettered (letter_l ∷ cs) (told p ll_gain g)
  unfolding line_of ll_line
  told_ll cs g f =
      when_read (LlRest w cs) (Tells n w (decimal p ++ space ∷ letter_l ∷ cs)) g _ f
      (λ z m. record {
        answer = ll p z.0 m.ws;
        fits = ll_fits small m.small m.count m.fit;
        process = refl;
        gain = refl;
        bytes = ap (λ (x : List ℕ). decimal p ++ space ∷ letter_l ∷ x) m.bytes
            ∙ head letter_l z.0 (words_of m.ws ++ line_feed ∷ z.1)
            ∙ ap (λ (x : List ℕ). answer_head p letter_l z.0 ++ x) (sym (append_assoc (words_of m.ws) (line_feed ∷ []) z.1))
            ∙ sym (append_assoc (answer_head p letter_l z.0) (words_of m.ws ++ line_feed ∷ []) z.1);
      })

  told_truth : (k : ℕ) (cs : List ℕ) (g : Read ℕ) (gain : ℕ → Sum) (a : ℕ → Bool → Answer)
      → ((c : ℕ) (t : Bool) → line_of (a c t) ≡ truth_line p k c t) → ((c : ℕ) (t : Bool) → c ≤ largest → Fits n w (a c t))
      → ((c : ℕ) (t : Bool) → process_of (a c t) ≡ p) → ((c : ℕ) (t : Bool) → gain_of (a c t) ≡ gain (bit t))
      → IfOk g (TruthRest cs) → Lettered (k ∷ cs) (told p gain g)
  unfolding truth_line
  told_truth k cs g gain a lines fit process gains f =
      when_read (TruthRest cs) (Tells n w (decimal p ++ space ∷ k ∷ cs)) g _ f
      (λ z m. record {
        answer = a m.count m.answer;
        fits = fit m.count m.answer m.fits;
        process = process m.count m.answer;
        gain = gains m.count m.answer ∙ ap gain m.worth;
        bytes = ap (λ (x : List ℕ). decimal p ++ space ∷ k ∷ x) m.bytes
            ∙ head k m.count (truth m.answer ++ z.1)
            ∙ sym (append_assoc (answer_head p k m.count) (truth m.answer) z.1)
            ∙ ap (λ (x : List ℕ). x ++ z.1) (sym (lines m.count m.answer));
      })

  is : (k c : ℕ) (cs : List ℕ) (t : Read Gain) → eqb c k ≡ true → Lettered (k ∷ cs) t → Lettered (c ∷ cs) t
  is k c cs t e f = subst (λ (x : ℕ). Lettered (x ∷ cs) t) (sym (eqb-true c k e)) f

  letter_sound : (cs : List ℕ) → Lettered cs (by_letter w p cs)
  unfolding by_letter line_of
  letter_sound [] = tt
  letter_sound (c ∷ cs) =
      let g : Read ℕ = ll_tail w cs in
      let t : Read ℕ = truth_tail cs in
      let P : Read Gain → Type 0 = Lettered (c ∷ cs) in
      either P (eqb c letter_l) _ _ (λ e. is letter_l c cs (told p ll_gain g) e (told_ll cs g (ll_sound w cs)))
      (λ _. either P (eqb c letter_s) _ _
      (λ e. is letter_s c cs (told p sc_gain t) e
      (told_truth letter_s cs t sc_gain (sc p) (λ _ _. refl) (λ _ _ h. sc_fits small h) (λ _ _. refl) (λ _ _. refl) (truth_sound cs)))
      (λ _. either P (eqb c letter_v) _ _
      (λ e. is letter_v c cs (told p (λ _. no_sum) t) e
      (told_truth letter_v cs t (λ _. no_sum) (vl p) (λ _ _. refl) (λ _ _ h. vl_fits small h) (λ _ _. refl) (λ _ _. refl) (truth_sound cs)))
      (λ _. tt)))

pub answer_sound : (n w : ℕ) (bs : List ℕ) → IfOk (answer_in n w bs) (Tells n w bs)
unfolding answer_in
answer_sound n w bs =
    when_read (Number bs) (Tells n w bs) (number_in bs) _ (number_sound bs)
    (λ g e. either (λ (t : Read Gain). IfOk t (Tells n w bs)) (ltb g.0 n) _ _
    (λ p. when_read (Behind (space ∷ []) g.1) (Tells n w bs) (expected (space ∷ []) g.1) _ (expected_sound (space ∷ []) g.1)
    (λ s h. subst (λ (x : List ℕ). IfOk (by_letter w g.0 s) (Tells n w x)) (sym (e.0 ∙ ap (λ (x : List ℕ). decimal g.0 ++ x) h))
    (letter_sound n w g.0 (ltb-true g.0 n p) s)))
    (λ _. tt))

-- the last line
empty : (bs : List ℕ) → eqb (length bs) 0 ≡ true → bs ≡ []
empty [] e = refl
empty (x ∷ bs) e = absurd (omega (arith, eqb-true (suc (length bs)) 0 e))

end_sound : (bs : List ℕ) → IfOk (at_end bs) (λ _. bs ≡ line_feed ∷ [])
end_sound bs =
    when_read (Behind (line_feed ∷ []) bs) (λ _. bs ≡ line_feed ∷ []) (expected (line_feed ∷ []) bs) _ (expected_sound (line_feed ∷ []) bs)
    (λ rest h. either (λ (s : Ended). IfOk s (λ _. bs ≡ line_feed ∷ [])) (eqb (length rest) 0) _ _
    (λ e. h ∙ ap (λ (x : List ℕ). line_feed ∷ x) (empty rest e)) (λ _. tt))

pub record Ends (bs : List ℕ) : Type 0 where
  pub last : Last
  pub fits : LastFits last
  pub bytes : bs ≡ last_of last

end_line_sound : (bs : List ℕ) → IfOk (end_in bs) (λ _. Ends bs)
unfolding end_in finished last_of end_line
end_line_sound bs =
    when_read (Behind (quoted "end ") bs) (λ _. Ends bs) (expected (quoted "end ") bs) _ (expected_sound (quoted "end ") bs)
    (λ s h. when_read (Number s) (λ _. Ends bs) (number_in s) _ (number_sound s)
    (λ g e. IfOk-weaker (at_end g.1) (λ _. g.1 ≡ line_feed ∷ []) (λ _. Ends bs)
    (λ _ f. record {
      last = end g.0;
      fits = end_fits e.1;
      bytes = h ∙ ap (λ (x : List ℕ). quoted "end " ++ x) (e.0 ∙ ap (λ (x : List ℕ). decimal g.0 ++ x) f);
    })
    (end_sound g.1)))

refused_line_sound : (bs : List ℕ) → IfOk (refused_in bs) (λ _. Ends bs)
unfolding refused_in finished last_of refused_line
refused_line_sound bs =
    when_read (Behind (quoted "refused ") bs) (λ _. Ends bs) (expected (quoted "refused ") bs) _ (expected_sound (quoted "refused ") bs)
    (λ s h. when_read (Number s) (λ _. Ends bs) (number_in s) _ (number_sound s)
    (λ c d. when_read (Spaced c.1) (λ _. Ends bs) (spaced_number c.1) _ (spaced_sound c.1)
    (λ g e. IfOk-weaker (at_end g.1) (λ _. g.1 ≡ line_feed ∷ []) (λ _. Ends bs)
    (λ _ f. record {
      last = refused c.0 g.0;
      fits = refused_fits d.1 e.1;
      bytes = h ∙ ap (λ (x : List ℕ). quoted "refused " ++ x)
          (d.0 ∙ ap (λ (x : List ℕ). decimal c.0 ++ x) (e.0 ∙ ap (λ (x : List ℕ). space ∷ (decimal g.0 ++ x)) f));
    })
    (end_sound g.1))))

last_sound : (bs : List ℕ) → IfOk (last_in bs) (λ _. Ends bs)
unfolding last_in
last_sound bs =
    either (λ (s : Ended). IfOk s (λ _. Ends bs)) (eqb (first bs) (byte "e")) _ _
    (λ _. end_line_sound bs) (λ _. refused_line_sound bs)

-- a whole listing
pub lines_sound : (n w f : ℕ) (l : List Sum) (bs : List ℕ) → IfOk (lines_in n w f l bs) (λ _. Shaped n w bs)
unfolding lines_in lines_of
lines_sound n w zero l bs = tt
lines_sound n w (suc f) l bs =
    either (λ (r : Result (List Sum) (List ℕ)). IfOk r (λ _. Shaped n w bs)) (is_digit (first bs)) _ _
    (λ _. when_read (Tells n w bs) (λ _. Shaped n w bs) (answer_in n w bs) _ (answer_sound n w bs)
    (λ a t. IfOk-weaker (lines_in n w f (tally l a.0.process a.0.sum) a.1) (λ _. Shaped n w a.1) (λ _. Shaped n w bs)
    (λ _ m. record {
      answers = t.answer ∷ m.answers;
      last = m.last;
      fit = line t.fits m.fit;
      last_fits = m.last_fits;
      bytes = t.bytes ∙ ap (λ (x : List ℕ). line_of t.answer ++ x) m.bytes
          ∙ sym (append_assoc (line_of t.answer) (lines_of m.answers) (last_of m.last));
    })
    (lines_sound n w f (tally l a.0.process a.0.sum) a.1)))
    (λ _. when_read (λ _. Ends bs) (λ _. Shaped n w bs) (last_in bs) _ (last_sound bs)
    (λ _ e. record { answers = []; last = e.last; fit = no_lines; last_fits = e.fits; bytes = e.bytes }))
