-- Laws of the readers of numbers and of expected bytes, for each way that the code goes.
use Prim.Native.Nat.{ℕ, suc, ◌+◌, ◌-◌, ◌*◌, ◌≤◌, ◌<◌}
use mathlib.Core.Path.{◌≡◌, refl, sym, ap, ◌∙◌}
use mathlib.Core.List.{List, [], ◌∷◌}
use mathlib.Core.Bool.{Bool, true, false, ◌&&◌, cond, true≢false}
use native.Mathlib.Omega.{arith}
use borrow.Author.Tests.{le-leb, lt-leb, eq-eqb, ne_eqb, leb-true}
use lib.Dec.{leb, eqb}
use native.Mathlib.Numerals.{add-one}
use lib.ListN.{length, get_or, drop, drop_of_length-le}
use lib.Seq.{drop-cons}
use Rattle.listing.specs.Lines.{space}
use Rattle.answers.specs.Shape.{largest}
use Rattle.std.specs.Prelude.{Ok, Err}
use Rattle.answers.specs.Readers.{first, is_digit, digits_after, number_in, spaced_number, words_in, expected}

pub a_digit : (c : ℕ) → 48 ≤ c → c ≤ 57 → is_digit c ≡ true
a_digit c h k = simp (le-leb 48 c h, le-leb c 57 k)

and_both : (a b : Bool) → (a && b) ≡ true → (a ≡ true) × (b ≡ true)
and_both true b e = (refl, e)
and_both false b e = absurd (true≢false (sym e))

pub digit_range : (c : ℕ) → is_digit c ≡ true → (48 ≤ c) × (c ≤ 57)
digit_range c e = let p = and_both (leb 48 c) (leb c 57) e in (leb-true 48 c p.0, leb-true c 57 p.1)

-- a text that begins with no digit
pub no_number : (bs : List ℕ) → is_digit (first bs) ≡ false → number_in bs ≡ Err bs
unfolding number_in
no_number bs e = simp (e)

pub digits_end : (v : ℕ) (bs : List ℕ) → is_digit (first bs) ≡ false → digits_after v bs ≡ Ok (v, bs)
unfolding digits_after
digits_end v [] e = refl
digits_end v (c ∷ cs) e = simp (e)

-- and one that begins with the digit d
pub the_digit : (d : ℕ) → d ≤ 9 → is_digit (48 + d) ≡ true
the_digit d h = a_digit (48 + d) (omega arith) (omega arith)

either_same : {A : Type 0} (t : Bool) (x : A) → cond t x x ≡ x
either_same true x = refl
either_same false x = refl

back : (d : ℕ) → 48 + d - 48 ≡ d
back d = omega arith

pub number_begins : (d : ℕ) (rest : List ℕ) → d ≤ 9 → number_in ((48 + d) ∷ rest) ≡ digits_after d rest
unfolding number_in
number_begins d rest h = simp (the_digit d h, back d)

module _ (v d : ℕ) (rest : List ℕ) (h : d ≤ 9) where
  pub after_zero : v ≡ 0 → digits_after v ((48 + d) ∷ rest) ≡ Err ((48 + d) ∷ rest)
  unfolding digits_after
  after_zero z = simp (the_digit d h, eq-eqb v 0 z)

  pub too_large : largest < v * 10 + d → digits_after v ((48 + d) ∷ rest) ≡ Err ((48 + d) ∷ rest)
  unfolding digits_after
  too_large k = simp (the_digit d h, back d, lt-leb (v * 10 + d) largest k) (either_same (eqb v 0) (Err ((48 + d) ∷ rest)))

  pub digit_on : (v ≡ 0 → ⊥) → v * 10 + d ≤ largest → digits_after v ((48 + d) ∷ rest) ≡ digits_after (v * 10 + d) rest
  unfolding digits_after
  digit_on z k = simp (the_digit d h, ne_eqb v 0 z, back d, le-leb (v * 10 + d) largest k)

  -- by what the digits make with d: below 10 only behind a zero
  pub below_ten : v * 10 + d < 10 → digits_after v ((48 + d) ∷ rest) ≡ Err ((48 + d) ∷ rest)
  below_ten k = after_zero (omega arith)

  pub from_ten : 10 ≤ v * 10 + d → v * 10 + d ≤ largest → digits_after v ((48 + d) ∷ rest) ≡ digits_after (v * 10 + d) rest
  from_ten l k = digit_on (λ z. omega arith) k

-- what is read of a text by its first byte
pub ruleset reading_digits = (digits_end, below_ten, too_large, from_ten)

pub after_space : (c : ℕ) (rest : List ℕ) → c ≡ space → spaced_number (c ∷ rest) ≡ number_in rest
unfolding spaced_number expected
after_space c rest h = simp (eq-eqb c space h)

pub no_space : (c : ℕ) (rest : List ℕ) → (c ≡ space → ⊥) → spaced_number (c ∷ rest) ≡ Err (c ∷ rest)
unfolding spaced_number expected
no_space c rest h = simp (ne_eqb c space h)

pub no_text : (bs : List ℕ) → length bs ≡ 0 → spaced_number bs ≡ Err bs
unfolding spaced_number expected
no_text [] h = refl
no_text (c ∷ cs) h = absurd (omega arith)

pub ruleset reading_spaced = (after_space, no_space, no_text)

pub ruleset reading_numbers = (no_number, number_begins)

-- the loop over a word's bytes: the text is held against what is left of the word
module _ (ks : List ℕ) (i : ℕ) (k : i < length ks) where
  word_cut : drop i ks ≡ get_or ks i 0 ∷ drop (i + 1) ks
  word_cut = drop-cons ks i 0 k ∙ ap (λ (j : ℕ). get_or ks i 0 ∷ drop j ks) (sym (add-one i))

  pub missing : (bs : List ℕ) → length bs ≡ 0 → expected (drop i ks) bs ≡ Err bs
  unfolding expected
  missing [] h = ap (λ (x : List ℕ). expected x []) word_cut
  missing (c ∷ cs) h = absurd (omega arith)

  pub differs : (c : ℕ) (cs : List ℕ) → (c ≡ get_or ks i 0 → ⊥) → expected (drop i ks) (c ∷ cs) ≡ Err (c ∷ cs)
  unfolding expected
  differs c cs d = ap (λ (x : List ℕ). expected x (c ∷ cs)) word_cut ∙ simp (ne_eqb c (get_or ks i 0) d)

  pub agrees : (c : ℕ) (cs : List ℕ) → c ≡ get_or ks i 0 → expected (drop i ks) (c ∷ cs) ≡ expected (drop (i + 1) ks) cs
  unfolding expected
  agrees c cs d = ap (λ (x : List ℕ). expected x (c ∷ cs)) word_cut ∙ simp (eq-eqb c (get_or ks i 0) d)

pub word_end : (ks : List ℕ) (i : ℕ) (bs : List ℕ) → length ks ≤ i → expected (drop i ks) bs ≡ Ok bs
unfolding expected
word_end ks i bs h = ap (λ (x : List ℕ). expected x bs) (drop_of_length-le ks h)

pub ruleset passing_bytes = (missing, differs, agrees, word_end)

-- the loop over words: w - i of them are left
pub no_word : (w i : ℕ) (bs rest : List ℕ) → i < w → spaced_number bs ≡ Err rest → words_in (w - i) bs ≡ Err rest
unfolding words_in
no_word w i bs rest h e = let k : w - i ≡ suc (w - (i + 1)) = omega arith in ap (λ (k : ℕ). words_in k bs) k ∙ last (w - (i + 1))
  where
    last : (k : ℕ) → words_in (suc k) bs ≡ Err rest
    last k = simp (e)

pub word_more : (w i v : ℕ) (bs rest : List ℕ) → i < w → spaced_number bs ≡ Ok (v, rest) → words_in (w - i) bs ≡ words_in (w - (i + 1)) rest
unfolding words_in
word_more w i v bs rest h e = let k : w - i ≡ suc (w - (i + 1)) = omega arith in ap (λ (k : ℕ). words_in k bs) k ∙ one (w - (i + 1))
  where
    one : (k : ℕ) → words_in (suc k) bs ≡ words_in k rest
    one k = simp (e)

pub words_end : (w i : ℕ) (bs : List ℕ) → w ≤ i → words_in (w - i) bs ≡ Ok bs
unfolding words_in
words_end w i bs h = let k : w - i ≡ 0 = omega arith in ap (λ (k : ℕ). words_in k bs) k

pub ruleset passing_words = (no_word, word_more, words_end)
