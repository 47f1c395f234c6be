-- Laws of the loop over a listing's lines.
use Prim.Native.Nat.{ℕ, zero, suc, ◌+◌, ◌-◌, ◌*◌, ◌≤◌, ◌<◌}
use mathlib.Core.Path.{◌≡◌, refl, sym, ap, subst, ◌∙◌}
use mathlib.Core.List.{List, [], ◌∷◌, ◌++◌}
use mathlib.Core.Bool.{Bool, true, false, cond}
use native.Mathlib.Omega.{arith}
use lib.ListN.{length, length-append, get_or, set}
use Rattle.std.specs.Prelude.{Result, Ok, Err, IfOk}
use Rattle.std.proofs.lemmas.Result.{IfOk-weaker, IfOk-at_ok}
use Rattle.listing.specs.Decimal.{decimal}
use Rattle.listing.specs.Lines.{space, answer_head, words_of, ll_line, truth, truth_line}
use Rattle.answers.specs.declared.Sum.{Sum}
use Rattle.answers.specs.declared.Gain.{Gain}
use Rattle.answers.specs.Shape.{largest, Answer, ll, sc, vl, line_of, Fits, ll_fits, sc_fits, vl_fits}
use Rattle.answers.specs.Gains.{no_sum, plus, bit, gain_of, process_of, tally}
use Rattle.answers.specs.Readers.{first, is_digit, Read, Ended, read_on, answer_in, last_in, lines_in, listing_in, with_line, sums_in, sums_read}
use Rattle.answers.specs.Ranges.{Below, AllBelow, Readable}
use Rattle.answers.proofs.SumLaws.{tally_below, weaker}
use Rattle.answers.proofs.Sound.{Tells, answer_sound}

-- an answer line adds at most the largest number, and has bytes
bit_small : (t : Bool) → bit t ≤ 1
bit_small true = omega arith
bit_small false = omega arith

pub gain_small : (n w : ℕ) (a : Answer) → Fits n w a → Below largest (gain_of a)
gain_small n w (ll p c ws) (ll_fits h i e f) = record { successes = omega arith; scs = omega arith; steps = i; lls = omega arith }
gain_small n w (sc p c t) (sc_fits h i) = record { successes = omega (arith, bit_small t); scs = omega arith; steps = omega arith; lls = omega arith }
gain_small n w (vl p c t) (vl_fits h i) = record { successes = omega arith; scs = omega arith; steps = omega arith; lls = omega arith }

pub own_process : (n w : ℕ) (a : Answer) → Fits n w a → process_of a < n
own_process n w (ll p c ws) (ll_fits h i e f) = h
own_process n w (sc p c t) (sc_fits h i) = h
own_process n w (vl p c t) (vl_fits h i) = h

head_bytes : (p k c : ℕ) → 3 ≤ length (answer_head p k c)
unfolding answer_head
head_bytes p k c = omega (arith, length-append (decimal p) (space ∷ k ∷ space ∷ decimal c))

pub line_bytes_lem : (a : Answer) → 1 ≤ length (line_of a)
unfolding line_of ll_line truth_line
line_bytes_lem (ll p c ws) = omega (arith, length-append (answer_head p 76 c) (words_of ws ++ 10 ∷ []), head_bytes p 76 c)
line_bytes_lem (sc p c t) = omega (arith, length-append (answer_head p 83 c) (truth t), head_bytes p 83 c)
line_bytes_lem (vl p c t) = omega (arith, length-append (answer_head p 86 c) (truth t), head_bytes p 86 c)

-- what the code needs of a line
pub record Takes (n : ℕ) (bs : List ℕ) (t : Gain × List ℕ) : Type 0 where
  pub process : t.0.process < n
  pub gain : Below largest t.0.sum
  pub shorter : length t.1 < length bs

takes : (n w : ℕ) (bs : List ℕ) → IfOk (answer_in n w bs) (Takes n bs)
takes n w bs =
    IfOk-weaker (answer_in n w bs) (Tells n w bs) (Takes n bs)
    (λ t m. record {
      process = subst (λ (x : ℕ). x < n) m.process (own_process n w m.answer m.fits);
      gain = subst (Below largest) m.gain (gain_small n w m.answer m.fits);
      shorter = omega (arith, ap length m.bytes, length-append (line_of m.answer) t.1, line_bytes_lem m.answer);
    })
    (answer_sound n w bs)

pub taken : (n w : ℕ) (bs : List ℕ) {t : Gain × List ℕ} → answer_in n w bs ≡ Ok t → Takes n bs t
taken n w bs e = IfOk-at_ok (Takes n bs) e (takes n w bs)

-- so many lines are enough
choose : {A : Type 0} (t : Bool) (x y z : A) → (t ≡ true → x ≡ y) → cond t x z ≡ cond t y z
choose true x y z h = h refl
choose false x y z h = refl

read_same : {A B : Type 0} (P : A → Type 0) (r : Result A (List ℕ)) (f g : A → Result B (List ℕ)) → IfOk r P
    → ((a : A) → P a → f a ≡ g a) → read_on r f ≡ read_on r g
read_same P (Ok a) f g h k = k a h
read_same P (Err rest) f g h k = refl

same_fuel : (n w f g : ℕ) (l : List Sum) (bs : List ℕ) → length bs < f → length bs < g → lines_in n w f l bs ≡ lines_in n w g l bs
unfolding lines_in
same_fuel n w zero g l bs p q = absurd (omega arith)
same_fuel n w (suc f) zero l bs p q = absurd (omega arith)
same_fuel n w (suc f) (suc g) l bs p q =
    choose (is_digit (first bs)) _ _ _
    (λ _. read_same (Takes n bs) (answer_in n w bs) _ _ (takes n w bs)
    (λ t k. same_fuel n w f g (tally l t.0.process t.0.sum) t.1 (omega (arith, k.shorter)) (omega (arith, k.shorter))))

line_same : (P : Gain × List ℕ → Type 0) (r : Read Gain) (l : List Sum) (f g : Gain × List ℕ → List Sum) → IfOk r P
    → ((a : Gain × List ℕ) → P a → f a ≡ g a) → with_line r l f ≡ with_line r l g
line_same P (Ok a) l f g h k = k a h
line_same P (Err rest) l f g h k = refl

same_sums_fuel : (n w f g : ℕ) (l : List Sum) (bs : List ℕ) → length bs < f → length bs < g → sums_in n w f l bs ≡ sums_in n w g l bs
unfolding sums_in
same_sums_fuel n w zero g l bs p q = absurd (omega arith)
same_sums_fuel n w (suc f) zero l bs p q = absurd (omega arith)
same_sums_fuel n w (suc f) (suc g) l bs p q =
    choose (is_digit (first bs)) _ _ _
    (λ _. line_same (Takes n bs) (answer_in n w bs) l _ _ (takes n w bs)
    (λ t k. same_sums_fuel n w f g (tally l t.0.process t.0.sum) t.1 (omega (arith, k.shorter)) (omega (arith, k.shorter))))

module _ (n w : ℕ) (l : List Sum) (bs : List ℕ) where
  next_line : {gain : Gain} {more : List ℕ} → is_digit (first bs) ≡ true → answer_in n w bs ≡ Ok (gain, more)
      → listing_in n w l bs ≡ listing_in n w (tally l gain.process gain.sum) more
  unfolding listing_in lines_in
  next_line {gain} {more} d e =
      simp (d, e)
      (same_fuel n w (length bs) (suc (length more)) (tally l gain.process gain.sum) more (taken n w bs e).shorter (omega arith))

  no_line : {rest : List ℕ} → is_digit (first bs) ≡ true → answer_in n w bs ≡ Err rest → listing_in n w l bs ≡ Err rest
  unfolding listing_in lines_in
  no_line d e = simp (d, e)

  last_line : is_digit (first bs) ≡ false → listing_in n w l bs ≡ read_on (last_in bs) (λ _. Ok l)
  unfolding listing_in lines_in
  last_line d = simp (d)

  next_sums : {gain : Gain} {more : List ℕ} → is_digit (first bs) ≡ true → answer_in n w bs ≡ Ok (gain, more)
      → sums_read n w l bs ≡ sums_read n w (tally l gain.process gain.sum) more
  unfolding sums_read sums_in
  next_sums {gain} {more} d e =
      simp (d, e)
      (same_sums_fuel n w (length bs) (suc (length more)) (tally l gain.process gain.sum) more (taken n w bs e).shorter (omega arith))

  stopped_sums : {rest : List ℕ} → is_digit (first bs) ≡ true → answer_in n w bs ≡ Err rest → sums_read n w l bs ≡ l
  unfolding sums_read sums_in
  stopped_sums d e = simp (d, e)

  last_sums : is_digit (first bs) ≡ false → sums_read n w l bs ≡ l
  unfolding sums_read sums_in
  last_sums d = simp (d)

-- the loop: the rest of the listing, on top of the sums so far, is the whole listing on top of the first ones
pub record Going (n w : ℕ) (l₀ : List Sum) (bs : List ℕ) (l : List Sum) (rest : List ℕ) : Type 0 where
  pub same : listing_in n w l rest ≡ listing_in n w l₀ bs
  pub within : length rest ≤ length bs
  pub below : AllBelow n (72057594037927935 + (length bs - length rest) * largest) l

module _ {n w : ℕ} {l₀ : List Sum} {bs : List ℕ} {l : List Sum} {rest : List ℕ}
    (h : Readable n l₀ bs) (g : Going n w l₀ bs l rest) where
  -- where no digit stands, the last line is read
  pub ends : is_digit (first rest) ≡ false → last_in rest ≡ Ok tt → listing_in n w l₀ bs ≡ Ok l
  ends d e = sym g.same ∙ last_line n w l rest d ∙ ap (λ (last : Ended). read_on last (λ _. Ok l)) e

  pub ends_wrong : {r : List ℕ} → is_digit (first rest) ≡ false → last_in rest ≡ Err r → listing_in n w l₀ bs ≡ Err r
  ends_wrong d e = sym g.same ∙ last_line n w l rest d ∙ ap (λ (last : Ended). read_on last (λ _. Ok l)) e

  pub stops : {r : List ℕ} → is_digit (first rest) ≡ true → answer_in n w rest ≡ Err r → listing_in n w l₀ bs ≡ Err r
  stops d e = sym g.same ∙ no_line n w l rest d e

  -- a turn of the loop: a digit stands there, and a line is read
  module _ (gain : Gain) (more : List ℕ) (e : answer_in n w rest ≡ Ok (gain, more)) where
    took : Takes n rest (gain, more)
    took = taken n w rest e

    pub own : gain.process < 16
    own = omega (arith, took.process, h.few)

    pub further : length more < length rest
    further = took.shorter

    pub room : Below 9223372036854775807 (get_or l gain.process no_sum) × Below 9223372036854775807 gain.sum
    room =
        let s = g.below gain.process took.process in
        let a = g.within in
        let b = h.short in (
          record {
            successes = omega (arith, s.successes, a, b);
            scs = omega (arith, s.scs, a, b);
            steps = omega (arith, s.steps, a, b);
            lls = omega (arith, s.lls, a, b);
          },
          wider took.gain,
        )
      where
        wider : {k : Sum} → Below largest k → Below 9223372036854775807 k
        wider k = record {
          successes = omega (arith, k.successes);
          scs = omega (arith, k.scs);
          steps = omega (arith, k.steps);
          lls = omega (arith, k.lls);
        }

    pub goes : is_digit (first rest) ≡ true
        → Going n w l₀ bs (set l gain.process (plus (get_or l gain.process no_sum) gain.sum)) more
    unfolding tally
    goes d =
        let b : ℕ = 72057594037927935 in
        let next : List Sum = tally l gain.process gain.sum in
        let so_far : ℕ = length bs - length rest in
        record {
          same = sym (next_line n w l rest d e) ∙ g.same;
          within = omega (arith, further, g.within);
          below = weaker n (b + so_far * largest + largest) (b + (length bs - length more) * largest) next
              (omega (arith, further, g.within))
              (tally_below n (b + so_far * largest) largest l gain.process gain.sum took.gain g.below);
        }

-- the same, and the sums that are read of the rest, on top of those so far, are those of the whole listing
pub record Summing (n w : ℕ) (l₀ : List Sum) (bs : List ℕ) (l : List Sum) (rest : List ℕ) : Type 0 where
  pub going : Going n w l₀ bs l rest
  pub sums : sums_read n w l rest ≡ sums_read n w l₀ bs

module _ {n w : ℕ} {l₀ : List Sum} {bs : List ℕ} {l : List Sum} {rest : List ℕ}
    (h : Readable n l₀ bs) (g : Summing n w l₀ bs l rest) where
  pub ends_sums : is_digit (first rest) ≡ false → l ≡ sums_read n w l₀ bs
  ends_sums d = sym (last_sums n w l rest d) ∙ g.sums

  pub stops_sums : {r : List ℕ} → is_digit (first rest) ≡ true → answer_in n w rest ≡ Err r → l ≡ sums_read n w l₀ bs
  stops_sums d e = sym (stopped_sums n w l rest d e) ∙ g.sums

  pub goes_sums : (gain : Gain) (more : List ℕ) → answer_in n w rest ≡ Ok (gain, more) → is_digit (first rest) ≡ true
      → Summing n w l₀ bs (set l gain.process (plus (get_or l gain.process no_sum) gain.sum)) more
  unfolding tally
  goes_sums gain more e d = record { going = goes h g.going gain more e d; sums = sym (next_sums n w l rest d e) ∙ g.sums }

pub ruleset reading_lines = (ends, ends_wrong, stops, ends_sums, stops_sums, own, further)
