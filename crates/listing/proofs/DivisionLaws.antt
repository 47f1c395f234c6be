-- Laws of a number that is divided by ten again and again: which digits stand ready after each division, and what is
-- left.
use Prim.Native.Nat.{ℕ, zero, suc, ◌+◌, ◌-◌, ◌*◌, ◌/◌, ◌%◌, ◌≤◌, ◌<◌}
use mathlib.Core.Path.{◌≡◌, refl, sym, ap, ◌∙◌}
use mathlib.Core.List.{List, [], ◌∷◌, ◌++◌, append_assoc, append-nil}
use mathlib.Core.Bool.{Bool, true, false, cond}
use native.Mathlib.Omega.{arith}
use native.Mathlib.Nat.{sub-zero, div-one, div-add-mod', div-div-eq-div-mul, mod-eq-sub-div-mul}
use borrow.Author.Tests.{eqb-true, eqb-false, eq-eqb, ne_eqb, ltb-true, ltb-false}
use lib.Dec.{eqb, ltb}
use lib.ListN.{length, length-append, drop}
use lib.Seq.{drop_at, drop-length}
use Rattle.listing.specs.Decimal.{decimal, tens}
use Rattle.listing.specs.Divisions.{divide, divided, ReadyDigits}
use Rattle.listing.proofs.DecimalLaws.{one_digit, last_digit}

-- the numbers of 64 bits
abbrev pub above : ℕ
above = 18446744073709551616

-- the digits before those that stand ready: none where nothing is left
unfoldable front : ℕ → List ℕ
front m = cond (eqb m 0) [] (decimal m)

front_none : (m : ℕ) → m ≡ 0 → front m ≡ []
unfolding front
front_none m h = simp (eq-eqb m 0 h)

front_some : (m : ℕ) → (m ≡ 0 → ⊥) → front m ≡ decimal m
unfolding front
front_some m h = simp (ne_eqb m 0 h)

-- a number is the digits before its last one, and that
one_more : (m : ℕ) → m < above → decimal m ≡ front (m / 10) ++ (48 + m % 10) ∷ []
one_more m l = pick (ltb m 10) refl
  where
    pick : (t : Bool) → ltb m 10 ≡ t → decimal m ≡ front (m / 10) ++ (48 + m % 10) ∷ []
    pick true e =
        let h = ltb-true m 10 e in
        let last : m ≡ m % 10 = omega arith in
        one_digit m h ∙ ap (λ (x : ℕ). (48 + x) ∷ []) last
        ∙ ap (λ (x : List ℕ). x ++ (48 + m % 10) ∷ []) (sym (front_none (m / 10) (omega arith)))
    pick false e =
        let h = ltb-false m 10 e in
        last_digit m h l ∙ ap (λ (x : List ℕ). x ++ (48 + m % 10) ∷ []) (sym (front_some (m / 10) (λ z. omega arith)))

pub some : (m : ℕ) → m < above → 0 < length (decimal m)
some m l = omega (arith, ap length (one_more m l), length-append (front (m / 10)) ((48 + m % 10) ∷ []))

no_front : (m : ℕ) → m < above → length (front m) ≡ 0 → m ≡ 0
no_front m l h = pick (eqb m 0) refl
  where
    pick : (t : Bool) → eqb m 0 ≡ t → m ≡ 0
    pick true e = eqb-true m 0 e
    pick false e = absurd (omega (arith, some m l, ap length (front_some m (eqb-false m 0 e))))

-- what is left after k divisions, and how many digits stand
left : (k n : ℕ) → (divided k n).rest ≡ n / tens k
unfolding divided divide tens
left zero n = sym (div-one n)
left (suc k) n = ap (λ (x : ℕ). x / 10) (left k n) ∙ div-div-eq-div-mul n (tens k) 10

stand : (k n : ℕ) → length (divided k n).ready ≡ k
unfolding divided divide
stand zero n = refl
stand (suc k) n = ap suc (stand k n)

-- a division of what is left makes one digit more ready
cut : (r : ℕ) (ready : List ℕ) → r < above → decimal r ++ ready ≡ front (r / 10) ++ (48 + (r - r / 10 * 10)) ∷ ready
cut r ready l =
    ap (λ (x : List ℕ). x ++ ready) (one_more r l) ∙ append_assoc (front (r / 10)) ((48 + r % 10) ∷ []) ready
    ∙ ap (λ (x : ℕ). front (r / 10) ++ (48 + x) ∷ ready) (mod-eq-sub-div-mul r 10)

module _ (n : ℕ) (l : n < above) where
  abbrev rest_at : ℕ → ℕ
  rest_at k = (divided k n).rest

  abbrev ready_at : ℕ → List ℕ
  ready_at k = (divided k n).ready

  pub small : (k : ℕ) → rest_at k ≤ n
  unfolding divided divide
  small zero = omega arith
  small (suc k) = omega (arith, small k, div-add-mod' (rest_at k) 10)

  -- how many digits stand before those that are ready
  fewer : (k : ℕ) (a : List ℕ) → decimal n ≡ a ++ ready_at k → length (decimal n) ≡ length a + k
  fewer k a e = ap length e ∙ length-append a (ready_at k) ∙ ap (λ (x : ℕ). length a + x) (stand k n)

  -- one division more, with no digit before those that are ready in the end
  onward : (k : ℕ) → decimal n ≡ decimal (rest_at k) ++ ready_at k → decimal n ≡ front (rest_at (suc k)) ++ ready_at (suc k)
  unfolding divided divide
  onward k e = e ∙ cut (rest_at k) (ready_at k) (omega (arith, small k, l))

  -- while digits are left they stand before those that are ready
  still : (k : ℕ) → k < length (decimal n) → decimal n ≡ front (rest_at k) ++ ready_at k → decimal n ≡ decimal (rest_at k) ++ ready_at k
  still k h e = e ∙ ap (λ (x : List ℕ). x ++ ready_at k) (front_some (rest_at k) more)
    where
      more : rest_at k ≡ 0 → ⊥
      more z = omega (arith, h, fewer k (front (rest_at k)) e, ap length (front_none (rest_at k) z))

  before : (k : ℕ) → k < length (decimal n) → decimal n ≡ decimal (rest_at k) ++ ready_at k
  unfolding divided
  before zero h = sym (append-nil (decimal n))
  before (suc k) h = still (suc k) h (onward k (before k (omega arith)))

  pub ready_digits : (k : ℕ) → k ≤ length (decimal n) → ReadyDigits n k (divided k n)
  unfolding divided
  ready_digits zero h = record {
    last = sym (ap (λ (i : ℕ). drop i (decimal n)) (sub-zero (length (decimal n))) ∙ drop-length (decimal n));
    left = left zero n;
    whole = λ p z. absurd (omega arith);
    nothing = λ e. absurd (omega (arith, e, some n l));
  }
  ready_digits (suc k) h = record {
    last = sym (ap (drop others) stands ∙ drop_at before₀ (ready_at (suc k)) others (omega (arith, long)));
    left = left (suc k) n;
    whole = λ p z. omega (arith, long, ap length (front_none (rest_at (suc k)) z));
    nothing = λ e. no_front (rest_at (suc k)) (omega (arith, small (suc k), l)) (omega (arith, long, e));
  }
    where
      others : ℕ
      others = length (decimal n) - suc k

      before₀ : List ℕ
      before₀ = front (rest_at (suc k))

      stands : decimal n ≡ before₀ ++ ready_at (suc k)
      stands = onward k (before k (omega arith))

      long : length (decimal n) ≡ length before₀ + suc k
      long = fewer (suc k) before₀ stands
