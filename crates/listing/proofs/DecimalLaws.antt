-- Laws of decimal numbers: the last digit, and how many there are.
use Prim.Native.Nat.{ℕ, zero, suc, ◌+◌, ◌*◌, ◌/◌, ◌%◌, ◌≤◌, ◌<◌}
use mathlib.Core.Path.{◌≡◌, refl, ap, ◌∙◌}
use mathlib.Core.List.{List, [], ◌∷◌, ◌++◌}
use mathlib.Core.Bool.{Bool, true, false, cond}
use native.Mathlib.Omega.{arith}
use native.Mathlib.Nat.{div-lt_iff_lt-mul}
use borrow.Author.Tests.{ltb-false, lt-ltb, le-ltb}
use lib.Dec.{ltb}
use lib.ListN.{length, length-append}
use Rattle.listing.specs.Decimal.{digits, decimal, tens}

tenth : (n m : ℕ) → n < m * 10 → n / 10 < m
tenth n m h = (div-lt_iff_lt-mul {k = 10} {x = n} {y = m} (omega arith)).1 h

more : (f n : ℕ) → n < tens (suc f) → digits (suc f) n ≡ digits (suc (suc f)) n
unfolding digits tens
more zero n h = simp (lt-ltb n 10 h)
more (suc f) n h = ap (λ (x : List ℕ). cond (ltb n 10) ((48 + n) ∷ []) (x ++ (48 + n % 10) ∷ [])) (more f (n / 10) (tenth n (tens (suc f)) h))

pub one_digit : (n : ℕ) → n < 10 → decimal n ≡ (48 + n) ∷ []
unfolding decimal digits
one_digit n h = simp (lt-ltb n 10 h)

opened : (n : ℕ) → 10 ≤ n → decimal n ≡ digits 19 (n / 10) ++ (48 + n % 10) ∷ []
unfolding decimal digits
opened n h = ap (λ (t : Bool). cond t ((48 + n) ∷ []) (digits 19 (n / 10) ++ (48 + n % 10) ∷ [])) (le-ltb n 10 h)

longer : (m : ℕ) → m < 10000000000000000000 → digits 19 m ≡ decimal m
unfolding decimal tens
longer m q = more 18 m q

pub last_digit : (n : ℕ) → 10 ≤ n → n < 18446744073709551616 → decimal n ≡ decimal (n / 10) ++ (48 + n % 10) ∷ []
last_digit n h l = opened n h ∙ ap (λ (x : List ℕ). x ++ (48 + n % 10) ∷ []) (longer (n / 10) (tenth n 10000000000000000000 (omega arith)))

choice : (k : ℕ) (t : Bool) (a b : List ℕ) → length a ≤ k → (t ≡ false → length b ≤ k) → length (cond t a b) ≤ k
choice k true a b p q = p
choice k false a b p q = q refl

few : (f k n : ℕ) → n < tens (suc k) → length (digits f n) ≤ suc k
unfolding digits tens
few zero k n h = omega arith
few (suc f) zero n h = choice 1 (ltb n 10) ((48 + n) ∷ []) (digits f (n / 10) ++ (48 + n % 10) ∷ []) (omega arith) (λ e. absurd (omega (arith, ltb-false n 10 e)))
few (suc f) (suc k) n h =
    let front = digits f (n / 10) in let last = (48 + n % 10) ∷ [] in
    choice (suc (suc k)) (ltb n 10) ((48 + n) ∷ []) (front ++ last) (omega arith)
    (λ e. omega (arith, length-append front last, few f k (n / 10) (tenth n (tens (suc k)) h)))

-- a number below 10 to the k has at most k digits
pub at_most : (k n : ℕ) → 0 < k → n < tens k → length (decimal n) ≤ k
unfolding decimal
at_most zero n p h = omega arith
at_most (suc k) n p h = few 20 k n h
