-- The links of a place are one number, and a process's link is its bit: an LL sets p's bit alone, and a number below 2 ^ n has no bit from n on.
use mathlib.Core.Path.{◌≡◌, refl, sym, ap, subst, ◌∙◌}
use mathlib.Core.Bool.{Bool, true, false, cond}
use Prim.Native.Nat.{ℕ, zero, suc, ◌+◌, ◌-◌, ◌*◌, ◌/◌, ◌%◌, ◌^◌, ◌≤◌, ◌<◌}
use native.Mathlib.Nat.{zero-div, div-eq_of_lt, add-div_right, add-mul-div_right, div-lt_iff_lt-mul, lt_of_lt_of_le, add-zero, one-mul, pow-suc}
use native.Mathlib.Decide.{dec_lt}
use native.Mathlib.Omega.{arith}
use lib.Dec.{eqb, lit<}
use lib.Pow.{pow_pos, pow_mono, pow-add, shr-shr, shr_lt, shl_exact}
use borrow.Author.Tests.{eqb-false, eq-eqb}
use Rattle.llsc.specs.declared.ProcessNumber.{ProcessNumber}
use Rattle.model.specs.Places.{no_links, linked, link}

abbrev bit : ℕ → ℕ → ℕ
bit a p = (a / 2 ^ p) % 2

-- a bit that is not 1 is 0
clear : (a p : ℕ) → eqb (bit a p) 1 ≡ false → bit a p ≡ 0
clear a p e = let ne = eqb-false (bit a p) 1 e in omega arith

raised : (a p : ℕ) → (a + 2 ^ p) / 2 ^ p ≡ a / 2 ^ p + 1
raised a p = add-div_right a (pow_pos p)

-- where bit p is 0, 2 ^ p more sets it and carries nothing to the bits above it; those below it stay in any case
bit_same : (a p : ℕ) → bit a p ≡ 0 → bit (a + 2 ^ p) p ≡ 1
bit_same a p e = let y = raised a p in omega arith

bit_above : (a p k : ℕ) → bit a p ≡ 0 → bit (a + 2 ^ p) (p + (1 + k)) ≡ bit a (p + (1 + k))
bit_above a p k e = ap (λ x. x % 2) (tail (a + 2 ^ p) ∙ ap (λ x. x / 2 ^ k) halves ∙ sym (tail a))
  where
    tail : (b : ℕ) → b / 2 ^ (p + (1 + k)) ≡ b / 2 ^ p / 2 / 2 ^ k
    tail b = sym (shr-shr (b / 2 ^ p) 1 k ∙ shr-shr b p (1 + k))

    halves : (a + 2 ^ p) / 2 ^ p / 2 ≡ a / 2 ^ p / 2
    halves = let y = raised a p in omega arith

bit_below : (a q k : ℕ) → bit (a + 2 ^ (k + 1 + q)) q ≡ bit a q
bit_below a q k = ap (λ x. x % 2) more ∙ (let z : (a / 2 ^ q + 2 ^ k * 2) % 2 ≡ bit a q = omega arith in z)
  where
    more : (a + 2 ^ (k + 1 + q)) / 2 ^ q ≡ a / 2 ^ q + 2 ^ k * 2
    more = ap (λ x. (a + x) / 2 ^ q) (pow-add 2 (k + 1) q ∙ ap (λ x. x * 2 ^ q) (pow-add 2 k 1)) ∙ add-mul-div_right a (2 ^ k * 2) (pow_pos q)

bit_other : (a p q : ℕ) → (q ≡ p → ⊥) → bit a p ≡ 0 → bit (a + 2 ^ p) q ≡ bit a q
bit_other a p q ne e = go (dec_lt p q)
  where
    go : Dec (p < q) → bit (a + 2 ^ p) q ≡ bit a q
    go (yes h) = let z : q ≡ p + (1 + (q - p - 1)) = omega arith in rw z (bit_above a p (q - p - 1) e)
    go (no h) = let z : p ≡ (p - q - 1) + 1 + q = omega arith in rw z (bit_below a q (p - q - 1))

lt_power : (a : ℕ) → a < 2 ^ a
lt_power zero = pow_pos 0
lt_power (suc a) = let z = lt_power a in let y = pow-suc 2 a in omega arith

-- 2 ^ p more, where bit p is 0, stays below 2 ^ n
sum_below : (a p n : ℕ) → p < n → a < 2 ^ n → bit a p ≡ 0 → a + 2 ^ p < 2 ^ n
sum_below a p n hp ha e =
    let y = raised a p in
    let z : a / 2 ^ p < 2 ^ (n - p - 1) * 2 = (div-lt_iff_lt-mul (pow_pos p)).1 (rw (sym whole) ha) in
    rw whole ((div-lt_iff_lt-mul (pow_pos p)).0 (omega arith))
  where
    whole : 2 ^ n ≡ 2 ^ (n - p - 1) * 2 * 2 ^ p
    whole = let z : n ≡ (n - p - 1) + 1 + p = omega arith in ap (λ x. 2 ^ x) z ∙ pow-add 2 (n - p - 1 + 1) p ∙ ap (λ x. x * 2 ^ p) (pow-add 2 (n - p - 1) 1)

-- none is linked where no link is set
pub none_linked : (q : ProcessNumber) → linked no_links q ≡ false
none_linked q = ap (λ x. eqb (x % 2) 1) (zero-div (2 ^ q.0))

-- after an LL p is linked, and every other process as before
pub link_same : (links : ℕ) (p : ProcessNumber) → linked (link links p) p ≡ true
link_same links p = go (linked links p) refl
  where
    go : (b : Bool) → linked links p ≡ b → linked (cond b links (links + 2 ^ p.0)) p ≡ true
    go true e = e
    go false e = eq-eqb _ 1 (bit_same links p.0 (clear links p.0 e))

pub link_other : (links : ℕ) (p q : ProcessNumber) → (q.0 ≡ p.0 → ⊥) → linked (link links p) q ≡ linked links q
link_other links p q ne = go (linked links p) refl
  where
    go : (b : Bool) → linked links p ≡ b → linked (cond b links (links + 2 ^ p.0)) q ≡ linked links q
    go true e = refl
    go false e = ap (λ x. eqb x 1) (bit_other links p.0 q.0 ne (clear links p.0 e))

-- below 2 ^ n before, below 2 ^ n after
pub added_below : (links : ℕ) (p : ProcessNumber) (n : ℕ) → p.0 < n → links < 2 ^ n → linked links p ≡ false → links + 2 ^ p.0 < 2 ^ n
added_below links p n hp h e = sum_below links p.0 n hp h (clear links p.0 e)

pub link_below : (links : ℕ) (p : ProcessNumber) (n : ℕ) → p.0 < n → links < 2 ^ n → link links p < 2 ^ n
link_below links p n hp h = go (linked links p) refl
  where
    go : (b : Bool) → linked links p ≡ b → cond b links (links + 2 ^ p.0) < 2 ^ n
    go true e = h
    go false e = added_below links p n hp h e

-- row 9's test of links: below 2 ^ n means that no process from n on is linked
pub below_none : (links n : ℕ) → links < 2 ^ n → (q : ProcessNumber) → n ≤ q.0 → linked links q ≡ false
below_none links n h q hq = ap (λ x. eqb (x % 2) 1) (div-eq_of_lt (lt_of_lt_of_le h (pow_mono hq)))

pub none_below : (links n : ℕ) → ((q : ProcessNumber) → n ≤ q.0 → linked links q ≡ false) → links < 2 ^ n
none_below links n none = down links (lt_of_lt_of_le (lt_power links) (pow_mono (omega arith)))
  where
    -- a bit that is 0 can be left off at the top
    down : (k : ℕ) → links < 2 ^ (n + k) → links < 2 ^ n
    down zero h = subst (λ i. links < 2 ^ i) (add-zero n) h
    down (suc k) h =
        let top : links / 2 ^ (n + k) < 2 = shr_lt 1 (n + k) (let z : n + suc k ≡ 1 + (n + k) = omega arith in rw (sym z) h) in
        let e = clear links (n + k) (none (record { 0 = n + k }) (omega arith)) in
        down k (let z : links < 1 * 2 ^ (n + k) = (div-lt_iff_lt-mul (pow_pos (n + k))).0 (omega arith) in omega arith)

-- `1 << k` at w bits
pub one_shifted : (k w : ℕ) → k < w → (1 * 2 ^ k) % 2 ^ w ≡ 2 ^ k
one_shifted k w h = shl_exact {a = 1} 1 k w (lit< tt) (omega arith) ∙ one-mul (2 ^ k)
