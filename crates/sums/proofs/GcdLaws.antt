-- Laws of Euclid's greatest common divisor, and of lowest terms.
use Prim.Native.Nat.{ℕ, zero, suc, ◌*◌, ◌/◌, ◌%◌, ◌<◌, ◌∣◌}
use mathlib.Core.Path.{◌≡◌, refl, sym, ap, subst, ◌∙◌}
use mathlib.Core.Bool.{Bool, true, false, cond}
use native.Mathlib.Omega.{arith}
use native.Mathlib.Nat.{mod-lt, dvd_refl, dvd-zero, dvd-mod_iff, dvd_of_mul-dvd-mul_right, mul-dvd-mul_right, pos_of_dvd_of_pos, div-mul_cancel, eq-one_of_dvd-one, mul_assoc, mul_right_comm, one-mul}
use borrow.Author.Tests.{eqb-true, eqb-false, ne_eqb}
use lib.Dec.{eqb}
use Rattle.sums.specs.declared.Fraction.{Fraction}
use Rattle.sums.specs.Fractions.{euclid, gcd, lowest, Lowest, none}

not_zero : (b : ℕ) → eqb b 0 ≡ false → 0 < b
not_zero zero e = absurd (eqb-false 0 0 e refl)
not_zero (suc b) e = omega arith

-- g divides both, and each common divisor divides g
pub record Greatest (a b g : ℕ) : Type 0 where
  pub first : g ∣ a
  pub second : g ∣ b
  pub most : (d : ℕ) → d ∣ a → d ∣ b → d ∣ g

zeroed : (a b : ℕ) → b ≡ 0 → Greatest a b a
zeroed a b e = record { first = dvd_refl a; second = subst (λ (x : ℕ). a ∣ x) (sym e) (dvd-zero a); most = λ d p q. p }

turned : (a b g : ℕ) → Greatest b (a % b) g → Greatest a b g
turned a b g h = record { first = (dvd-mod_iff g h.first).0 h.second; second = h.first; most = λ d p q. h.most d q ((dvd-mod_iff d q).1 p) }

-- one turn, by whether b is 0
choice : (f a b : ℕ) (t : Bool) → eqb b 0 ≡ t → (t ≡ false → Greatest b (a % b) (euclid f b (a % b))) → Greatest a b (cond t a (euclid f b (a % b)))
choice f a b true e h = zeroed a b (eqb-true b 0 e)
choice f a b false e h = turned a b (euclid f b (a % b)) (h refl)

euclid_greatest : (f a b : ℕ) → b < f → Greatest a b (euclid f a b)
unfolding euclid
euclid_greatest zero a b h = absurd (omega arith)
euclid_greatest (suc f) a b h = choice f a b (eqb b 0) refl (λ e. euclid_greatest f b (a % b) (below e))
  where
    below : eqb b 0 ≡ false → a % b < f
    below e = omega (arith, mod-lt a {m = b} (not_zero b e))

pub gcd_greatest : (a b : ℕ) → Greatest a b (gcd a b)
unfolding gcd
gcd_greatest a b = euclid_greatest (suc b) a b (omega arith)

-- the fuel does not matter
same_choice : (a b : ℕ) (t : Bool) (x y : ℕ) → (t ≡ false → x ≡ y) → cond t a x ≡ cond t a y
same_choice a b true x y h = refl
same_choice a b false x y h = h refl

fuel : (f g a b : ℕ) → b < f → b < g → euclid f a b ≡ euclid g a b
unfolding euclid
fuel zero g a b p q = absurd (omega arith)
fuel (suc f) zero a b p q = absurd (omega arith)
fuel (suc f) (suc g) a b p q =
    same_choice a b (eqb b 0) _ _
    (λ e. let r = mod-lt a {m = b} (not_zero b e) in fuel f g b (a % b) (omega (arith, r)) (omega (arith, r)))

opened : (a b : ℕ) → 0 < b → euclid (suc b) a b ≡ euclid b b (a % b)
unfolding euclid
opened a b h = simp (ne_eqb b 0 (λ e. omega arith))

pub gcd_turn : (a b : ℕ) → 0 < b → gcd a b ≡ gcd b (a % b)
unfolding gcd
gcd_turn a b h = opened a b h ∙ fuel b (suc (a % b)) b (a % b) (mod-lt a {m = b} h) (omega arith)

pub gcd_zero : (a : ℕ) → gcd a 0 ≡ a
unfolding gcd euclid
gcd_zero a = refl

pub gcd_positive : (a b : ℕ) → 0 < b → 0 < gcd a b
gcd_positive a b h = pos_of_dvd_of_pos (gcd_greatest a b).second h

-- what is left of both after the division
module _ (a b g : ℕ) (pos : 0 < g) (k : Greatest a b g) where
  overs : a / g * g ≡ a
  overs = div-mul_cancel g k.first

  unders : b / g * g ≡ b
  unders = div-mul_cancel g k.second

  crossed : a / g * b ≡ a * (b / g)
  crossed =
      ap (λ (x : ℕ). a / g * x) (sym unders) ∙ sym (mul_assoc (a / g) (b / g) g) ∙ mul_right_comm (a / g) (b / g) g
      ∙ ap (λ (x : ℕ). x * (b / g)) overs

  prime : (d : ℕ) → d ∣ a / g → d ∣ b / g → d ≡ 1
  prime d p q =
      let a_part = subst (λ (x : ℕ). d * g ∣ x) overs (mul-dvd-mul_right d p g) in
      let b_part = subst (λ (x : ℕ). d * g ∣ x) unders (mul-dvd-mul_right d q g) in
      let whole = subst (λ (x : ℕ). d * g ∣ x) (sym (one-mul g)) (k.most (d * g) a_part b_part) in
      eq-one_of_dvd-one (dvd_of_mul-dvd-mul_right {k = g} d {n = 1} pos whole)

  reduced : Lowest a b (a / g) (b / g)
  reduced = record { cross = crossed; coprime = prime }

pub lowest_is : (a b : ℕ) → 0 < b → lowest a b ≡ record { over = a / gcd a b; under = b / gcd a b }
unfolding lowest
lowest_is a b h = simp (ne_eqb b 0 (λ e. omega arith))

pub lowest_terms : (a b : ℕ) → 0 < b → Lowest a b (lowest a b).over (lowest a b).under
lowest_terms a b h =
    subst (λ (f : Fraction). Lowest a b f.over f.under) (sym (lowest_is a b h))
    (reduced a b (gcd a b) (gcd_positive a b h) (gcd_greatest a b))

pub no_calls : (a : ℕ) → lowest a 0 ≡ none
unfolding lowest
no_calls a = refl

pub ruleset dividing = (gcd_turn, gcd_zero)

pub ruleset lowering = (lowest_is, gcd_positive, no_calls)
