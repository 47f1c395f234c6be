-- Laws of kinds of bytes.
use Prim.Native.Nat.{ℕ, ◌+◌, ◌*◌, ◌≤◌, ◌<◌}
use mathlib.Core.Path.{◌≡◌, refl, sym, ap, subst, ◌∙◌}
use mathlib.Core.List.{List, [], ◌∷◌}
use mathlib.Core.Bool.{Bool, true, false, cond, true≢false}
use native.Mathlib.Omega.{arith}
use borrow.Author.Tests.{leb-true, le-leb, eqb-true, eqb-false, ne_eqb}
use lib.Dec.{eqb, leb}
use Rattle.listing.specs.Quoted.{byte}
use Rattle.notation.specs.declared.Mark.{Mark}
use Rattle.notation.specs.declared.Mark.TheVariants.{Ll, Vl, One, All}
use Rattle.notation.specs.declared.Kind.{Kind}
use Rattle.notation.specs.declared.Kind.TheVariants.{Digit, Gap, Marked, Offer, Open, Close, Other}
use Rattle.notation.specs.declared.Entry.TheVariants.{StartSc}
use Rattle.std.specs.Prelude.{Err}
use Rattle.notation.specs.Bytes.{kind_of, is_digit, is_gap}
use Rattle.notation.specs.Grammar.{largest, digit_ok}
use Rattle.notation.specs.Scan.{between, offer, offer_num, done, bad, move, said}
use Rattle.notation.specs.Readers.{Signed, After, behind_of}

-- a choice has a property where both arms have it
pub either {ℓ} : {A : Type ℓ} (P : A → Type 0) (t : Bool) (a b : A) → (t ≡ true → P a) → (t ≡ false → P b) → P (cond t a b)
either P true a b f g = f refl
either P false a b f g = g refl

-- a digit is at most 9
abbrev digit_of : Kind → ℕ
digit_of (Digit d) = d
digit_of Gap = 0
digit_of (Marked m) = 0
digit_of Offer = 0
digit_of Open = 0
digit_of Close = 0
digit_of Other = 0

abbrev P : Kind → Type 0
P k = digit_of k ≤ 9

small : (b : ℕ) → digit_of (kind_of b) ≤ 9
unfolding kind_of
small b =
    either P (leb 48 b) _ _
    (λ e. either P (leb b 57) _ _ (λ e₂. omega (arith, leb-true b 57 e₂))
    (λ _. either P (eqb b 108) _ _ zero₁ (λ _. either P (eqb b 118) _ _ zero₁ (λ _. either P (eqb b 115) _ _ zero₁ zero₁))))
    (λ e. either P (eqb b 32) _ _ zero₁ (λ _. either P (eqb b 10) _ _ zero₁ (λ _. either P (eqb b 46) _ _ zero₁
    (λ _. either P (eqb b 33) _ _ zero₁ (λ _. either P (eqb b 40) _ _ zero₁ (λ _. either P (eqb b 41) _ _ zero₁ zero₁))))))
  where
    zero₁ : {A : Type 0} → A → 0 ≤ 9
    zero₁ _ = omega arith

pub digit_small : (b d : ℕ) → kind_of b ≡ Digit d → d ≤ 9
digit_small b d e = subst (λ (k : Kind). digit_of k ≤ 9) e (small b)

-- the byte of each kind that has one
abbrev mark_byte : Mark → ℕ
mark_byte Ll = byte "l"
mark_byte Vl = byte "v"
mark_byte One = byte "."
mark_byte All = byte "!"

abbrev Told : ℕ → Kind → Type 0
Told b (Digit d) = b ≡ 48 + d
Told b Gap = Unit {0}
Told b (Marked m) = b ≡ mark_byte m
Told b Offer = b ≡ byte "s"
Told b Open = b ≡ byte "("
Told b Close = b ≡ byte ")"
Told b Other = Unit {0}

told : (b : ℕ) → Told b (kind_of b)
unfolding kind_of
told b =
    either T (leb 48 b) _ _
    (λ e. either T (leb b 57) _ _ (λ _. omega (arith, leb-true 48 b e))
    (λ _. either T (eqb b 108) _ _ (eqb-true b 108) (λ _. either T (eqb b 118) _ _ (eqb-true b 118) (λ _. either T (eqb b 115) _ _ (eqb-true b 115) (λ _. tt)))))
    (λ e. either T (eqb b 32) _ _ (λ _. tt) (λ _. either T (eqb b 10) _ _ (λ _. tt) (λ _. either T (eqb b 46) _ _ (eqb-true b 46)
    (λ _. either T (eqb b 33) _ _ (eqb-true b 33) (λ _. either T (eqb b 40) _ _ (eqb-true b 40) (λ _. either T (eqb b 41) _ _ (eqb-true b 41) (λ _. tt)))))))
  where
    T : Kind → Type 0
    T k = Told b k

pub byte_of : {k : Kind} (b : ℕ) → kind_of b ≡ k → Told b k
byte_of b e = subst (Told b) e (told b)

-- a test that a number is not 0, and of something else
pub unless_zero : (n : ℕ) (t : Bool) → cond (eqb n 0) false t ≡ true → (0 < n) × (t ≡ true)
unless_zero n t h = pick (eqb n 0) refl
  where
    same : (x : Bool) → eqb n 0 ≡ x → cond x false t ≡ true
    same x e = ap (λ (y : Bool). cond y false t) (sym e) ∙ h

    pick : (x : Bool) → eqb n 0 ≡ x → (0 < n) × (t ≡ true)
    pick true e = absurd (true≢false (sym (same true e)))
    pick false e = (omega (arith, eqb-false n 0 e), same false e)

-- a digit that may follow digits of value v
pub ok_some : (v d : ℕ) → digit_ok v d ≡ true → 0 < v
ok_some v d h = (unless_zero v (leb (v * 10 + d) largest) h).0

pub ok_small : (v d : ℕ) → digit_ok v d ≡ true → v * 10 + d ≤ largest
ok_small v d h = leb-true (v * 10 + d) largest (unless_zero v (leb (v * 10 + d) largest) h).1

pub ok : (v d : ℕ) → 0 < v → v * 10 + d ≤ largest → digit_ok v d ≡ true
ok v d p h = simp (ne_eqb v 0 (λ z. omega arith), le-leb _ _ h)

-- what is bad before an item
pub between_not : (k : Kind) → is_digit k ≡ false → is_gap k ≡ false → move (between false) k ≡ bad
unfolding move
between_not (Digit d) h g = absurd (true≢false h)
between_not Gap h g = absurd (true≢false g)
between_not (Marked m) h g = refl
between_not Offer h g = refl
between_not Open h g = refl
between_not Close h g = refl
between_not Other h g = refl

-- in the number of an `s`, at its first byte
pub offer_not : (p : ℕ) (k : Kind) → is_digit k ≡ false → move (offer p) k ≡ bad
unfolding move
offer_not p (Digit d) h = absurd (true≢false h)
offer_not p Gap h = refl
offer_not p (Marked m) h = refl
offer_not p Offer h = refl
offer_not p Open h = refl
offer_not p Close h = refl
offer_not p Other h = refl

-- after a number that is no item by itself: neither a mark nor `s` nor `(`
pub unsigned : (s : List ℕ) (v place : ℕ) (k : Kind) → ((m : Mark) → k ≡ Marked m → ⊥) → (k ≡ Offer → ⊥) → (k ≡ Open → ⊥)
    → Signed s v place k (Err place)
unsigned s v place (Digit d) m o p = refl
unsigned s v place Gap m o p = refl
unsigned s v place (Marked x) m o p = absurd (m x refl)
unsigned s v place Offer m o p = absurd (o refl)
unsigned s v place Open m o p = absurd (p refl)
unsigned s v place Close m o p = refl
unsigned s v place Other m o p = refl

-- right after an item, neither a gap nor a `)`
pub stray : (s : List ℕ) (at : ℕ) (k : Kind) → (k ≡ Gap → ⊥) → (k ≡ Close → ⊥) → After s at k (Err at)
stray s at (Digit d) g c = refl
stray s at Gap g c = absurd (g refl)
stray s at (Marked m) g c = refl
stray s at Offer g c = refl
stray s at Open g c = refl
stray s at Close g c = absurd (c refl)
stray s at Other g c = refl

-- behind gaps, neither a digit nor a `)`
pub gap_stray : (next : ℕ) (k : Kind) → ((d : ℕ) → k ≡ Digit d → ⊥) → (k ≡ Close → ⊥) → Err next ≡ behind_of next k
gap_stray next (Digit d) n c = absurd (n d refl)
gap_stray next Gap n c = refl
gap_stray next (Marked m) n c = refl
gap_stray next Offer n c = refl
gap_stray next Open n c = refl
gap_stray next Close n c = absurd (c refl)
gap_stray next Other n c = refl

-- the number of an `s` ends at a byte that is no digit
pub offer_move : (p v : ℕ) (k : Kind) → is_digit k ≡ false → (move (offer_num p v) k ≡ move done k) × (said (offer_num p v) k ≡ StartSc p v ∷ [])
unfolding move said
offer_move p v (Digit d) h = absurd (true≢false h)
offer_move p v Gap h = (refl, refl)
offer_move p v (Marked m) h = (refl, refl)
offer_move p v Offer h = (refl, refl)
offer_move p v Open h = (refl, refl)
offer_move p v Close h = (refl, refl)
offer_move p v Other h = (refl, refl)
