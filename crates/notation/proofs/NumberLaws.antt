-- Laws of numbers: the digits of a number are the decimal ones of its value, and what a reader passes are digits.
use Prim.Native.Nat.{ℕ, zero, suc, ◌+◌, ◌-◌, ◌*◌, ◌/◌, ◌%◌, ◌≤◌, ◌<◌}
use mathlib.Core.Path.{◌≡◌, refl, sym, ap, subst, ◌∙◌}
use mathlib.Core.List.{List, [], ◌∷◌, ◌++◌}
use mathlib.Core.Bool.{Bool, true, false}
use native.Mathlib.Omega.{arith}
use native.Mathlib.Numerals.{add-one}
use borrow.Author.Tests.{ltb-true, ltb-false, le-leb}
use lib.Dec.{ltb}
use lib.ListN.{length, get_or, take, drop, take-append-drop}
use lib.Seq.{slice, slice_empty, take-suc, take-take, length-take-le, drop-append-le}
use Rattle.listing.specs.Decimal.{decimal}
use Rattle.listing.proofs.DecimalLaws.{one_digit, last_digit}
use Rattle.notation.specs.declared.Kind.TheVariants.{Digit}
use Rattle.notation.specs.Bytes.{kind_of}
use Rattle.notation.specs.Grammar as G
use Rattle.notation.specs.Grammar.{Number, largest, digit_ok}
use Rattle.notation.specs.Readers.{Counts, still, digit}
use Rattle.notation.proofs.KindLaws.{byte_of, digit_small, ok, ok_some, ok_small}

-- below, or the same
pub below_or : (P : Type 0) (i n : ℕ) → i < n + 1 → (i < n → P) → (i ≡ n → P) → P
below_or P i n h f g = pick (ltb i n) refl
  where
    pick : (t : Bool) → ltb i n ≡ t → P
    pick true e = f (ltb-true i n e)
    pick false e = g (omega (arith, ltb-false i n e))

-- one digit more, written
decimal_more : (v d : ℕ) → d ≤ 9 → digit_ok v d ≡ true → decimal (v * 10 + d) ≡ decimal v ++ (48 + d) ∷ []
decimal_more v d h ok =
    let front : (v * 10 + d) / 10 ≡ v = omega arith in
    let last : (v * 10 + d) % 10 ≡ d = omega arith in
    last_digit (v * 10 + d) (omega (arith, ok_some v d ok)) (omega (arith, ok_small v d ok))
    ∙ ap (λ (x : ℕ). decimal x ++ (48 + (v * 10 + d) % 10) ∷ []) front ∙ ap (λ (x : ℕ). decimal v ++ (48 + x) ∷ []) last

-- the digits of a number are the only ones for its value
pub number_only : {ds : List ℕ} {v : ℕ} → Number ds v → ds ≡ decimal v
number_only (G.digit {c = c} {d = d} e) = ap (λ (x : ℕ). x ∷ []) (byte_of c e.is) ∙ sym (one_digit d (omega (arith, digit_small c d e.is)))
number_only (G.more {ds = ds} {v = v} {c = c} {d = d} n e ok) =
    ap (λ (x : List ℕ). x ++ c ∷ []) (number_only n) ∙ ap (λ (x : ℕ). decimal v ++ x ∷ []) (byte_of c e.is)
    ∙ sym (decimal_more v d (digit_small c d e.is) ok)

-- and every value has some
digit_byte : (d : ℕ) → d ≤ 9 → kind_of (48 + d) ≡ Digit d
unfolding kind_of
digit_byte d h =
    let less : 48 + d - 48 ≡ d = omega arith in
    simp (le-leb 48 (48 + d) (omega arith), le-leb (48 + d) 57 (omega arith), less)

digits_below : (f v : ℕ) → v < f → v ≤ largest → Number (decimal v) v
digits_below zero v h l = absurd (omega arith)
digits_below (suc f) v h l = pick (ltb v 10) refl (λ p. digits_below f (v / 10) (omega arith) (omega arith))
  where
    pick : (t : Bool) → ltb v 10 ≡ t → (10 ≤ v → Number (decimal (v / 10)) (v / 10)) → Number (decimal v) v
    pick true e front =
        let small = ltb-true v 10 e in
        subst (λ (x : List ℕ). Number x v) (sym (one_digit v small)) (G.digit (record { is = digit_byte v (omega arith) }))
    pick false e front =
        let big = ltb-false v 10 e in
        let whole : v / 10 * 10 + v % 10 ≡ v = omega arith in
        let last = ok (v / 10) (v % 10) (omega arith) (omega arith) in
        subst (λ (x : List ℕ). Number x v) (sym (last_digit v big (omega arith)))
        (subst (Number (decimal (v / 10) ++ (48 + v % 10) ∷ [])) whole (G.more (front big) (record { is = digit_byte (v % 10) (omega arith) }) last))

pub digits_of : (v : ℕ) → v ≤ largest → Number (decimal v) v
digits_of v l = digits_below (suc v) v (omega arith) l

-- one byte more of a part of a text
pub slice_more : (s : List ℕ) (at next : ℕ) → at ≤ next → next < length s → slice at (next + 1) s ≡ slice at next s ++ get_or s next 0 ∷ []
slice_more s at next h l =
    ap (drop at) (ap (λ (x : ℕ). take x s) (add-one next) ∙ take-suc s next 0 l)
    ∙ drop-append-le at (take next s) (get_or s next 0 ∷ []) (omega (arith, length-take-le next s (omega arith)))

-- a part in two parts
pub slice_join : (s : List ℕ) (a b c : ℕ) → a ≤ b → b ≤ c → c ≤ length s → slice a c s ≡ slice a b s ++ slice b c s
slice_join s a b c h k l =
    ap (drop a) (sym (take-append-drop b (take c s)) ∙ ap (λ (x : List ℕ). x ++ drop b (take c s)) (take-take b c s k))
    ∙ drop-append-le a (take b s) (drop b (take c s)) (omega (arith, length-take-le b s (omega arith)))

-- the digits that a reader passes are those of a number
pub counts_on : {s : List ℕ} {at v next v' : ℕ} → Counts s at v next v' → at ≤ next
counts_on still = omega arith
counts_on (digit c l e ok) = omega (arith, counts_on c)

counts_number : {s : List ℕ} {at v next v' : ℕ} (from : ℕ) → from ≤ at → Number (slice from at s) v → Counts s at v next v' → Number (slice from next s) v'
counts_number from h n still = n
counts_number {s} from h n (digit {next = next} {v' = v'} {d = d} c l e ok) =
    subst (λ (x : List ℕ). Number x (v' * 10 + d)) (sym (slice_more s from next (omega (arith, counts_on c)) l))
    (G.more (counts_number from h n c) (record { is = e }) ok)

pub number_slice : {s : List ℕ} {at d next v : ℕ} → at < length s → kind_of (get_or s at 0) ≡ Digit d → Counts s (at + 1) d next v → Number (slice at next s) v
number_slice {s} {at} {d} h e c =
    let one : slice at (at + 1) s ≡ get_or s at 0 ∷ [] = slice_more s at at (omega arith) h ∙ ap (λ (x : List ℕ). x ++ get_or s at 0 ∷ []) (slice_empty at s) in
    counts_number at (omega arith) (subst (λ (x : List ℕ). Number x d) (sym one) (G.digit (record { is = e }))) c
