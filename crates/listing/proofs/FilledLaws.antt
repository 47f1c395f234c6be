-- Laws of the places into which the digits of a number go, the last digit into the last place.
use Prim.Native.Nat.{ℕ, suc, ◌+◌, ◌-◌, ◌*◌, ◌/◌, ◌≤◌, ◌<◌}
use mathlib.Core.Path.{◌≡◌, refl, sym, ap, subst, ◌∙◌}
use mathlib.Core.List.{List, ◌∷◌}
use native.Mathlib.Omega.{arith}
use native.Mathlib.Nat.{sub-zero}
use native.Mathlib.Numerals.{add-one}
use lib.ListN.{length, length-drop, length-set, take, drop, set}
use lib.Seq.{take_all, drop_at, drop-length, set_split, length-take-le}
use Rattle.listing.specs.Decimal.{decimal, tens}
use Rattle.listing.specs.Divisions.{Division, divide, divided, ReadyDigits}
use Rattle.listing.proofs.DecimalLaws.{at_most}
use Rattle.listing.proofs.DivisionLaws.{above, some, ready_digits}

pub most : (n : ℕ) → n < above → length (decimal n) ≤ 20
unfolding tens
most n l = at_most 20 n (omega arith) (omega arith)

drop_set : (places : List ℕ) (i c : ℕ) → i < length places → drop i (set places i c) ≡ c ∷ drop (suc i) places
drop_set places i c h = ap (drop i) (set_split places i c h) ∙ drop_at (take i places) (c ∷ drop (suc i) places) i (length-take-le i places (omega arith))

-- k divisions of n are done and there are more to come; what they made ready stands in the last k of m places
pub record Filled (n m k rest : ℕ) (places : List ℕ) : Type 0 where
  pub sized : length places ≡ m
  pub fits : length (decimal n) ≤ m
  pub more : k < length (decimal n)
  pub after : ◌≡◌ {A = Division} (record { rest = rest; ready = drop (m - k) places }) (divided k n)

pub filled_none : (n : ℕ) (places : List ℕ) → n < above → length (decimal n) ≤ length places → Filled n (length places) 0 n places
unfolding divided
filled_none n places l h = record {
  sized = refl;
  fits = h;
  more = some n l;
  after = ap (λ (x : List ℕ). record { rest = n; ready = x }) (ap (λ (i : ℕ). drop i places) (sub-zero (length places)) ∙ drop-length places);
}

module _ {n m k rest : ℕ} {places : List ℕ} (l : n < above) (f : Filled n m k rest places) where
  pub room : k + 1 ≤ m
  room = omega (arith, f.more, f.fits)

  -- one division more, and its digit into place i
  abbrev digit : ℕ
  digit = 48 + (rest - rest / 10 * 10)

  abbrev next : ℕ → List ℕ
  next i = set places i digit

  pub filled_sized : (i : ℕ) → length (next i) ≡ m
  filled_sized i = length-set places i digit ∙ f.sized

  module _ (i : ℕ) (e : i + (k + 1) ≡ m) where
    ready : drop i (next i) ≡ digit ∷ drop (m - k) places
    ready =
        let one : suc i ≡ m - k = omega (arith, e) in
        drop_set places i digit (omega (arith, e, f.sized)) ∙ ap (λ (j : ℕ). digit ∷ drop j places) one

    divides : ◌≡◌ {A = Division} (record { rest = rest / 10; ready = drop i (next i) }) (divided (k + 1) n)
    unfolding divided divide
    divides =
        ap (λ (x : List ℕ). record { rest = rest / 10; ready = x }) ready ∙ ap divide f.after
        ∙ ap (λ (j : ℕ). divided j n) (sym (add-one k))

    stands : ReadyDigits n (k + 1) (record { rest = rest / 10; ready = drop i (next i) })
    stands = subst (ReadyDigits n (k + 1)) (sym divides) (ready_digits n l (k + 1) (omega (arith, f.more)))

    -- digits are left
    pub filled_more : (rest / 10 ≡ 0 → ⊥) → Filled n m (k + 1) (rest / 10) (next i)
    filled_more h = record {
      sized = filled_sized i;
      fits = f.fits;
      more = omega (arith, f.more, not_all);
      after = ap (λ (j : ℕ). record { rest = rest / 10; ready = drop j (next i) }) from ∙ divides;
    }
      where
        not_all : k + 1 ≡ length (decimal n) → ⊥
        not_all z = h (stands.nothing z)

        from : m - (k + 1) ≡ i
        from = omega (arith, e)

    -- or all stand ready
    all_ready : rest / 10 ≡ 0 → take (m - i) (drop i (next i)) ≡ decimal n
    all_ready h =
        let none : length (decimal n) - (k + 1) ≡ 0 = omega (arith, stands.whole (omega arith) h) in
        let long : length (drop i (next i)) ≤ m - i = omega (arith, length-drop i (next i), filled_sized i) in
        take_all (m - i) (drop i (next i)) long ∙ stands.last ∙ ap (λ (x : ℕ). drop x (decimal n)) none

  pub filled_all : rest / 10 ≡ 0 → take (m - (m - (k + 1))) (drop (m - (k + 1)) (next (m - (k + 1)))) ≡ decimal n
  filled_all = all_ready (m - (k + 1)) (omega (arith, room))
