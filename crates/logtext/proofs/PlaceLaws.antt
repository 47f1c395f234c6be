-- Byte after byte up to a place.
use mathlib.Core.Path.{◌≡◌, refl, sym, ap, ap₂, ◌∙◌}
use Prim.Native.Nat.{ℕ, suc, ◌+◌, ◌-◌, ◌≤◌, ◌<◌}
use mathlib.Core.List.{List, [], ◌∷◌}
use mathlib.Core.Bool.{Bool, true, false, not, ◌&&◌, cond}
use native.Mathlib.Omega.{arith}
use native.Mathlib.Numerals.{add-one}
use lib.Dec.{eqb, ltb}
use lib.ListN.{length, get_or, drop, drop_of_length-le}
use lib.Seq.{drop-cons}
use borrow.Author.Tests.{eq-eqb, ne_eqb, ltb-false}
use Rattle.std.specs.Prelude.{Some, None, unwrap_or, position}
use Rattle.std.specs.List.{position_or_len}
use Rattle.std.proofs.lemmas.List.Sums.{prefix_len-le-length}
use Rattle.logtext.specs.Numbers.{is_digit}
use Rattle.logtext.specs.Places.{passed, place_from, place_of, is_stray, stray_place}

-- what is left of the text leads to the same place
pub record PlaceInv (text : List ℕ) (index i left : ℕ) (inside : Bool) : Type 0 where
  pub low : i ≤ length text
  pub same : i + place_from left inside (drop i text) ≡ place_of index text

module _ (text : List ℕ) (index i left : ℕ) (inside : Bool) (v : PlaceInv text index i left inside) where
  module _ (h : i < length text) (digit : Bool) (ed : digit ≡ is_digit (get_or text i 0)) where
    -- what the byte leads to, were it a number's first as the truth says
    abbrev leads : Bool → ℕ
    leads first = cond (first && eqb left 0) 0 (suc (place_from (passed first left) digit (drop (suc i) text)))

    one : {first : Bool} → (digit && not inside) ≡ first → place_from left inside (drop i text) ≡ leads first
    unfolding place_from
    one {first} e =
        ap (place_from left inside) (drop-cons text i 0 h)
        ∙ ap (λ d. cond ((d && not inside) && eqb left 0) 0 (suc (place_from (passed (d && not inside) left) d (drop (suc i) text)))) (sym ed)
        ∙ ap leads e

    further : {first : Bool} (k : ℕ) (d : Bool) → (digit && not inside) ≡ first → (first && eqb left 0) ≡ false → k ≡ passed first left
        → d ≡ digit → PlaceInv text index (i + 1) k d
    further {first} k d e more ek same =
        let next = place_from (passed first left) digit (drop (suc i) text) in
        let z = one e ∙ ap (λ l. cond l 0 (suc next)) more in let y = v.same in
        let x : place_from k d (drop (i + 1) text) ≡ next =
        ap₂ (λ k d. place_from k d (drop (i + 1) text)) ek same
        ∙ ap (λ j. place_from (passed first left) digit (drop j text)) (add-one i) in
        record { low = omega arith; same = omega (arith, z, y, x) }

    pub place_stop : digit ≡ true → inside ≡ false → left ≡ 0 → i ≡ place_of index text
    place_stop e n l =
        let next = place_from (left - 1) digit (drop (suc i) text) in
        let z = one (ap₂ (λ d s. d && not s) e n) ∙ ap (λ l. cond l 0 (suc next)) (eq-eqb left 0 l) in
        let y = v.same in omega (arith, z, y)

    pub place_first : digit ≡ true → inside ≡ false → (left ≡ 0 → ⊥) → (k : ℕ) (d : Bool) → k ≡ left - 1 → d ≡ digit
        → PlaceInv text index (i + 1) k d
    place_first e n l k d ek = further k d (ap₂ (λ d s. d && not s) e n) (ne_eqb left 0 l) ek

    pub place_other : (digit && not inside) ≡ false → (k : ℕ) (d : Bool) → k ≡ left → d ≡ digit → PlaceInv text index (i + 1) k d
    place_other e k d ek = further k d e refl ek

  pub place_end : length text ≤ i → length text ≡ place_of index text
  unfolding place_from
  place_end h =
      let z : place_from left inside (drop i text) ≡ 0 = ap (place_from left inside) (drop_of_length-le text {i = i} h) in
      let y = v.same in omega (arith, z, y, v.low)

-- the first byte that is in no number, as the library looks for it
first_stray : (text : List ℕ) → position_or_len is_stray text ≡ stray_place text
unfolding stray_place
first_stray [] = refl
first_stray (b ∷ bs) = go (is_stray b) (first_stray bs)
  where
    go : (t : Bool) → position_or_len is_stray bs ≡ stray_place bs
        → cond (not t) (1 + position_or_len is_stray bs) 0 ≡ cond t 0 (suc (stray_place bs))
    go true e = refl
    go false e = omega (arith, e)

pub stray_found : (text : List ℕ) → unwrap_or (position is_stray text) (length text) ≡ stray_place text
stray_found text =
    let within : position_or_len is_stray text ≤ length text = prefix_len-le-length (λ b. not (is_stray b)) text in
    let n = position_or_len is_stray text in
    go (ltb n (length text)) refl within ∙ first_stray text
  where
    go : {n l : ℕ} (t : Bool) → ltb n l ≡ t → n ≤ l → unwrap_or (cond t (Some n) None) l ≡ n
    go true e h = refl
    go {n} {l} false e h = let z = ltb-false n l e in omega (arith, z)
