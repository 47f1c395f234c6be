-- The gathered records are the lent ones, as far as N needs.
use mathlib.Core.Path.{◌≡◌, refl, sym, ◌∙◌}
use mathlib.Core.List.{List, [], ◌∷◌}
use mathlib.Core.Bool.{Bool, true, false}
use Prim.Native.Nat.{ℕ, zero, suc, ◌<◌, ◌≤◌}
use native.Mathlib.Omega.{arith}
use native.Mathlib.Nat.{not-suc-le-zero}
use lib.Dec.{eqb}
use lib.ListN.{length, get_or, set, take, length-set, length-take, length-replicate}
use lib.Seq.{get_or-set_same, get_or-set_other, get_or-take, ext_get_or}
use borrow.Author.Tests.{eqb-true, eqb-false}
use Rattle.lent.specs.Gathered.{gathered}

module _ {A : Type 0} where
  pub gathered_length : (l : List A) (e : A) (i : ℕ) → length (gathered l e i) ≡ 16
  unfolding gathered
  gathered_length l e zero = length-replicate 16 e
  gathered_length l e (suc i) = length-set (gathered l e i) i (get_or l i e) ∙ gathered_length l e i

  -- an element of a list, whatever stands past its end
  pub same_element : (l : List A) (i : ℕ) (d e : A) → i < length l → get_or l i e ≡ get_or l i d
  same_element [] i d e h = absurd (not-suc-le-zero h)
  same_element (x ∷ l) zero d e h = refl
  same_element (x ∷ l) (suc i) d e h = same_element l i d e (omega arith)

  -- one element more, the filler where there are fewer
  one_here : (l g : List A) (e : A) (i j : ℕ) (t : Bool) → eqb j i ≡ t → i < length g
      → (j < i → get_or g j e ≡ get_or l j e) → j < suc i → get_or (set g i (get_or l i e)) j e ≡ get_or l j e
  one_here l g e i j true q h f k = let s : j ≡ i = eqb-true j i q in rw s (get_or-set_same g i (get_or l i e) e h)
  one_here l g e i j false q h f k = let ne = eqb-false j i q in get_or-set_other g i j (get_or l i e) e ne ∙ f (omega (arith, ne))

  pub gathered_here : (l : List A) (e : A) (i j : ℕ) → i ≤ 16 → j < i → get_or (gathered l e i) j e ≡ get_or l j e
  unfolding gathered
  gathered_here l e zero j h k = absurd (not-suc-le-zero k)
  gathered_here l e (suc i) j h k = one_here l (gathered l e i) e i j (eqb j i) refl (omega (arith, gathered_length l e i)) (λ s. gathered_here l e i j (omega arith) s) k

  -- an element that is lent, whatever stands past the end
  pub gathered_at : (l : List A) (d e : A) (i j : ℕ) → i ≤ 16 → j < i → j < length l → get_or (gathered l e i) j d ≡ get_or l j d
  gathered_at l d e i j h k n =
      sym (same_element (gathered l e i) j d e (omega (arith, gathered_length l e i))) ∙ gathered_here l e i j h k
      ∙ same_element l j d e n

  pub gathered_take : (l : List A) (d e : A) (n : ℕ) → n ≤ 16 → n ≤ length l → take n (gathered l e 16) ≡ take n l
  gathered_take l d e n h k =
      ext_get_or d (take n (gathered l e 16)) (take n l)
      (simp (length-take, gathered_length) (omega arith))
      (λ i s. let t : i < n = omega (arith, length-take n (gathered l e 16)) in
      get_or-take n (gathered l e 16) i d t ∙ gathered_at l d e 16 i (omega arith) (omega arith) (omega arith) ∙ sym (get_or-take n l i d t))

  -- a list of sixteen that has l's elements, and e where l has none, is l gathered
  pub gathered_is : (l : List A) (e : A) (ys : List A) → length ys ≡ 16 → ((j : ℕ) → j < 16 → get_or ys j e ≡ get_or l j e) → ys ≡ gathered l e 16
  gathered_is l e ys n f =
      ext_get_or e ys (gathered l e 16) (n ∙ sym (gathered_length l e 16))
      (λ j s. let t : j < 16 = omega arith in f j t ∙ sym (gathered_here l e 16 j (omega arith) t))
