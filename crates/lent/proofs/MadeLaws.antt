-- What `array::from_fn` made, by a closure that a call leaves as it was.
use mathlib.Core.Path.{◌≡◌, refl, sym, subst, ◌∙◌}
use mathlib.Core.List.{List}
use mathlib.Core.Bool.{Bool, true, false}
use Prim.Native.Nat.{ℕ, zero, suc, ◌+◌, ◌<◌, ◌≤◌}
use native.Mathlib.Omega.{arith}
use lib.Dec.{eqb}
use lib.ListN.{get_or}
use borrow.Author.Tests.{eqb-true, eqb-false}
use Rattle.std.specs.Fn.{Mut, Called}
use Rattle.std.specs.Array.{IsFromFnResultFrom}

-- what holds at i and at every other place
at_place : (P : ℕ → Type 0) (i j : ℕ) (t : Bool) → eqb j i ≡ t → P i → ((j ≡ i → ⊥) → P j) → P j
at_place P i j true e here later = subst P (sym (eqb-true j i e)) here
at_place P i j false e here later = later (eqb-false j i e)

module _ {F B : Type 0} (g : Mut F (ℕ × Unit {0}) B) (h : ℕ → B) (f : F) where
  -- the element at j is the call's at j
  pub made_at : ((i : ℕ) (y : B) (q : F) → Called g f (i, tt) y q → (y ≡ h i) × (q ≡ f))
      → (ys : List B) (i n : ℕ) → IsFromFnResultFrom g f ys i n → (j : ℕ) (d : B) → i ≤ j → j < i + n → get_or ys j d ≡ h j
  made_at k ys i zero m j d a b = absurd (omega (arith, a, b))
  made_at k ys i (suc n) m j d a b =
      let c = k i m.1 m.0 m.3 in
      let rest = subst (λ p. IsFromFnResultFrom g p ys (i + 1) n) c.1 m.4 in
      at_place (λ j. get_or ys j d ≡ h j) i j (eqb j i) refl (m.2.1 d ∙ c.0)
      (λ ne. made_at k ys (i + 1) n rest j d (omega (arith, a, ne)) (omega (arith, b)))
