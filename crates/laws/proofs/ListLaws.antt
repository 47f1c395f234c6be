-- Laws on lists that the loops cite.
use mathlib.Core.Path.{◌≡◌, refl, ap, sym, ◌∙◌}
use mathlib.Core.List.{List, [], ◌∷◌, ◌++◌}
use mathlib.Core.Bool.{Bool, true, ◌&&◌}
use Prim.Native.Nat.{ℕ, zero, suc, ◌+◌, ◌<◌}
use native.Mathlib.Nat.{add-zero, add-suc, suc-add, le_of_suc-le-suc, not-suc-le-zero}
use lib.ListN.{length, get_or, set, replicate, length-replicate, replicate-append-replicate}
use lib.Seq.{sets}
use Rattle.std.specs.List.{list_all}
use Rattle.llsc.specs.Rows.{every}
use Rattle.laws.proofs.AndLaws.{left, right}

module _ {ℓ} {A : Type ℓ} where
  -- what holds of every element holds of the one at i
  pub every_at : (f : A → Bool) (l : List A) (i : ℕ) (d : A) → every f l ≡ true → i < length l → f (get_or l i d) ≡ true
  every_at f [] i d e h = absurd (not-suc-le-zero h)
  every_at f (a ∷ l) zero d e h = left (f a) (every f l) e
  every_at f (a ∷ l) (suc i) d e h = every_at f l i d (right (f a) (every f l) e) (le_of_suc-le-suc h)

  -- stores one run after another
  pub sets_append : (l : List A) (i : ℕ) (vs us : List A) → sets l i (vs ++ us) ≡ sets (sets l i vs) (i + length vs) us
  sets_append l i [] us = ap (λ (k : ℕ). sets l k us) (sym (add-zero i))
  sets_append l i (a ∷ vs) us = sets_append (set l i a) (suc i) vs us ∙ ap (λ (k : ℕ). sets (sets (set l i a) (suc i) vs) k us) (suc-add i (length vs) ∙ sym (add-suc i (length vs)))

  pub replicate_next : (n : ℕ) (a : A) → replicate (n + 1) a ≡ replicate n a ++ (a ∷ [])
  replicate_next n a = sym (replicate-append-replicate n 1 a)

  pub sets_replicate : (l : List A) (i n : ℕ) (a : A) → sets l i (replicate (n + 1) a) ≡ set (sets l i (replicate n a)) (i + n) a
  sets_replicate l i n a = rw (replicate_next n a, sets_append l i (replicate n a) (a ∷ []), length-replicate n a)

-- what an iterator's `all` finds
pub every_is_all : {A : Type 0} (f : A → Bool) (l : List A) → list_all f l ≡ every f l
every_is_all f [] = refl
every_is_all f (a ∷ l) = ap (λ b. f a && b) (every_is_all f l)
