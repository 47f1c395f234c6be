-- What holds of every element of a list, of one of them, and of each two; and what tests over lists say of it.
use mathlib.Core.Path.{◌≡◌, refl, ap, ap₂}
use mathlib.Core.Bool.{Bool, true, false, ◌&&◌, ◌||◌}
use mathlib.Core.List.{List, [], ◌∷◌, ◌++◌, map}
use Rattle.llsc.specs.Rows.{every, some}
use Rattle.llsc.specs.Linearizable.{All}
use Rattle.laws.specs.Lists.{Any, here, there, Pairs}
use Rattle.laws.proofs.AndLaws.{left, right}

pub and_both : {a b : Bool} → a ≡ true → b ≡ true → (a && b) ≡ true
and_both e f = ap₂ ◌&&◌ e f

pub or_left : {a : Bool} (b : Bool) → a ≡ true → (a || b) ≡ true
or_left b e = ap (λ t. t || b) e

pub or_right : (a : Bool) {b : Bool} → b ≡ true → (a || b) ≡ true
or_right true e = refl
or_right false e = e

pub or_none : (a b : Bool) → (a || b) ≡ false → (a ≡ false) × (b ≡ false)
or_none true b e = (e, cc)
or_none false b e = (refl, e)

module _ {A : Type 0} where
  pub all_of : (P Q : A → Type 0) → ((a : A) → P a → Q a) → (xs : List A) → All P xs → All Q xs
  all_of P Q f [] a = tt
  all_of P Q f (x ∷ xs) a = (f x a.0, all_of P Q f xs a.1)

  pub all_both : (P Q : A → Type 0) (xs : List A) → All P xs → All Q xs → All (λ a. P a × Q a) xs
  all_both P Q [] a b = tt
  all_both P Q (x ∷ xs) a b = ((a.0, b.0), all_both P Q xs a.1 b.1)

  pub all_join : (P : A → Type 0) (xs ys : List A) → All P xs → All P ys → All P (xs ++ ys)
  all_join P [] ys a b = b
  all_join P (x ∷ xs) ys a b = (a.0, all_join P xs ys a.1 b)

  pub all_every : (f : A → Bool) (xs : List A) → All (λ a. f a ≡ true) xs → every f xs ≡ true
  all_every f [] a = refl
  all_every f (x ∷ xs) a = and_both a.0 (all_every f xs a.1)

  pub every_all : (f : A → Bool) (xs : List A) → every f xs ≡ true → All (λ a. f a ≡ true) xs
  every_all f [] e = tt
  every_all f (x ∷ xs) e = (left (f x) _ e, every_all f xs (right (f x) _ e))

  pub all_none : (f : A → Bool) (xs : List A) → All (λ a. f a ≡ false) xs → some f xs ≡ false
  all_none f [] a = refl
  all_none f (x ∷ xs) a = ap₂ ◌||◌ a.0 (all_none f xs a.1)

  pub none_all : (f : A → Bool) (xs : List A) → some f xs ≡ false → All (λ a. f a ≡ false) xs
  none_all f [] e = tt
  none_all f (x ∷ xs) e = let z = or_none (f x) _ e in (z.0, none_all f xs z.1)

  pub any_of : (P Q : A → Type 0) → ((a : A) → P a → Q a) → {xs : List A} → Any P xs → Any Q xs
  any_of P Q f (here {x} p) = here (f x p)
  any_of P Q f (there a) = there (any_of P Q f a)

  pub all_any : (P Q : A → Type 0) {xs : List A} → All P xs → Any Q xs → Any (λ a. P a × Q a) xs
  all_any P Q a (here q) = here (a.0, q)
  all_any P Q a (there b) = there (all_any P Q a.1 b)

  pub any_some : (f : A → Bool) {xs : List A} → Any (λ a. f a ≡ true) xs → some f xs ≡ true
  any_some f (here {x} {xs} p) = or_left (some f xs) p
  any_some f (there {x} {xs} a) = or_right (f x) (any_some f a)

  pub pairs_of : (R S : A → A → Type 0) → ((a b : A) → R a b → S a b) → (xs : List A) → Pairs R xs → Pairs S xs
  pairs_of R S f [] p = tt
  pairs_of R S f (x ∷ xs) p = (all_of (R x) (S x) (f x) xs p.0, pairs_of R S f xs p.1)

-- along a map
module _ {A B : Type 0} (f : A → B) where
  pub all_map : (P : B → Type 0) (xs : List A) → All (λ a. P (f a)) xs → All P (map f xs)
  all_map P [] a = tt
  all_map P (x ∷ xs) a = (a.0, all_map P xs a.1)

  pub map_all : (P : B → Type 0) (xs : List A) → All P (map f xs) → All (λ a. P (f a)) xs
  map_all P [] a = tt
  map_all P (x ∷ xs) a = (a.0, map_all P xs a.1)

  pub pairs_map : (R : B → B → Type 0) (xs : List A) → Pairs (λ a b. R (f a) (f b)) xs → Pairs R (map f xs)
  pairs_map R [] p = tt
  pairs_map R (x ∷ xs) p = (all_map (R (f x)) xs p.0, pairs_map R xs p.1)

  pub map_pairs : (R : B → B → Type 0) (xs : List A) → Pairs R (map f xs) → Pairs (λ a b. R (f a) (f b)) xs
  map_pairs R [] p = tt
  map_pairs R (x ∷ xs) p = (map_all (R (f x)) xs p.0, map_pairs R xs p.1)

  pub any_map : (P : B → Type 0) {xs : List A} → Any (λ a. P (f a)) xs → Any P (map f xs)
  any_map P (here p) = here p
  any_map P (there a) = there (any_map P a)

  pub map_any : (P : B → Type 0) (xs : List A) → Any P (map f xs) → Any (λ a. P (f a)) xs
  map_any P [] a = absurd (elim a [ ])
  map_any P (x ∷ xs) (here p) = here p
  map_any P (x ∷ xs) (there a) = there (map_any P xs a)

-- one map after another
pub map_map : {A B C : Type 0} (f : B → C) (g : A → B) (xs : List A) → map f (map g xs) ≡ map (λ x. f (g x)) xs
map_map f g [] = refl
map_map f g (x ∷ xs) = ap (f (g x) ∷◌) (map_map f g xs)
