-- What holds of one element of a list, and of each two.
use Rattle.std.specs.Prelude.{List, [], ◌∷◌}
use Rattle.llsc.specs.Linearizable.{All}

module _ {A : Type 0} where
  -- one of the list has the property
  pub data Any (P : A → Type 0) : List A → Type 0 where
    here : {x : A} {xs : List A} → P x → Any P (x ∷ xs)
    there : {x : A} {xs : List A} → Any P xs → Any P (x ∷ xs)

  -- holds of each two, the earlier first
  abbrev pub Pairs : (A → A → Type 0) → List A → Type 0
  Pairs R [] = Unit {0}
  Pairs R (x ∷ xs) = All (R x) xs × Pairs R xs
