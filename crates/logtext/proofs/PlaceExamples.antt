-- Places by computation: the numbers of "2 1\n 5\n0 12 13\n" and a stray byte. (9, 10, 13 and 32 are gaps.)
use Prim.Native.Nat.{ℕ}
use mathlib.Core.Path.{◌≡◌, refl}
use mathlib.Core.List.{List, [], ◌∷◌}
use Rattle.logtext.specs.Places.{place_from, place_of, stray_place}

abbrev text : List ℕ
text = 50 ∷ 32 ∷ 49 ∷ 10 ∷ 32 ∷ 53 ∷ 10 ∷ 48 ∷ 32 ∷ 49 ∷ 50 ∷ 32 ∷ 49 ∷ 51 ∷ 10 ∷ []

record Places : Type 0 where
  first : place_of 0 text ≡ 0
  second : place_of 1 text ≡ 2
  value : place_of 2 text ≡ 5
  twelve : place_of 4 text ≡ 9
  thirteen : place_of 5 text ≡ 12
  none : place_of 6 text ≡ 15
  stray : stray_place (50 ∷ 9 ∷ 49 ∷ 13 ∷ 45 ∷ 53 ∷ []) ≡ 4
  no_stray : stray_place text ≡ 15

places : Places
unfolding place_from stray_place
places = record { first = refl; second = refl; value = refl; twelve = refl; thirteen = refl; none = refl; stray = refl; no_stray = refl }
