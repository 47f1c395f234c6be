-- Views computed: W = 2, the set-up value 7 8 lent at byte 100 of block 3,
-- the values 11 12 and 21 22 at byte 64 of block 5.
use mathlib.Core.Path.{◌≡◌, refl}
use Prim.Native.Nat.{ℕ}
use mathlib.Core.List.{List, [], ◌∷◌}
use denote.Ref.{Bor}
use Rattle.model.specs.View.{view_number, view_part, view}

abbrev value : Bor (List ℕ)
value = record { ref_ptr = (3, 100); now = 7 ∷ 8 ∷ [] }

abbrev written : Bor (List ℕ)
written = record { ref_ptr = (5, 64); now = 11 ∷ 12 ∷ 21 ∷ 22 ∷ [] }

-- a view of success k as values of w words: its number, where its part begins, its words
abbrev Gives : ℕ → ℕ → ℕ → ℕ × ℕ → List ℕ → Type 0
Gives w k number place words = (view_number w value.now written.now k ≡ number) × (view w value written k ≡ (place, words))

-- successes 0, 1 and 2
pub set_up_value_lem : Gives 2 0 0 (3, 100) (7 ∷ 8 ∷ [])
unfolding view_number view_part view
set_up_value_lem = (refl, refl)

pub first_success_lem : Gives 2 1 0 (5, 64) (11 ∷ 12 ∷ [])
unfolding view_number view_part view
first_success_lem = (refl, refl)

pub second_success : Gives 2 2 0 (5, 80) (21 ∷ 22 ∷ [])
unfolding view_number view_part view
second_success = (refl, refl)

-- refusals 15, 2, 3 and 8: an empty part of the set-up value
pub no_third_success : Gives 2 3 15 (3, 100) []
unfolding view_number view_part view
no_third_success = (refl, refl)

pub no_words : Gives 0 0 2 (3, 100) []
unfolding view_number view_part view
no_words = (refl, refl)

pub list_not_whole : Gives 3 0 3 (3, 100) []
unfolding view_number view_part view
list_not_whole = (refl, refl)

pub value_too_short : Gives 4 0 8 (3, 100) []
unfolding view_number view_part view
value_too_short = (refl, refl)
