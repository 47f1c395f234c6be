-- Rows 20, 21 and 22 in their order.
use mathlib.Core.Path.{◌≡◌, refl}
use mathlib.Core.List.{[], ◌∷◌}
use Rattle.ways.specs.Ways.{ways}
use Rattle.enumeration.specs.Replies.{refusal_of, found_for, numbered_for}

-- 20 before 21 and 22
rows_in_order : (refusal_of (found_for 33 0 9) ≡ 20) × ((refusal_of (found_for 2 1 3) ≡ 21) × (refusal_of (found_for 2 1 2) ≡ 0))
unfolding found_for ways
rows_in_order = (refl, (refl, refl))

rows_of_turns : (refusal_of (numbered_for 0 33 (2 ∷ [])) ≡ 20) × ((refusal_of (numbered_for 1 1 (0 ∷ 0 ∷ [])) ≡ 22)
    × ((refusal_of (numbered_for 1 1 (0 ∷ 1 ∷ 2 ∷ [])) ≡ 22) × (refusal_of (numbered_for 1 1 (1 ∷ 0 ∷ [])) ≡ 0)))
unfolding numbered_for
rows_of_turns = (refl, (refl, (refl, refl)))
