-- The definitions at small numbers.
use mathlib.Core.Path.{◌≡◌, refl}
use mathlib.Core.List.{[], ◌∷◌, map}
use mathlib.Core.Bool.{true}
use Rattle.std.specs.Prelude.{Some, None}
use Rattle.ways.specs.Ways.{ways}
use Rattle.enumeration_model.specs.Schedules.{before, schedule_for, number_for, schedule_after}

-- two turns and one: all in order
two_and_one : map (schedule_for 2 1) (0 ∷ 1 ∷ 2 ∷ []) ≡ (0 ∷ 0 ∷ 1 ∷ []) ∷ (0 ∷ 1 ∷ 0 ∷ []) ∷ (1 ∷ 0 ∷ 0 ∷ []) ∷ []
unfolding schedule_for ways
two_and_one = refl

their_numbers : map (number_for 2 1) ((0 ∷ 0 ∷ 1 ∷ []) ∷ (0 ∷ 1 ∷ 0 ∷ []) ∷ (1 ∷ 0 ∷ 0 ∷ []) ∷ []) ≡ 0 ∷ 1 ∷ 2 ∷ []
unfolding number_for ways
their_numbers = refl

their_count : ways 2 1 ≡ 3
unfolding ways
their_count = refl

-- process 0 before process 1
zero_first_lem : before (0 ∷ 1 ∷ []) (1 ∷ 0 ∷ []) ≡ true
zero_first_lem = refl

-- the one after, and the last
one_after : schedule_after 2 1 (0 ∷ 1 ∷ 0 ∷ []) ≡ Some (1 ∷ 0 ∷ 0 ∷ [])
unfolding schedule_after schedule_for number_for ways
one_after = refl

last_one : schedule_after 2 1 (1 ∷ 0 ∷ 0 ∷ []) ≡ None
unfolding schedule_after schedule_for number_for ways
last_one = refl

-- no turns at all: one schedule, the last
no_turns : schedule_after 0 0 [] ≡ None
unfolding schedule_after schedule_for number_for ways
no_turns = refl
