-- What the three entries reply (02, CR 5); "nothing changed": they are lent no memory but the turns, to read.
use Rattle.std.specs.Prelude.{ℕ, ◌+◌, ◌-◌, List, [], ◌∷◌, ◌++◌, not, ◌||◌, cond, ltb, leb, length, replicate, take}
use Rattle.std.specs.Prelude.{Option, Some, None, Result, Ok, Err}
use Rattle.llsc.specs.Refusals.{refusal_number}
use Rattle.llsc.specs.declared.refusals.Refusal.{Refusal}
use Rattle.llsc.specs.declared.refusals.Refusal.TheVariants.{TooManyTurns, NoSuchNumber, NotASchedule}
use Rattle.llsc.specs.Rows.{Row, first}
use Rattle.enumeration.specs.declared.Schedule.{Schedule}
use Rattle.ways.specs.Ways.{ways}
use Rattle.enumeration_model.specs.Schedules.{is_schedule, schedule_for, number_for, schedule_after}

-- "20 for a or b above 32, 21 for a number not below the count, 22 for a turn list with other totals or a third
-- process"
abbrev pub row20 : ℕ → ℕ → Row
row20 a b = record { number = 20; holds = ltb 32 a || ltb 32 b }

abbrev pub row21 : ℕ → ℕ → ℕ → Row
row21 a b k = record { number = 21; holds = leb (ways a b) k }

abbrev pub row22 : ℕ → ℕ → List ℕ → Row
row22 a b ts = record { number = 22; holds = not (is_schedule a b ts) }

-- "in that order"
abbrev pub number_refusal : ℕ → ℕ → ℕ → ℕ
number_refusal a b k = first (row20 a b ∷ row21 a b k ∷ [])

abbrev pub turns_refusal : ℕ → ℕ → List ℕ → ℕ
turns_refusal a b ts = first (row20 a b ∷ row22 a b ts ∷ [])

-- a schedule as it is handed out: the count of its turns, and 64 places with 0 behind them
abbrev pub padded : List ℕ → List ℕ
padded ts = ts ++ replicate (64 - length ts) 0

abbrev pub kept : ℕ → ℕ → List ℕ → Schedule
kept a b ts = record { count = a + b; turns = padded ts }

abbrev pub turns_in : Schedule → List ℕ
turns_in s = take s.count s.turns

-- "We want the schedule for a number,
unfoldable pub found_for : ℕ → ℕ → ℕ → Result Schedule Refusal
found_for a b k =
    cond (row20 a b).holds (Err TooManyTurns) (cond (row21 a b k).holds (Err NoSuchNumber) (Ok (kept a b (schedule_for a b k))))

-- the number for a schedule,
unfoldable pub numbered_for : ℕ → ℕ → List ℕ → Result ℕ Refusal
numbered_for a b ts =
    cond (row20 a b).holds (Err TooManyTurns) (cond (row22 a b ts).holds (Err NotASchedule) (Ok (number_for a b ts)))

-- and the schedule after a given one, or word that it was the last."
abbrev pub following_of : ℕ → ℕ → Option (List ℕ) → Option Schedule
following_of a b (Some ts) = Some (kept a b ts)
following_of a b None = None

unfoldable pub following_for : ℕ → ℕ → List ℕ → Result (Option Schedule) Refusal
following_for a b ts =
    cond (row20 a b).holds (Err TooManyTurns)
    (cond (row22 a b ts).holds (Err NotASchedule) (Ok (following_of a b (schedule_after a b ts))))

-- the number of a reply's refusal, 0 for none
abbrev pub refusal_of : {A : Type 0} → Result A Refusal → ℕ
refusal_of (Ok reply) = 0
refusal_of (Err r) = refusal_number r
