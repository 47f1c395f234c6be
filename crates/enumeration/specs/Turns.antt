-- Inner: a schedule turn by turn, as the code goes through it. proofs/TurnLaws ties it to `schedule_for`, `is_schedule`
-- and `number_for`, proofs/ReplyLaws `placed` to `numbered_for`.
use Rattle.std.specs.Prelude.{◌≡◌, ◌⊎◌, ℕ, ◌-◌, ◌<◌, ◌≤◌, List, cond, eqb, ltb, Option, Some, None}
use Rattle.llsc.specs.declared.refusals.Refusal.{Refusal}
use Rattle.llsc.specs.declared.refusals.Refusal.TheVariants.{TooManyTurns}
use Rattle.enumeration.specs.declared.totals.Totals.{Totals}
use Rattle.ways.specs.Ways.{ways}
use Rattle.enumeration_model.specs.Schedules.{is_schedule, number_for}

-- the totals that were asked for, and the refusal of those above 32
pub record TotalsOf (a b : ℕ) (t : Totals) : Type 0 where
  pub first : t.a ≡ a
  pub second : t.b ≡ b

pub record TooMany (a b : ℕ) (r : Refusal) : Type 0 where
  pub refusal : r ≡ TooManyTurns
  pub over : (32 < a) ⊎ ((a ≤ 32) × (32 < b))

-- a turn, what is left after it, and the rest's number
pub record Choice : Type 0 where
  pub turn : ℕ
  pub a : ℕ
  pub b : ℕ
  pub number : ℕ

-- what is left after a turn, and how many schedules come before all that begin with it
pub record Taking : Type 0 where
  pub a : ℕ
  pub b : ℕ
  pub skipped : ℕ

-- how many schedules begin with process 0
unfoldable pub zero_first : ℕ → ℕ → ℕ
zero_first a b = cond (eqb a 0) 0 (ways (a - 1) b)

-- the first turn of schedule k, and what is left
unfoldable pub chosen : ℕ → ℕ → ℕ → Choice
chosen a b k =
    cond (ltb k (zero_first a b)) (record { turn = 0; a = a - 1; b = b; number = k })
    (record { turn = 1; a = a; b = b - 1; number = k - zero_first a b })

-- turn t taken, with what is left and how many schedules come before all that begin with it; or no schedule does
unfoldable pub taken : ℕ → ℕ → ℕ → Option Taking
taken a b t =
    cond (eqb t 0) (cond (eqb a 0) None (Some (record { a = a - 1; b = b; skipped = 0 })))
    (cond (eqb t 1) (cond (eqb b 0) None (Some (record { a = a; b = b - 1; skipped = zero_first a b }))) None)

-- the number for a list of turns, or none
abbrev pub placed : ℕ → ℕ → List ℕ → Option ℕ
placed a b ts = cond (is_schedule a b ts) (Some (number_for a b ts)) None
