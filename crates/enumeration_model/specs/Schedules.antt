-- All small schedules, in order (02, CR 5): "every way in which processes 0 and 1 can take a and b turns". A schedule
-- is the list of the processes whose turns they are.
use Rattle.std.specs.Prelude.{◌≡◌, ℕ, zero, suc, ◌+◌, ◌-◌, ◌<◌, List, [], ◌∷◌, Bool, true, false, ◌&&◌, ◌||◌, cond, eqb, ltb, leb, replicate, Option, Some, None}
use Rattle.llsc.specs.Rows.{every}
use Rattle.ways.specs.Ways.{ways}

-- how many turns are process p's
abbrev pub turns_of : ℕ → List ℕ → ℕ
turns_of p [] = 0
turns_of p (t ∷ ts) = cond (eqb t p) 1 0 + turns_of p ts

-- a turns of process 0, b of process 1, and none of a third
abbrev pub is_schedule : ℕ → ℕ → List ℕ → Bool
is_schedule a b ts = every (λ t. leb t 1) ts && (eqb (turns_of 0 ts) a && eqb (turns_of 1 ts) b)

-- "in dictionary order, process 0 before process 1", the lexicographic order: ts comes before us
abbrev pub before : List ℕ → List ℕ → Bool
before [] [] = false
before [] (u ∷ us) = true
before (t ∷ ts) [] = false
before (t ∷ ts) (u ∷ us) = ltb t u || (eqb t u && before ts us)

-- "the schedule for a number", from 0: first come those that begin with process 0, as many as there are ways to finish
unfoldable pub schedule_for : ℕ → ℕ → ℕ → List ℕ
schedule_for zero b k = replicate b 1
schedule_for (suc a) zero k = replicate (suc a) 0
schedule_for (suc a) (suc b) k =
    cond (ltb k (ways a (suc b))) (0 ∷ schedule_for a (suc b) k) (1 ∷ schedule_for (suc a) b (k - ways a (suc b)))

-- "the number for a schedule", its lexicographic rank: before one that begins with process 1 come all that begin with
-- process 0
unfoldable pub number_for : ℕ → ℕ → List ℕ → ℕ
number_for zero b ts = 0
number_for (suc a) zero ts = 0
number_for (suc a) (suc b) [] = 0
number_for (suc a) (suc b) (t ∷ ts) =
    cond (eqb t 0) (number_for a (suc b) ts) (ways a (suc b) + number_for (suc a) b ts)

-- "the schedule after a given one, or word that it was the last"
unfoldable pub schedule_after : ℕ → ℕ → List ℕ → Option (List ℕ)
schedule_after a b ts =
    let k : ℕ = number_for a b ts + 1 in
    cond (ltb k (ways a b)) (Some (schedule_for a b k)) None

-- "every schedule comes once": at one number and at no other
pub record ComesOnce (a b : ℕ) (ts : List ℕ) : Type 0 where
  pub number : ℕ
  pub below : number < ways a b
  pub comes : schedule_for a b number ≡ ts
  pub once : (k : ℕ) → k < ways a b → schedule_for a b k ≡ ts → k ≡ number

-- what follows ts in dictionary order: us comes after it and no schedule between them; or none comes after it
abbrev pub Follows : ℕ → ℕ → List ℕ → Option (List ℕ) → Type 0
Follows a b ts (Some us) =
    (is_schedule a b us ≡ true) × ((before ts us ≡ true)
    × ((vs : List ℕ) → is_schedule a b vs ≡ true → before ts vs ≡ true → before vs us ≡ false))
Follows a b ts None = (vs : List ℕ) → is_schedule a b vs ≡ true → before ts vs ≡ false
