-- What a set-up and a command make of a held list of Moir's bench, and what they tell.
use Rattle.std.specs.Prelude.{◌≡◌, ℕ, ◌<◌, ◌≤◌, List, true, cond, ltb}
use Rattle.llsc.specs.declared.Order.{Order}
use Rattle.moir_model.specs.declared.Reply.{Reply}
use Rattle.moir_model.specs.Machine.{Memory}
use Rattle.moir_model.specs.Command.{refusal, command}
use Rattle.moir_model.specs.SetUp.{set_up}
use Rattle.moir_held_model.specs.declared.Told.{Told}
use Rattle.held_model.specs.Memory.{number_at}
use Rattle.moir_held_model.specs.Layout.{mark_place}
use Rattle.moir_held_model.specs.Memory.{memory_of}
use Rattle.moir_held_model.specs.Told.{told}
use Rattle.moir_held_model.specs.Ranges.{tags_ok, held_in_range, held_refusal, held_command, near_refusal, near_command}

-- Of a mark the memory tells only whether it is 0. A set-up writes 0 for the n processes, and leaves the others.
abbrev pub MarksSet : List ℕ → ℕ → List ℕ → Type 0
MarksSet l n l' = (p : ℕ) → p < 16 → number_at l' (mark_place p) ≡ cond (ltb p n) 0 (number_at l (mark_place p))

-- the number of the refusal and the memory are those of `moir_model`'s set-up, and a refusal leaves every number
pub record SetUpDone (l : List ℕ) (n w : ℕ) (value : List ℕ) (k : ℕ) (l' : List ℕ) : Type 0 where
  pub done : (k, memory_of l') ≡ set_up (memory_of l) n w value
  pub marks : k ≡ 0 → MarksSet l n l'
  pub refused : (k ≡ 0 → ⊥) → l' ≡ l

-- A command of process p writes 0 or 1 for its own mark, and leaves the others.
pub record MarksAfter (l l' : List ℕ) (p : ℕ) : Type 0 where
  pub own : number_at l' (mark_place p) ≤ 1
  pub others : (q : ℕ) → q < 16 → (q ≡ p → ⊥) → number_at l' (mark_place q) ≡ number_at l (mark_place q)

-- What is told of the command f to process p, and the memory of the list after it, are those of f, and a refusal, whose
-- number is refuses', leaves every number
pub record DoneBy (refuses : Memory → ℕ → Order → List ℕ → ℕ) (f : Memory → ℕ → Order → List ℕ → Reply × Memory)
    (l : List ℕ) (p : ℕ) (o : Order) (value : List ℕ) (t : Told) (l' : List ℕ) : Type 0 where
  pub answer : t ≡ told (memory_of l).bench.n (memory_of l).bench.w p (f (memory_of l) p o value).0
  pub memory : memory_of l' ≡ (f (memory_of l) p o value).1
  pub marks : refuses (memory_of l) p o value ≡ 0 → MarksAfter l l' p
  pub refused : (refuses (memory_of l) p o value ≡ 0 → ⊥) → l' ≡ l

-- `moir_model`'s command, whatever stands in the list, but that a tag of more than sixteen bits is row 9
pub record Commanded (l : List ℕ) (p : ℕ) (o : Order) (value : List ℕ) (t : Told) (l' : List ℕ) : Type 0 where
  pub held : DoneBy held_refusal held_command l p o value t l'
  pub command : tags_ok (memory_of l) ≡ true → DoneBy refusal command l p o value t l'

-- A step that looks at what it reads alone: its command on any list, and `moir_model`'s where row 9 holds of nothing
pub record SteppedTo (l : List ℕ) (p : ℕ) (o : Order) (value : List ℕ) (t : Told) (l' : List ℕ) : Type 0 where
  pub near : DoneBy near_refusal near_command l p o value t l'
  pub command : held_in_range (memory_of l) ≡ true → DoneBy refusal command l p o value t l'
