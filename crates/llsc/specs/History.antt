-- Histories, on any machine: the answered calls and the open calls of a list of commands, computed from the commands and
-- what the replies say, and from nothing else.
use Rattle.std.specs.Prelude.{ℕ, ◌+◌, List, [], ◌∷◌, ◌++◌}
use Rattle.llsc.specs.declared.Order.{Order}
use Rattle.llsc.specs.declared.Order.TheVariants.{StartLl, StartSc, StartVl, Step}
use Rattle.llsc.specs.Answers.{Said, Answer, refused, accepted, answered}
use Rattle.llsc.specs.Object.{Kind, ll, sc, vl, set_at}

-- "Each command may name any process number, and a start of SC may bring any words"
pub record Command : Type 0 where
  pub process : ℕ
  pub order : Order
  pub value : List ℕ

-- a command, and what its reply said
pub record Event : Type 0 where
  pub command : Command
  pub said : Said

-- "each gets the memory that the one before it left": on any machine, where `next m c` is the memory that the command c
-- leaves of m, the memory after a list of commands,
abbrev pub after_all {ℓ} : {M : Type ℓ} → (M → Command → M) → M → List Command → M
after_all next m [] = m
after_all next m (c ∷ cs) = after_all next (next m c) cs

-- and what is known of each command, `known m c` of the command c at the memory m
abbrev pub along_all {ℓ ℓ'} : {M : Type ℓ} {E : Type ℓ'} → (M → Command → M) → (M → Command → E) → M → List Command → List E
along_all next known m [] = []
along_all next known m (c ∷ cs) = known m c ∷ along_all next known (next m c) cs

-- "until then it is open": no call, or one with its kind, the number of its start command and its own steps so far
pub data Slot : Type 0 where
  none : Slot
  running : Kind → ℕ → ℕ → Slot

-- an answered call: its process, kind, the numbers of its start and of its answering step, its own steps, its answer,
-- and the count that the reply brought
pub record Call : Type 0 where
  pub process : ℕ
  pub kind : Kind
  pub start : ℕ
  pub end : ℕ
  pub steps : ℕ
  pub answer : Answer
  pub count : ℕ

-- "Its own steps are that process's accepted steps after the start, the answering one included."
abbrev pub stepped : Slot → Slot
stepped none = none
stepped (running kind start steps) = running kind start (steps + 1)

-- "A call runs from its accepted start": what an accepted order with no answer makes of its process's slot; k is the
-- command's number
abbrev pub ordered : Order → ℕ → List ℕ → Slot → Slot
ordered StartLl k value s = running ll k 0
ordered StartSc k value s = running (sc value) k 0
ordered StartVl k value s = running vl k 0
ordered Step k value s = stepped s

-- ".. to the next step of that process that answers"
abbrev pub slot_after : ℕ → Command → Said → Slot → Slot
slot_after k c (refused n) s = s
slot_after k c accepted s = ordered c.order k c.value s
slot_after k c (answered a n) s = none

-- the call that the answer a ends, at command number k with count n. (An answer where no call is open would be a call
-- that starts where it ends: no moment is after the one and not after the other.)
abbrev pub ended : ℕ → ℕ → Answer → ℕ → Slot → Call
ended p k a n none = record { process = p; kind = ll; start = k; end = k; steps = 1; answer = a; count = n }
ended p k a n (running kind start steps) = record { process = p; kind = kind; start = start; end = k; steps = steps + 1; answer = a; count = n }

abbrev pub call_of : ℕ → Command → Said → Slot → List Call
call_of k c (refused n) s = []
call_of k c accepted s = []
call_of k c (answered a n) s = ended c.process k a n s ∷ []

-- the slots of all processes, after the event of command number k
abbrev pub slots_after : ℕ → Event → (ℕ → Slot) → ℕ → Slot
slots_after k e slots = set_at e.command.process (slot_after k e.command e.said (slots e.command.process)) slots

-- the answered calls in the order of their answers; k is the number of the first command of the list
unfoldable pub calls_from : ℕ → List Event → (ℕ → Slot) → List Call
calls_from k [] slots = []
calls_from k (e ∷ es) slots = call_of k e.command e.said (slots e.command.process) ++ calls_from (k + 1) es (slots_after k e slots)

-- the open calls at the end
unfoldable pub slots_from : ℕ → List Event → (ℕ → Slot) → ℕ → Slot
slots_from k [] slots = slots
slots_from k (e ∷ es) slots = slots_from (k + 1) es (slots_after k e slots)

-- "the list's k-th command (refused ones counted)": numbers begin at 1, with no call open
abbrev pub calls : List Event → List Call
calls es = calls_from 1 es (λ p. none)

abbrev pub slots : List Event → ℕ → Slot
slots es = slots_from 1 es (λ p. none)
