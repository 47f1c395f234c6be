-- What a text run asks of the bench that it runs on (01, "Commands and steps" and "Schedule text and listing").
use Rattle.std.specs.Prelude.{ℕ, List, Bool}
use Rattle.llsc.specs.declared.Order.{Order}

pub record Machine : Type 1 where
  -- all lent memory, and what a command answers
  pub Memory : Type 0
  pub Reply : Type 0
  -- with N, W and the value: the number of its refusal, 0 for none, and the memory after it
  pub set_up : Memory → ℕ → ℕ → List ℕ → ℕ × Memory
  -- "A command names a process and an order", with the words of an SC
  pub command : Memory → ℕ → Order → List ℕ → Reply × Memory
  -- W, as this memory has it
  pub width : Memory → ℕ
  -- whether this process has no open call
  pub idle : Memory → ℕ → Bool
  -- the number of a refusal, 0 for none
  pub number_of : Reply → ℕ
  -- whether a reply answers the call
  pub answers : Reply → Bool
  -- "The listing has a line for each answer": the bytes that the reply to this process adds, with the memory as the
  -- command left it
  pub line_of : Memory → ℕ → Reply → List ℕ
  -- what a trace shows of a step: which access it is that a step of this process makes on this memory, and the line of
  -- such a step, with the entry's number, the process, and whether it answers
  pub Shown : Type 0
  pub shows : Memory → ℕ → Shown
  pub step_line : ℕ → ℕ → Shown → Bool → List ℕ
