-- What a text comes to, said by the grammar alone: right, with what it says, or a fault at its place. Whatever reads texts
-- is one of these readers; a text has one reading (`proofs/ReadingLaws`).
use Rattle.std.specs.Prelude.{ℕ, ◌+◌, ◌≡◌, List, length}
use Rattle.notation.specs.Grammar.{Said, deepest}
use Rattle.notation.specs.Right.{Tells, Fault}

-- right, with what it says, or a fault, with the number of bytes from its place on
pub data Reading : Type 0 where
  right : Said → Reading
  wrong : ℕ → ℕ → Reading

-- a fault of number k with so many bytes of the text from its place on
pub record FaultLeft (s : List ℕ) (k left : ℕ) : Type 0 where
  pub fault : Fault s k
  pub place : fault.at + left ≡ length s

-- the reading of a text
abbrev pub Reads : List ℕ → Reading → Type 0
Reads s (right a) = Tells deepest s a
Reads s (wrong k left) = FaultLeft s k left

-- a function that reads every text
pub record Reader : Type 0 where
  pub read : List ℕ → Reading
  pub reads : (s : List ℕ) → Reads s (read s)
