-- Bytes written into lent bytes from a place on.
-- Inner: what is written are the bytes of `Lines`; the text run has the room that this asks for (`Theorems`).
use Rattle.std.specs.Prelude.{ℕ, ◌+◌, ◌≤◌, ◌≡◌, List, length}
use Rattle.std.proofs.lemmas.List.Edits.{sets}
use Rattle.listing.specs.declared.Writer.{Writer}

-- there is room for bs from `at` on
pub record Room (l : List ℕ) (at : ℕ) (bs : List ℕ) : Type 0 where
  pub fits : at + length bs ≤ length l

-- bs stand in l from `at` on, and nothing else has changed: the list after, and the next place
pub record Wrote (l : List ℕ) (at : ℕ) (bs l' : List ℕ) (next : ℕ) : Type 0 where
  pub place : next ≡ at + length bs
  pub list : l' ≡ sets l at bs

-- a writer has room for bs
pub record Fits (a : Writer) (bs : List ℕ) : Type 0 where
  pub fits : a.written + length bs ≤ length a.list.now

-- a writer has written bs more, into the same lent bytes; that these are as many as before follows from `list`
pub record Writes (a : Writer) (bs : List ℕ) (b : Writer) : Type 0 where
  pub same : b.list.ghost_name ≡ a.list.ghost_name
  pub long : length b.list.now ≡ length a.list.now
  pub place : b.written ≡ a.written + length bs
  pub list : b.list.now ≡ sets a.list.now a.written bs
