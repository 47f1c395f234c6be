-- The words that a step reads are lent.
use mathlib.Core.List.{List}
use Prim.Native.Nat.{ℕ, ◌+◌, ◌*◌, ◌≤◌, ◌<◌}
use native.Mathlib.Omega.{arith}
use lib.ListN.{length}
use Rattle.model.specs.declared.BufferNumber.{BufferNumber}
use Rattle.llsc.specs.declared.ProcessNumber.{ProcessNumber}
use Rattle.model.specs.declared.Process.{Process}
use Rattle.model.specs.Sizes.{halves}
use Rattle.model.specs.Words.{buffer_word, word_of}
use Rattle.taken.specs.Ranges.{Ready}
use Rattle.words.proofs.WordLaws.{lies}

module _ {n w : ℕ} {q : Process} {p : ProcessNumber} {ws : List ℕ} (h : Ready n w q p ws) where
  -- in any of the 5N rows, at the word place
  pub word_lies : (row : ℕ) → row < 5 * n → row * w + word_of q.word < length ws
  word_lies row l = lies n l (omega (arith, h.word)) h.lent.words

  -- what a read of BUF[f] needs
  pub read_lies : (f : BufferNumber) → f.0 < 3 * n
      → (w ≤ 64) × ((q.word < halves w) × (buffer_word w f (word_of q.word) < length ws))
  read_lies f l = (h.lent.w_most, (h.word, word_lies f.0 (omega arith)))
