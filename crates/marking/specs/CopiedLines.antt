-- A trace copied line by line, as the loop that marks it does.
-- Inner: `MarkedLaws` proves that the lines, each behind its mark, make `Marked`.
use Rattle.std.specs.Prelude.{◌≡◌, ℕ, ◌≤◌, List, [], ◌∷◌, Bool, cond, eqb, length, take, drop}
use Rattle.listing.specs.Lines.{line_feed}
use Rattle.listing.specs.declared.Writer.{Writer}
use Rattle.listing.specs.Writing.{Writes}
use Rattle.answers.specs.Readers.{Text}

abbrev pub is_feed : ℕ → Bool
is_feed b = eqb b line_feed

-- the first line of bs with its line feed, and what is behind it
unfoldable pub line_bytes : List ℕ → List ℕ
line_bytes [] = []
line_bytes (b ∷ bs) = b ∷ cond (eqb b line_feed) [] (line_bytes bs)

unfoldable pub behind : List ℕ → List ℕ
behind [] = []
behind (b ∷ bs) = cond (eqb b line_feed) bs (behind bs)

-- the first line ends at the k-th byte
pub record LineEnd (bs : List ℕ) (k : ℕ) : Type 0 where
  pub within : k ≤ length bs
  pub line : take k bs ≡ line_bytes bs
  pub left : drop k bs ≡ behind bs

-- the first line of bs is written, and what is behind it is left
pub record CopiedLine (bs : List ℕ) (to to' : Writer) (rest : Text) : Type 0 where
  pub wrote : Writes to (line_bytes bs) to'
  pub left : rest.now ≡ behind bs
