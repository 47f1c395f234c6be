-- The lent words: 5N rows of W words. Rows 0 to 3N-1 are BUF, row 3N+p is the return area of p, row 4N+p its offer
-- area.
use Rattle.std.specs.Prelude.{ℕ, ◌+◌, ◌*◌, ◌/◌, ◌%◌, List, cond, eqb, get_or, set, take, drop}
use Rattle.model.specs.Sizes.{buffers, rows_before_offers}
use Rattle.model.specs.declared.BufferNumber.{BufferNumber}
use Rattle.llsc.specs.declared.ProcessNumber.{ProcessNumber}

-- Where a record's words lie, in rows of W: the row of BUF[b], and the rows at which the return areas and the offer
-- areas begin. "The words lent become (3R + 2) × N × W for R records": the areas are shared by them.
pub record Layout : Type 0 where
  pub buffer : ℕ → ℕ
  pub returns : ℕ
  pub offers : ℕ

-- one record alone: the rows named above
abbrev pub one_record : ℕ → Layout
one_record n = record { buffer = λ b. b; returns = buffers n; offers = 4 * n }

-- where word k of BUF[b] lies, of p's return area, of p's offer area
abbrev pub buffer_in : Layout → ℕ → BufferNumber → ℕ → ℕ
buffer_in l w b k = l.buffer b.0 * w + k

abbrev pub return_in : Layout → ℕ → ProcessNumber → ℕ → ℕ
return_in l w p k = (l.returns + p.0) * w + k

abbrev pub offer_in : Layout → ℕ → ProcessNumber → ℕ → ℕ
offer_in l w p k = (l.offers + p.0) * w + k

-- where word k of BUF[b] lies, for one record alone
abbrev pub buffer_word : ℕ → BufferNumber → ℕ → ℕ
buffer_word w b k = b.0 * w + k

-- where word k of p's return area lies
abbrev pub return_word : ℕ → ℕ → ProcessNumber → ℕ → ℕ
return_word n w p k = (buffers n + p.0) * w + k

-- where word k of p's offer area lies
abbrev pub offer_word : ℕ → ℕ → ProcessNumber → ℕ → ℕ
offer_word n w p k = (rows_before_offers n + p.0) * w + k

-- A word place counts halves, low half first: place k is in word k / 2, its low half where k is even, else its high
-- half.
abbrev pub word_of : ℕ → ℕ
word_of k = k / 2

-- how many values a half word of 32 bits has
abbrev pub half_values : ℕ
half_values = 4294967296

-- the half of place k of the word v
abbrev pub half : ℕ → ℕ → ℕ
half k v = cond (eqb (k % 2) 0) (v % half_values) (v / half_values)

-- v with the half of place k taken from u: "Each word move .. becomes two steps, low half first", and the other half
-- stays
abbrev pub with_half : ℕ → ℕ → ℕ → ℕ
with_half k u v = cond (eqb (k % 2) 0) (v / half_values * half_values + u % half_values) (u / half_values * half_values + v % half_values)

-- the half of place k of the word at `from` is copied to the word at `to`
abbrev pub copied_half : List ℕ → ℕ → ℕ → ℕ → List ℕ
copied_half ws k from to = set ws to (with_half k (get_or ws from 0) (get_or ws to 0))

-- "The answer is the return area."
abbrev pub return_area : ℕ → ℕ → ProcessNumber → List ℕ → List ℕ
return_area n w p ws = take w (drop (return_word n w p 0) ws)
