-- The lent words: 3N + 1 rows of W words. Row q below N is A[q], row N the segments' words, row N+1+p the return area of
-- p, row 2N+1+p its offer area. "tags apart": the segments' tags lie in the bench record.
use Rattle.std.specs.Prelude.{ℕ, ◌+◌, ◌*◌, List, get_or, set, take, drop}
use Rattle.llsc.specs.declared.ProcessNumber.{ProcessNumber}
use Rattle.moir_model.specs.declared.Header.{Header}
use Rattle.moir_model.specs.declared.Segment.{Segment}
use Rattle.moir_model.specs.declared.Bench.{Bench}

-- where word k of A[q], of the segments, of p's return area and of p's offer area lies
abbrev pub announced_word : ℕ → ProcessNumber → ℕ → ℕ
announced_word w q k = q.0 * w + k

abbrev pub segment_word : ℕ → ℕ → ℕ → ℕ
segment_word n w k = n * w + k

abbrev pub return_word : ℕ → ℕ → ProcessNumber → ℕ → ℕ
return_word n w p k = (n + 1 + p.0) * w + k

abbrev pub offer_word : ℕ → ℕ → ProcessNumber → ℕ → ℕ
offer_word n w p k = (2 * n + 1 + p.0) * w + k

-- segment k, its tag from the bench record and its word from the lent words
abbrev pub segment_at : Bench → List ℕ → ℕ → Segment
segment_at b ws k = record { tag = get_or b.tags k 0; val = get_or ws (segment_word b.n b.w k) 0 }

-- the bench with another header, or another tag of segment k
abbrev pub put_header : Bench → Header → Bench
put_header b h = record b { header = h }

abbrev pub put_tag : Bench → ℕ → ℕ → Bench
put_tag b k t = record b { tags = set b.tags k t }

-- the words with another word of segment k
abbrev pub put_value : Bench → List ℕ → ℕ → ℕ → List ℕ
put_value b ws k v = set ws (segment_word b.n b.w k) v

-- "WLL answers the words": the return area
abbrev pub return_area : ℕ → ℕ → ProcessNumber → List ℕ → List ℕ
return_area n w p ws = take w (drop (return_word n w p 0) ws)
