-- Where a place of a text is for a reader: its line and its column, and what it comes after.
use Rattle.std.specs.Prelude.{ℕ, ◌+◌, ◌<◌, List, [], ◌∷◌, Bool, true, false, cond, eqb, leb, ltb, None, Some}
use Rattle.positions.specs.declared.Seen.{Seen}

abbrev pub is_digit : ℕ → Bool
is_digit b = cond (ltb b 48) false (leb b 57)

abbrev pub is_gap : ℕ → Bool
is_gap b = cond (eqb b 32) true (eqb b 10)

-- one more where something holds
abbrev pub counted : ℕ → Bool → ℕ
counted n t = cond t (n + 1) n

-- one byte more: a line feed begins a line; every byte is a column
unfoldable pub on_byte : ℕ → Seen → Seen
on_byte b s = record {
  feeds = counted s.feeds (eqb b 10);
  since = cond (eqb b 10) 0 (s.since + 1);
  spaces = counted s.spaces (eqb b 32);
  last = Some b;
  earlier = s.last;
  mark = cond (is_digit b) s.mark (Some b);
  solid = cond (is_gap b) s.solid (Some b);
}

abbrev pub at_start : Seen
at_start = record { feeds = 0; since = 0; spaces = 0; last = None; earlier = None; mark = None; solid = None }

unfoldable pub seen_from : List ℕ → Seen → Seen
seen_from [] s = s
seen_from (b ∷ bs) s = seen_from bs (on_byte b s)

-- what the bytes before a place come to
abbrev pub seen_in : List ℕ → Seen
seen_in bs = seen_from bs at_start

-- Line and column of the place after these bytes, from 1 on. A column is a byte.
abbrev pub line_after : List ℕ → ℕ
line_after bs = (seen_in bs).feeds + 1

abbrev pub column_after : List ℕ → ℕ
column_after bs = (seen_in bs).since + 1

-- the counts have room for one more
pub record Small (s : Seen) : Type 0 where
  pub feeds : s.feeds < 18446744073709551615
  pub since : s.since < 18446744073709551615
  pub spaces : s.spaces < 18446744073709551615
