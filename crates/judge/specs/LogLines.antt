-- The line of a log that has another number of numbers than a call: what is at fault where one is lost. A log is written
-- with N, W and the value first, and then a call to a line.
use Rattle.std.specs.Prelude.{ℕ, ◌+◌, List, [], ◌∷◌, Bool, true, false, not, cond, eqb, ltb, None, Some, is_some}
use Rattle.positions.specs.Positions.{is_digit}
use Rattle.judge.specs.declared.log_lines.Lines.{Lines}

-- one more where something holds, as far as a count goes
abbrev pub more_by : ℕ → Bool → ℕ
more_by n one = cond one (cond (ltb n 18446744073709551615) (n + 1) n) n

abbrev pub together_of : ℕ → ℕ → ℕ
together_of a b = cond (ltb a 9223372036854775807) (cond (ltb b 9223372036854775807) (a + b) a) a

-- a number begins at a digit that comes after none
abbrev pub begins_at : Bool → Bool → Bool
begins_at digit inside = cond inside false digit

-- the line is the first that has numbers, but not those of a call, nor of N, W and the value alone
abbrev pub is_odd_line : Lines → ℕ → Bool
is_odd_line s w =
    cond (is_some s.odd) false
    (cond (eqb s.here 0) false
    (cond (ltb s.before (2 + w)) (ltb (2 + w) (together_of s.before s.here)) (not (eqb s.here (6 + w)))))

-- the line ends here
unfoldable pub ended_line : Lines → ℕ → Lines
ended_line s w = record {
  line = more_by s.line true;
  before = together_of s.before s.here;
  here = 0;
  inside = false;
  calls = more_by s.calls (eqb s.here (6 + w));
  odd = cond (is_odd_line s w) (Some (record { line = s.line; numbers = s.here; from = s.before })) s.odd;
}

-- one byte more
abbrev pub within_line : ℕ → Lines → Lines
within_line b s = record {
  line = s.line;
  before = s.before;
  here = more_by s.here (begins_at (is_digit b) s.inside);
  inside = is_digit b;
  calls = s.calls;
  odd = s.odd;
}

unfoldable pub on_byte : Lines → ℕ → ℕ → Lines
on_byte s b w = cond (eqb b 10) (ended_line s w) (within_line b s)

abbrev pub at_start : Lines
at_start = record { line = 1; before = 0; here = 0; inside = false; calls = 0; odd = None }

unfoldable pub lines_from : List ℕ → ℕ → Lines → Lines
lines_from [] w s = ended_line s w
lines_from (b ∷ bs) w s = lines_from bs w (on_byte s b w)

-- what a text's lines come to; its end ends the last
abbrev pub lines_in : List ℕ → ℕ → Lines
lines_in text w = lines_from text w at_start
