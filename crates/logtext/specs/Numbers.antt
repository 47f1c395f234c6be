-- A log as text: decimal numbers below 2^64, parted by spaces, tabs, line feeds or carriage returns (docs/JUDGE.md).
use Rattle.std.specs.Prelude.{ℕ, ◌+◌, ◌-◌, ◌*◌, ◌^◌, List, [], ◌∷◌, ◌++◌, Bool, ◌||◌, cond, eqb, ltb, length, get_or, take, drop}
use Rattle.std.specs.Prelude.{Option, None, Some, is_some, unwrap_or}
use Rattle.llsc.specs.Rows.{between}
use Rattle.verdicts.specs.declared.Judgement.{Judgement}
use Rattle.verdicts.specs.Reasons.{judged_with_reason}
use Rattle.logtext.specs.declared.Fault.{Fault}
use Rattle.logtext.specs.declared.Fault.TheVariants.{StrayByte, TooLarge, TooMany}

-- a reading: why it stopped, if it did, the number that is being read, if there is one, and those read
pub record Scan : Type 0 where
  pub fault : Option Fault
  pub number : Option ℕ
  pub got : List ℕ

abbrev pub begin : Scan
begin = record { fault = None; number = None; got = [] }

-- the faults: a byte that is neither digit nor gap, a number of 2^64 or more, more numbers than there is room for
abbrev pub stopped : Fault → Scan → Scan
stopped k s = record { fault = Some k; number = s.number; got = s.got }

abbrev pub is_digit : ℕ → Bool
is_digit b = between 48 57 b

abbrev pub is_gap : ℕ → Bool
is_gap b = eqb b 32 || (eqb b 10 || (eqb b 9 || eqb b 13))

-- the number so far, with one digit more
abbrev pub longer : Option ℕ → ℕ → ℕ
longer number d = unwrap_or number 0 * 10 + d

abbrev pub digit_taken : ℕ → Scan → Scan
digit_taken d s = cond (ltb (longer s.number d) (2 ^ 64)) (record { fault = None; number = Some (longer s.number d); got = s.got }) (stopped TooLarge s)

-- the number being read, if there is one, ends here
abbrev pub ended : Option ℕ → ℕ → Scan → Scan
ended None room s = s
ended (Some n) room s = cond (ltb (length s.got) room) (record { fault = None; number = None; got = s.got ++ (n ∷ []) }) (stopped TooMany s)

abbrev pub closed : ℕ → Scan → Scan
closed room s = ended s.number room s

abbrev pub byte_taken : ℕ → ℕ → Scan → Scan
byte_taken room b s = cond (is_digit b) (digit_taken (b - 48) s) (cond (is_gap b) (closed room s) (stopped StrayByte s))

-- byte after byte, up to the first fault
unfoldable pub scan : ℕ → List ℕ → Scan → Scan
scan room [] s = closed room s
scan room (b ∷ bs) s = cond (is_some (byte_taken room b s).fault) (byte_taken room b s) (scan room bs (byte_taken room b s))

-- the numbers of a text, where there is room for so many
abbrev pub read_numbers : ℕ → List ℕ → Scan
read_numbers room text = scan room text begin

-- what is said of the numbers of a text, and why: N, W, the value's W words, the log
abbrev pub judged_numbers : List ℕ → Judgement
judged_numbers ns = judged_with_reason (get_or ns 0 0) (get_or ns 1 0) (take (get_or ns 1 0) (drop 2 ns)) (drop (get_or ns 1 0) (drop 2 ns))
