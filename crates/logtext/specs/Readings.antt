-- A reading as the code holds it: the numbers read lie at the front of lent memory, and are counted.
-- Inner: `ReadingLaws` proves that a byte so read is `Numbers`' `byte_taken`, and puts the bytes together.
use Rattle.std.specs.Prelude.{ℕ, ◌+◌, ◌-◌, ◌*◌, ◌^◌, List, cond, ltb, length, set, Option, None, Some}
use Rattle.std.proofs.lemmas.List.Edits.{sets}
use Rattle.logtext.specs.declared.Fault.{Fault}
use Rattle.logtext.specs.declared.Fault.TheVariants.{StrayByte, TooLarge, TooMany}
use Rattle.logtext.specs.declared.Reading.{Reading}
use Rattle.logtext.specs.Numbers.{Scan, is_digit, is_gap, longer, read_numbers}

abbrev pub counted : Scan → Reading
counted s = record { fault = s.fault; number = s.number; count = length s.got }

-- a reading, and the lent list with its numbers at its front, the rest as it was lent
abbrev pub read_into : List ℕ → Scan → Reading × List ℕ
read_into ns s = (counted s, sets ns 0 s.got)

-- that of a whole text: as many numbers as there is room for
abbrev pub text_into : List ℕ → List ℕ → Reading × List ℕ
text_into text ns = read_into ns (read_numbers (length ns) text)

abbrev pub stopped_at : Fault → Reading → Reading
stopped_at k r = record { fault = Some k; number = r.number; count = r.count }

-- a number with one digit more, where it is below 2^64
abbrev pub with_digit : ℕ → ℕ → Option ℕ
with_digit n d = cond (ltb (n * 10 + d) (2 ^ 64)) (Some (n * 10 + d)) None

abbrev pub digit_read : ℕ → Reading → Reading
digit_read d r =
    cond (ltb (longer r.number d) (2 ^ 64)) (record { fault = None; number = Some (longer r.number d); count = r.count }) (stopped_at TooLarge r)

-- the number being read, if there is one, ends here, and is put behind those that were read
abbrev pub ended_into : Option ℕ → Reading → List ℕ → Reading × List ℕ
ended_into None r ns =
    (r, ns)
ended_into (Some n) r ns =
    cond (ltb r.count (length ns)) (record { fault = None; number = None; count = r.count + 1 }, set ns r.count n) (stopped_at TooMany r, ns)

abbrev pub closed_into : Reading → List ℕ → Reading × List ℕ
closed_into r ns = ended_into r.number r ns

-- one byte more
abbrev pub byte_into : ℕ → Reading → List ℕ → Reading × List ℕ
byte_into b r ns = cond (is_digit b) (digit_read (b - 48) r, ns) (cond (is_gap b) (closed_into r ns) (stopped_at StrayByte r, ns))
