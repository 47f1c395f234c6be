-- The refusal table for this bench: "Rows 1 to 9 serve this bench: (3N + 1) × W words lent, tags apart, word place below
-- W, busy count at most 6W+1, every process number kept below N; no new number" (02, CR 8): `llsc`'s rows, with the words
-- that are needed here and the ranges of the numbers.
use Rattle.std.specs.Prelude.{ℕ, List, Bool, ◌&&◌, ◌||◌, cond, eqb, ltb, leb, length, take}
use Rattle.llsc.specs.declared.Order.{Order}
use Rattle.llsc.specs.Rows as AnyBench
use Rattle.llsc.specs.Rows.{Row, every, some}
use Rattle.moir_model.specs.declared.Header.{Header}
use Rattle.moir_model.specs.declared.Process.{Process}
use Rattle.moir_model.specs.Sizes.{lent_words, busy_most}
use Rattle.moir_model.specs.Points.{line_number, idle, busy_points}
use Rattle.moir_model.specs.Records.{record_at}
use Rattle.moir_model.specs.Machine.{Memory}

-- Row 3: fewer than (3N + 1)W words or N process records lent, for so many records and words
abbrev pub row3 : ℕ → ℕ → ℕ → ℕ → Row
row3 n w records words = AnyBench.row3 n (lent_words n w) records words

-- Row 9: "every process number kept below N"; every tag is in range
abbrev pub header_ok : ℕ → Header → Bool
header_ok n h = ltb h.pid.0 n

abbrev pub is_idle : Process → Bool
is_idle q = eqb q.line (line_number idle)

-- "a line that is neither idle nor a step named above", "busy count at most 6W+1", "an idle count above 0"
abbrev pub line_ok : Process → Bool
line_ok q = is_idle q || some (λ y. eqb q.line (line_number y)) busy_points

abbrev pub count_ok : ℕ → Process → Bool
count_ok w q = leb q.count (cond (is_idle q) 0 (busy_most w))

-- a process record; "word place below W"
abbrev pub process_ok : ℕ → ℕ → Process → Bool
process_ok n w q =
    header_ok n q.x && (header_ok n q.oldhdr && (header_ok n q.newhdr && (header_ok n q.h &&
    (line_ok q && (ltb q.word w && count_ok w q)))))

unfoldable pub in_range : Memory → Bool
in_range m = header_ok m.bench.n m.bench.header && every (process_ok m.bench.n m.bench.w) (take m.bench.n m.records)

-- rows 5, 6, 7 of a process's record; for 7 a WLL is the LL
abbrev pub row5 : Order → Process → Row
row5 o q = AnyBench.row5 o (is_idle q)

abbrev pub row6 : Order → Process → Row
row6 o q = AnyBench.row6 o (is_idle q)

abbrev pub row7 : Order → Process → Row
row7 o q = AnyBench.row7 o q.answered

-- the rows of a command, for so many records and words lent, with the truth of row 9's ranges and the record q of its
-- process
abbrev pub process_rows : ℕ → ℕ → ℕ → Order → ℕ → Process → List Row
process_rows n w p o value q = AnyBench.process_rows n w p o value (is_idle q) q.answered

abbrev pub rows_of : ℕ → ℕ → ℕ → ℕ → Bool → ℕ → Order → ℕ → Process → List Row
rows_of n w records words ranges p o value q =
    AnyBench.command_rows n w (lent_words n w) records words ranges p o value (is_idle q) q.answered

abbrev pub command_rows : Memory → ℕ → Order → List ℕ → List Row
command_rows m p o value =
    rows_of m.bench.n m.bench.w (length m.records) (length m.words) (in_range m) p o (length value) (record_at m.records (record { 0 = p }))

-- the rows of a set-up
abbrev pub set_up_rows_of : ℕ → ℕ → ℕ → ℕ → ℕ → List Row
set_up_rows_of n w records words value = AnyBench.set_up_rows n w (lent_words n w) records words value

abbrev pub set_up_rows : Memory → ℕ → ℕ → List ℕ → List Row
set_up_rows m n w value = set_up_rows_of n w (length m.records) (length m.words) (length value)
