-- The refusal table (01, "When the bench says no") of this bench: `llsc`'s rows, with the words that are needed here
-- and the ranges of the numbers; and the rows of a view.
use Rattle.std.specs.Prelude.{ℕ, ◌/◌, ◌%◌, ◌^◌, List, [], ◌∷◌, Bool, not, ◌&&◌, ◌||◌, cond, eqb, ltb, leb, length, take}
use Rattle.model.specs.declared.BufferNumber.{BufferNumber}
use Rattle.model.specs.declared.SequenceNumber.{SequenceNumber}
use Rattle.model.specs.declared.XContent.{XContent}
use Rattle.model.specs.Places.{XPlace, BankPlace, HelpPlace}
use Rattle.model.specs.declared.Bench.{Bench}
use Rattle.model.specs.declared.Process.{Process}
use Rattle.llsc.specs.declared.Order.{Order}
use Rattle.llsc.specs.Rows as AnyBench
use Rattle.llsc.specs.Rows.{Row, every, some, row2, row8always}
use Rattle.model.specs.Sizes.{buffers, sequence_numbers, halves, lent_words, busy_most}
use Rattle.model.specs.Points.{line_number, idle, busy_points}
use Rattle.model.specs.Records.{record_at}
use Rattle.model.specs.Machine.{Memory}

-- Row 3: "fewer than 5NW words or N process records lent", for so many records and words
abbrev pub row3 : ℕ → ℕ → ℕ → ℕ → Row
row3 n w records words = AnyBench.row3 n (lent_words n w) records words

-- Row 9, "exactly, over what N needs". A number is in its range:
-- "a buffer number not below 3N, a sequence number not below 2N"
abbrev pub buffer_ok : ℕ → BufferNumber → Bool
buffer_ok n b = ltb b.0 (buffers n)

abbrev pub sequence_ok : ℕ → SequenceNumber → Bool
sequence_ok n s = ltb s.0 (sequence_numbers n)

abbrev pub x_ok : ℕ → XContent → Bool
x_ok n x = buffer_ok n x.buf && sequence_ok n x.seq

-- "a link of a process not below N": no bit from n on is set
abbrev pub links_ok : ℕ → ℕ → Bool
links_ok n links = ltb links (2 ^ n)

-- X, a place of Bank, a place of Help ("a flag above 1")
abbrev pub x_place_ok : ℕ → XPlace → Bool
x_place_ok n x = x_ok n x.content && links_ok n x.links

abbrev pub bank_place_ok : ℕ → BankPlace → Bool
bank_place_ok n k = buffer_ok n k.content && links_ok n k.links

abbrev pub help_place_ok : ℕ → HelpPlace → Bool
help_place_ok n h = leb h.content.flag 1 && (buffer_ok n h.content.buf && links_ok n h.links)

-- "a line that is neither idle nor a step named above", "a busy count above 8W+6, an idle count above 0"
abbrev pub is_idle : Process → Bool
is_idle q = eqb q.line (line_number idle)

abbrev pub line_ok : Process → Bool
line_ok q = is_idle q || some (λ y. eqb q.line (line_number y)) busy_points

abbrev pub count_ok : ℕ → Process → Bool
count_ok w q = leb q.count (cond (is_idle q) 0 (busy_most w))

-- a process record; the word place counts halves, "below 2W"
abbrev pub process_ok : ℕ → ℕ → Process → Bool
process_ok n w q =
    buffer_ok n q.mybuf && (x_ok n q.x && (buffer_ok n q.b && (buffer_ok n q.c && (buffer_ok n q.d && (buffer_ok n q.e &&
    (line_ok q && (ltb q.word (halves w) && count_ok w q)))))))

abbrev pub bench_ok : Bench → Bool
bench_ok b = x_place_ok b.n b.x && (every (bank_place_ok b.n) (take (sequence_numbers b.n) b.bank) && every (help_place_ok b.n) (take b.n b.help))

unfoldable pub in_range : Memory → Bool
in_range m = bench_ok m.bench && every (process_ok m.bench.n m.bench.w) (take m.bench.n m.records)

-- rows 5, 6, 7 of a process's record
abbrev pub row5 : Order → Process → Row
row5 o q = AnyBench.row5 o (is_idle q)

abbrev pub row6 : Order → Process → Row
row6 o q = AnyBench.row6 o (is_idle q)

abbrev pub row7 : Order → Process → Row
row7 o q = AnyBench.row7 o q.answered

-- Row 3 of a view: "the written list not a whole number of values". Row 15: "view of a success number above those
-- written".
abbrev pub row3view : ℕ → ℕ → Row
row3view w written = record { number = 3; holds = not (eqb (written % w) 0) }

abbrev pub row15 : ℕ → ℕ → ℕ → Row
row15 w written k = record { number = 15; holds = ltb (written / w) k }

-- Rows 1, 2, 3, with which a command's rows and a set-up's begin; `rest` is what follows them
abbrev pub lent_rows : ℕ → ℕ → ℕ → ℕ → List Row → List Row
lent_rows n w records words rest = AnyBench.lent_rows n w (lent_words n w) records words rest

-- the rows of a command, for so many records and words lent, with the truth of row 9's ranges and the record q of its
-- process
abbrev pub process_rows : ℕ → ℕ → ℕ → Order → ℕ → Process → List Row
process_rows n w p o value q = AnyBench.process_rows n w p o value (is_idle q) q.answered

abbrev pub rows_of : ℕ → ℕ → ℕ → ℕ → Bool → ℕ → Order → ℕ → Process → List Row
rows_of n w records words ranges p o value q = AnyBench.command_rows n w (lent_words n w) records words ranges p o value (is_idle q) q.answered

abbrev pub command_rows : Memory → ℕ → Order → List ℕ → List Row
command_rows m p o value =
    rows_of m.bench.n m.bench.w (length m.records) (length m.words) (in_range m) p o (length value) (record_at m.records (record { 0 = p }))

-- the rows of a set-up
abbrev pub set_up_rows_of : ℕ → ℕ → ℕ → ℕ → ℕ → List Row
set_up_rows_of n w records words value = AnyBench.set_up_rows n w (lent_words n w) records words value

abbrev pub set_up_rows : Memory → ℕ → ℕ → List ℕ → List Row
set_up_rows m n w value = set_up_rows_of n w (length m.records) (length m.words) (length value)

-- "A view takes 2, 3, 8, 15"
abbrev pub view_rows : ℕ → List ℕ → List ℕ → ℕ → List Row
view_rows w value written k = row2 w ∷ row3view w (length written) ∷ row8always w (length value) ∷ row15 w (length written) k ∷ []
