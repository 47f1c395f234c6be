-- Row 9 over the whole list, by its numbers.
-- Inner: `WholeLaws` proves that it is `station`'s, of the memory that the list stands for.
use Rattle.std.specs.Prelude.{ℕ, ◌+◌, List, Bool, ◌&&◌, not, cond, eqb, ltb, leb}
use Rattle.model.specs.SetUp.{numbers}
use Rattle.model.specs.Sizes.{buffers, sequence_numbers, halves, busy_most}
use Rattle.model.specs.Refusals.{x_place_ok, bank_place_ok, help_place_ok}
use Rattle.llsc.specs.Rows.{every}
use Rattle.station.specs.StationRefusals.{station_in_range}
use Rattle.held_model.specs.Layout.{call_place, record_place, bank_place, help_place, holding_place}
use Rattle.held_model.specs.Memory.{number_at, x_from, bank_from, help_from, memory_of}
use Rattle.held_rows.specs.Reads.{line_number_ok}
use Rattle.held_rows.specs.ListRows.{lent_number}

abbrev pub bench_from_ok : List ℕ → ℕ → ℕ → Bool
bench_from_ok l n j =
    x_place_ok n (x_from l (record_place j)) && (every (λ i. bank_place_ok n (bank_from l (bank_place j i))) (numbers 0 (sequence_numbers n)) &&
    every (λ p. help_place_ok n (help_from l (help_place j p))) (numbers 0 n))

-- what a process holds of a record, whose numbers begin at k
abbrev pub holding_from_ok : List ℕ → ℕ → ℕ → Bool
holding_from_ok l n k =
    ltb (number_at l k) (buffers n) && (ltb (number_at l (k + 1)) (buffers n) && ltb (number_at l (k + 2)) (sequence_numbers n))

-- a record: its tables, and what the N processes hold of it
abbrev pub record_from_ok : List ℕ → ℕ → ℕ → Bool
record_from_ok l n j = bench_from_ok l n j && every (λ p. holding_from_ok l n (holding_place j p)) (numbers 0 n)

-- line, word place and count of a process, whichever record's bench has them
abbrev pub stage_ok : ℕ → ℕ → ℕ → ℕ → Bool
stage_ok w line word count = line_number_ok line && (ltb word (halves w) && leb count (cond (eqb line 0) 0 (busy_most w)))

-- the open call of a process, whose numbers begin at k: on a record below R, on record 0 when idle
abbrev pub call_from_ok : List ℕ → ℕ → ℕ → ℕ → ℕ → Bool
call_from_ok l n w r k =
    ltb (number_at l (k + 3)) (cond (eqb (number_at l k) 0) 1 r) &&
    (ltb (number_at l (k + 4)) (buffers n) && (ltb (number_at l (k + 5)) (buffers n) &&
    (ltb (number_at l (k + 6)) (buffers n) && (ltb (number_at l (k + 7)) (buffers n) &&
    stage_ok w (number_at l k) (number_at l (k + 1)) (number_at l (k + 2))))))

abbrev pub list_in_range : List ℕ → ℕ → ℕ → ℕ → Bool
list_in_range l n w r = every (record_from_ok l n) (numbers 0 r) && every (λ p. call_from_ok l n w r (call_place p)) (numbers 0 n)

-- the number of the first of rows 1, 2, 23, 3, 9 that holds, 0 for none
abbrev pub memory_number : List ℕ → ℕ
memory_number l = cond (eqb (lent_number l) 0) (cond (not (station_in_range (memory_of l))) 9 0) (lent_number l)
