-- Small files by computation, their bytes written out from CR 12's words: which number two of them give, and what comes
-- out.
use Prim.Native.Nat.{ℕ}
use mathlib.Core.Path.{◌≡◌, refl, ap, ap₂, ◌∙◌}
use mathlib.Core.List.{List, [], ◌∷◌, ◌++◌}
use mathlib.Core.Bool.{Bool, true, not, cond, ◌&&◌}
use lib.Dec.{leb}
use lib.ListN.{length, replicate}
use Rattle.boards.specs.Files.{largest, marked, ends_there, good_trailer, good_records, file_number}
use Rattle.boards.specs.Files.{records_of, good_fronts, rising, records_bytes}
use Rattle.boards.specs.Merging.{merge, merge_number, merge_files}

-- a record of a tick below 256, and a trailer of an offset and a count below 256
line : ℕ → ℕ → ℕ → ℕ → List ℕ
line tick value process order = tick ∷ 0 ∷ 0 ∷ 0 ∷ value ∷ 0 ∷ 0 ∷ 0 ∷ process ∷ order ∷ 0 ∷ 0 ∷ []

tail : ℕ → ℕ → List ℕ
tail at k = at ∷ 0 ∷ 0 ∷ 0 ∷ k ∷ 0 ∷ 0 ∷ 0 ∷ 84 ∷ 82 ∷ 65 ∷ 76 ∷ []

-- process 0 at ticks 1, 3, 3; process 1 at ticks 2 and 3, after three free bytes
first : List ℕ
first = line 1 0 0 1 ++ (line 3 0 0 0 ++ (line 3 9 0 2 ++ tail 0 3))

second : List ℕ
second = 7 ∷ 7 ∷ 7 ∷ (line 2 0 1 1 ++ (line 3 0 1 3 ++ tail 3 2))

empty : List ℕ
empty = 7 ∷ tail 1 0

-- the first file's two records of tick 3 before the second's; the byte after the result stays
both_files :
    merge_files first second (replicate 73 5)
    ≡ (
      record { number = 0; written = 72 },
      line 1 0 0 1 ++ (line 2 0 1 1 ++ (line 3 0 0 0 ++ (line 3 9 0 2 ++ (line 3 0 1 3 ++ (tail 0 5 ++ (5 ∷ [])))))),
    )
unfolding line tail first second merge_files merge_number good_trailer records_of good_fronts rising merge records_bytes
both_files = refl

with_empty : merge_files empty second (replicate 36 5) ≡ (record { number = 0; written = 36 }, line 2 0 1 1 ++ (line 3 0 1 3 ++ tail 0 2))
unfolding line tail second empty merge_files merge_number good_trailer records_of good_fronts rising merge records_bytes
with_empty = refl

-- the rows in their order: a bad trailer in the second file before a bad record in the first; a bad record before a
-- process in both files; that before too little room; room one byte short
offset_too_far : merge_number (line 1 0 0 4 ++ tail 0 1) (line 1 0 1 0 ++ tail 12 1) 48 ≡ 25
unfolding line tail merge_number good_trailer records_of good_fronts rising
offset_too_far = refl

value_with_ll : merge_number (line 1 9 0 1 ++ tail 0 1) (line 1 0 0 0 ++ tail 0 1) 36 ≡ 26
unfolding line tail merge_number good_trailer records_of good_fronts rising
value_with_ll = refl

tick_falls : merge_number (line 2 0 0 1 ++ (line 1 0 0 0 ++ tail 0 2)) (line 1 0 0 0 ++ tail 0 1) 48 ≡ 26
unfolding line tail merge_number good_trailer records_of good_fronts rising
tick_falls = refl

process_in_both : merge_number (line 1 0 0 1 ++ tail 0 1) (line 2 0 0 0 ++ tail 0 1) 0 ≡ 27
unfolding line tail merge_number good_trailer records_of good_fronts rising
process_in_both = refl

one_byte_short : merge_number first second 71 ≡ 28
unfolding line tail first second merge_number good_trailer records_of good_fronts rising
one_byte_short = refl

-- before a run
orders_to_three : file_number (line 1 0 200 3 ++ tail 0 1) ≡ 0
unfolding line tail file_number good_trailer records_of good_fronts rising
orders_to_three = refl

-- a record that ends in two given bytes, and a trailer with the given mark
ending : ℕ → ℕ → List ℕ
ending a b = 1 ∷ 0 ∷ 0 ∷ 0 ∷ 0 ∷ 0 ∷ 0 ∷ 0 ∷ 0 ∷ 1 ∷ a ∷ b ∷ []

mark : ℕ → ℕ → ℕ → ℕ → List ℕ
mark a b c d = 0 ∷ 0 ∷ 0 ∷ 0 ∷ 1 ∷ 0 ∷ 0 ∷ 0 ∷ a ∷ b ∷ c ∷ d ∷ []

-- "order (1: 0 step, 1 LL, 2 SC, 3 VL), two zero bytes" and "the bytes 54 52 41 4C hex", each byte of them
record OneFile : Type 0 where
  good : file_number (ending 0 0 ++ mark 84 82 65 76) ≡ 0
  order_4 : file_number (line 1 0 0 4 ++ tail 0 1) ≡ 26
  first_end_byte : file_number (ending 1 0 ++ mark 84 82 65 76) ≡ 26
  last_end_byte : file_number (ending 0 1 ++ mark 84 82 65 76) ≡ 26
  first_mark : file_number (ending 0 0 ++ mark 85 82 65 76) ≡ 25
  second_mark : file_number (ending 0 0 ++ mark 84 83 65 76) ≡ 25
  third_mark : file_number (ending 0 0 ++ mark 84 82 66 76) ≡ 25
  last_mark : file_number (ending 0 0 ++ mark 84 82 65 77) ≡ 25

one_file : OneFile
unfolding line tail ending mark file_number good_trailer records_of good_fronts rising
one_file = record {
  good = refl;
  order_4 = refl;
  first_end_byte = refl;
  last_end_byte = refl;
  first_mark = refl;
  second_mark = refl;
  third_mark = refl;
  last_mark = refl;
}

-- "a file over 16,777,216 bytes": a file of just so many is not refused for that, and one byte more is, whatever it holds
longest : (bs : List ℕ) → length bs ≡ 16777216 → marked bs ≡ true → ends_there bs ≡ true → good_trailer bs ≡ true
unfolding good_trailer
longest bs e m t =
    ap (λ (n : ℕ). leb 12 n && (leb n 16777216 && (marked bs && ends_there bs))) e ∙ ap₂ ◌&&◌ m t

too_long : (bs : List ℕ) → length bs ≡ 16777217 → file_number bs ≡ 25
unfolding file_number good_trailer
too_long bs e =
    let trailer : ℕ → Bool = λ n. leb 12 n && (leb n largest && (marked bs && ends_there bs)) in
    let number : ℕ → ℕ = λ n. cond (not (trailer n)) 25 (cond (not (good_records bs)) 26 0) in
    ap number e
