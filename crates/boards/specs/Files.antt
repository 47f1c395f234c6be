-- A board's trace file (02, CR 12): "free bytes, then records of 12 bytes, then a trailer of 12 bytes". A file is the
-- list of its bytes, each below 256.
use Rattle.std.specs.Prelude.{ℕ, zero, suc, ◌+◌, ◌-◌, ◌*◌, ◌/◌, ◌%◌, List, [], ◌∷◌, Bool, true, not, ◌&&◌, ◌||◌, eqb, leb, length, get_or, drop}
use Rattle.llsc.specs.Rows.{Row, first}

-- "A record is tick (4 bytes), value (4), process (1), order (1: 0 step, 1 LL, 2 SC, 3 VL), two zero bytes."
pub record BoardRecord : Type 0 where
  pub tick : ℕ
  pub value : ℕ
  pub process : ℕ
  pub order : ℕ

-- the byte at place i, and the four bytes from there on as a number: "Numbers go low byte first."
abbrev pub byte_at : List ℕ → ℕ → ℕ
byte_at bs i = get_or bs i 0

abbrev pub joined : ℕ → ℕ → ℕ → ℕ → ℕ
joined a b c d = a + 256 * b + 65536 * c + 16777216 * d

abbrev pub number4 : List ℕ → ℕ → ℕ
number4 bs i = joined (byte_at bs i) (byte_at bs (i + 1)) (byte_at bs (i + 2)) (byte_at bs (i + 3))

-- "The trailer is the offset of the first record (4), the count of records (4) and the bytes 54 52 41 4C hex"
abbrev pub trailer_at : List ℕ → ℕ
trailer_at bs = length bs - 12

abbrev pub offset : List ℕ → ℕ
offset bs = number4 bs (trailer_at bs)

abbrev pub count : List ℕ → ℕ
count bs = number4 bs (trailer_at bs + 4)

-- 54, 52, 41, 4C hex
abbrev pub marked : List ℕ → Bool
marked bs =
    let at = trailer_at bs in
    eqb (byte_at bs (at + 8)) 84
    && (eqb (byte_at bs (at + 9)) 82 && (eqb (byte_at bs (at + 10)) 65 && eqb (byte_at bs (at + 11)) 76))

-- "a file over 16,777,216 bytes"
abbrev pub largest : ℕ
largest = 16777216

-- "the records end where it starts"
abbrev pub ends_there : List ℕ → Bool
ends_there bs = eqb (offset bs + 12 * count bs + 12) (length bs)

-- What row 25 asks of a file: a trailer, and no more than 16,777,216 bytes
unfoldable pub good_trailer : List ℕ → Bool
good_trailer bs = leb 12 (length bs) && (leb (length bs) largest && (marked bs && ends_there bs))

-- the record at the front of these bytes, and k records from the front
abbrev pub record_of : List ℕ → BoardRecord
record_of bs = record { tick = number4 bs 0; value = number4 bs 4; process = byte_at bs 8; order = byte_at bs 9 }

unfoldable pub records_of : ℕ → List ℕ → List BoardRecord
records_of zero bs = []
records_of (suc k) bs = record_of bs ∷ records_of k (drop 12 bs)

-- the records of a file
abbrev pub decode : List ℕ → List BoardRecord
decode bs = records_of (count bs) (drop (offset bs) bs)

-- "Any process byte will do; value is 0 unless the order is 2." The order is 0 to 3, and two zero bytes follow it.
abbrev pub good_record : BoardRecord → Bool
good_record r = leb r.order 3 && (eqb r.order 2 || eqb r.value 0)

abbrev pub good_front : List ℕ → Bool
good_front bs = good_record (record_of bs) && (eqb (byte_at bs 10) 0 && eqb (byte_at bs 11) 0)

unfoldable pub good_fronts : ℕ → List ℕ → Bool
good_fronts zero bs = true
good_fronts (suc k) bs = good_front bs && good_fronts k (drop 12 bs)

-- the ticks never fall, from t on
unfoldable pub rising : ℕ → List BoardRecord → Bool
rising t [] = true
rising t (r ∷ rs) = leb t r.tick && rising r.tick rs

-- What row 26 asks of a file: good records, and no tick below the one before it
abbrev pub good_records : List ℕ → Bool
good_records bs = good_fronts (count bs) (drop (offset bs) bs) && rising 0 (decode bs)

-- "25 for a bad trailer or a file over 16,777,216 bytes, 26 for a bad record or falling tick", as before a run
abbrev pub file_rows : List ℕ → List Row
file_rows bs =
    record { number = 25; holds = not (good_trailer bs) }
    ∷ record { number = 26; holds = not (good_records bs) } ∷ []

unfoldable pub file_number : List ℕ → ℕ
file_number bs = first (file_rows bs)

-- The bytes of a number, of a record, of records, of a trailer, each in front of others
abbrev pub bytes4 : ℕ → List ℕ → List ℕ
bytes4 v rest = v % 256 ∷ (v / 256) % 256 ∷ (v / 65536) % 256 ∷ (v / 16777216) % 256 ∷ rest

abbrev pub record_bytes : BoardRecord → List ℕ → List ℕ
record_bytes r rest = bytes4 r.tick (bytes4 r.value (r.process ∷ r.order ∷ 0 ∷ 0 ∷ rest))

unfoldable pub records_bytes : List BoardRecord → List ℕ → List ℕ
records_bytes [] rest = rest
records_bytes (r ∷ rs) rest = record_bytes r (records_bytes rs rest)

abbrev pub trailer : ℕ → ℕ → List ℕ
trailer at k = bytes4 at (bytes4 k (84 ∷ 82 ∷ 65 ∷ 76 ∷ []))

-- a file with no free bytes: its first record stands at 0
abbrev pub encode : List BoardRecord → List ℕ
encode rs = records_bytes rs (trailer 0 (length rs))
