-- A file that is written and read again: the same records, a good trailer, no free bytes.
use mathlib.Core.Path.{◌≡◌, refl, ap, ap₂, ◌∙◌}
use mathlib.Core.List.{List, [], ◌∷◌}
use mathlib.Core.Bool.{true, ◌&&◌}
use Prim.Native.Nat.{ℕ, zero, suc, ◌+◌, ◌*◌, ◌/◌, ◌%◌, ◌≤◌, ◌<◌}
use native.Mathlib.Omega.{arith}
use lib.Dec.{eqb}
use borrow.Author.Tests.{le-leb, eq-eqb}
use lib.ListN.{length, drop}
use lib.Seq.{get_or-append-add}
use lib.Pow.{shr-shr}
use Rattle.llsc.specs.Linearizable.{All}
use Rattle.laws.proofs.AndLaws.{left, right}
use Rattle.boards.specs.Files.{BoardRecord, byte_at, joined, number4, trailer_at, offset, count, largest, good_trailer}
use Rattle.boards.specs.Files.{record_of, good_record, good_front, records_of, good_fronts, rising, decode, good_records, trailer, record_bytes, records_bytes, encode}
use Rattle.boards.specs.Promises.{Bytes}

-- a record whose numbers fit their bytes
pub record Fits (r : BoardRecord) : Type 0 where
  pub tick : r.tick < 4294967296
  pub value : r.value < 4294967296
  pub process : r.process < 256
  pub order : r.order < 256

pub split_joined : (v : ℕ) → v < 4294967296 → joined (v % 256) ((v / 256) % 256) ((v / 65536) % 256) ((v / 16777216) % 256) ≡ v
split_joined v h =
    let a : v / 256 / 256 ≡ v / 65536 = shr-shr v 8 8 in
    let b : v / 65536 / 256 ≡ v / 16777216 = shr-shr v 16 8 in
    let c : v / 256 / 256 * 256 + (v / 256) % 256 ≡ v / 256 = omega arith in
    let d : v / 65536 / 256 * 256 + (v / 65536) % 256 ≡ v / 65536 = omega arith in
    let e : (v / 16777216) % 256 ≡ v / 16777216 = omega arith in
    let f : v / 256 * 256 + v % 256 ≡ v = omega arith in
    omega arith

record_back : (r : BoardRecord) (rest : List ℕ) → Fits r → record_of (record_bytes r rest) ≡ r
record_back r rest f = ap₂ (λ (t v : ℕ). record { tick = t; value = v; process = r.process; order = r.order }) (split_joined r.tick f.tick) (split_joined r.value f.value)

pub records_back : (rs : List BoardRecord) (rest : List ℕ) → All Fits rs → records_of (length rs) (records_bytes rs rest) ≡ rs
unfolding records_of records_bytes
records_back [] rest f = refl
records_back (r ∷ rs) rest f = ap₂ ◌∷◌ (record_back r (records_bytes rs rest) f.0) (records_back rs rest f.1)

pub fronts_back : (rs : List BoardRecord) (rest : List ℕ) → All Fits rs → All (λ r. good_record r ≡ true) rs → good_fronts (length rs) (records_bytes rs rest) ≡ true
unfolding good_fronts records_bytes
fronts_back [] rest f g = refl
fronts_back (r ∷ rs) rest f g =
    ap₂ ◌&&◌ (ap₂ ◌&&◌ (ap good_record (record_back r (records_bytes rs rest) f.0) ∙ g.0) refl) (fronts_back rs rest f.1 g.1)

-- its length, and its trailer
pub size : (rs : List BoardRecord) (rest : List ℕ) → length (records_bytes rs rest) ≡ 12 * length rs + length rest
unfolding records_bytes
size [] rest = omega arith
size (r ∷ rs) rest = let e = size rs rest in omega arith

behind : (rs : List BoardRecord) (rest : List ℕ) (i : ℕ) → byte_at (records_bytes rs rest) (12 * length rs + i) ≡ byte_at rest i
unfolding records_bytes
behind [] rest i = ap (byte_at rest) (let e : 12 * 0 + i ≡ i = omega arith in e)
behind (r ∷ rs) rest i =
    ap (byte_at (record_bytes r (records_bytes rs rest))) (let e : 12 * suc (length rs) + i ≡ 12 + (12 * length rs + i) = omega arith in e)
    ∙ get_or-append-add (record_bytes r []) (records_bytes rs rest) (12 * length rs + i) 0
    ∙ behind rs rest i

module _ (rs : List BoardRecord) (small : 12 * length rs + 12 ≤ largest) where
  k : ℕ
  k = length rs

  pub whole : length (encode rs) ≡ 12 * length rs + 12
  whole = size rs (trailer 0 (length rs))

  at : (j i : ℕ) → j ≡ 12 * length rs + i → byte_at (encode rs) j ≡ byte_at (trailer 0 (length rs)) i
  at j i e = ap (byte_at (encode rs)) e ∙ behind rs (trailer 0 (length rs)) i

  place : trailer_at (encode rs) ≡ 12 * length rs
  place = let e = whole in omega arith

  four : (j i : ℕ) → j ≡ 12 * length rs + i → number4 (encode rs) j ≡ number4 (trailer 0 (length rs)) i
  four j i e = ap₂ (λ (a b : ℕ). a + 256 * b + 65536 * byte_at (encode rs) (j + 2) + 16777216 * byte_at (encode rs) (j + 3)) (at j i e) (at (j + 1) (i + 1) (omega arith))
      ∙ ap₂ (λ (c d : ℕ). joined (byte_at (trailer 0 (length rs)) i) (byte_at (trailer 0 (length rs)) (i + 1)) c d) (at (j + 2) (i + 2) (omega arith)) (at (j + 3) (i + 3) (omega arith))

  pub offset_back : offset (encode rs) ≡ 0
  offset_back = four (trailer_at (encode rs)) 0 (place ∙ (let e : 12 * length rs ≡ 12 * length rs + 0 = omega arith in e))

  pub count_back : count (encode rs) ≡ length rs
  count_back = four (trailer_at (encode rs) + 4) 4 (ap (λ (a : ℕ). a + 4) place) ∙ split_joined (length rs) (omega arith)

  pub good_trailer_is : good_trailer (encode rs) ≡ true
  unfolding good_trailer
  good_trailer_is =
      ap₂ ◌&&◌ (le-leb 12 (length (encode rs)) (omega (arith, whole))) (ap₂ ◌&&◌ (le-leb (length (encode rs)) largest (omega (arith, whole))) (ap₂ ◌&&◌
      (ap₂ ◌&&◌ (is 8 84 refl) (ap₂ ◌&&◌ (is 9 82 refl) (ap₂ ◌&&◌ (is 10 65 refl) (is 11 76 refl))))
      (eq-eqb (offset (encode rs) + 12 * count (encode rs) + 12) (length (encode rs)) (omega (arith, whole, offset_back, count_back)))))
    where
      is : (i v : ℕ) → byte_at (trailer 0 (length rs)) i ≡ v → eqb (byte_at (encode rs) (trailer_at (encode rs) + i)) v ≡ true
      is i v e = eq-eqb (byte_at (encode rs) (trailer_at (encode rs) + i)) v (at (trailer_at (encode rs) + i) i (ap (λ (a : ℕ). a + i) place) ∙ e)

  -- decode of encode
  pub decode_back : All Fits rs → decode (encode rs) ≡ rs
  decode_back f = ap₂ (λ (c o : ℕ). records_of c (drop o (encode rs))) count_back offset_back ∙ records_back rs (trailer 0 (length rs)) f

  pub good_back : All Fits rs → All (λ r. good_record r ≡ true) rs → rising 0 rs ≡ true → good_records (encode rs) ≡ true
  good_back f g h =
      ap₂ ◌&&◌ (ap₂ (λ (c o : ℕ). good_fronts c (drop o (encode rs))) count_back offset_back ∙ fronts_back rs (trailer 0 (length rs)) f g) (ap (rising 0) (decode_back f) ∙ h)

-- what is read of bytes fits
below : (bs : List ℕ) (i : ℕ) → Bytes bs → byte_at bs i < 256
below [] i b = omega arith
below (x ∷ bs) zero b = b.0
below (x ∷ bs) (suc i) b = below bs i b.1

pub bytes_drop : (n : ℕ) (bs : List ℕ) → Bytes bs → Bytes (drop n bs)
bytes_drop zero bs b = b
bytes_drop (suc n) [] b = tt
bytes_drop (suc n) (x ∷ bs) b = bytes_drop n bs b.1

four_below : (bs : List ℕ) (i : ℕ) → Bytes bs → number4 bs i < 4294967296
four_below bs i b = omega (arith, below bs i b, below bs (i + 1) b, below bs (i + 2) b, below bs (i + 3) b)

pub records_fit : (k : ℕ) (bs : List ℕ) → Bytes bs → All Fits (records_of k bs)
unfolding records_of
records_fit zero bs b = tt
records_fit (suc k) bs b = (record { tick = four_below bs 0 b; value = four_below bs 4 b; process = below bs 8 b; order = below bs 9 b }, records_fit k (drop 12 bs) (bytes_drop 12 bs b))

pub records_good : (k : ℕ) (bs : List ℕ) → good_fronts k bs ≡ true → All (λ r. good_record r ≡ true) (records_of k bs)
unfolding records_of good_fronts
records_good zero bs e = tt
records_good (suc k) bs e =
    (left (good_record (record_of bs)) _ (left (good_front bs) _ e), records_good k (drop 12 bs) (right (good_front bs) (good_fronts k (drop 12 bs)) e))
