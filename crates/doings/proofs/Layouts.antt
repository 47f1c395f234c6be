-- The rows of a record's words: they lie apart, and inside the words that are lent.
use mathlib.Core.Path.{◌≡◌, ap}
use mathlib.Core.Logic.{◌≢◌}
use Prim.Native.Nat.{ℕ, suc, ◌+◌, ◌*◌, ◌≤◌, ◌<◌}
use native.Mathlib.Nat.{mul-le-mul_right, suc-mul}
use native.Mathlib.Decide.{dec_lt}
use native.Mathlib.Omega.{arith}
use Rattle.model.specs.Sizes.{buffers}
use Rattle.model.specs.Words.{Layout, one_record}

pub record Laid (n rows : ℕ) (l : Layout) : Type 0 where
  pub buffers_apart : (i j : ℕ) → i < buffers n → j < buffers n → l.buffer i ≡ l.buffer j → i ≡ j
  pub buffer_return : (i q : ℕ) → i < buffers n → q < n → l.buffer i ≢ l.returns + q
  pub buffer_offer : (i q : ℕ) → i < buffers n → q < n → l.buffer i ≢ l.offers + q
  pub return_offer : (q r : ℕ) → q < n → r < n → l.returns + q ≢ l.offers + r
  pub buffer_below : (i : ℕ) → i < buffers n → l.buffer i < rows
  pub return_below : (q : ℕ) → q < n → l.returns + q < rows
  pub offer_below : (q : ℕ) → q < n → l.offers + q < rows

pub one_record_laid : (n : ℕ) → Laid n (5 * n) (one_record n)
one_record_laid n = record {
  buffers_apart = λ i j hi hj e. e;
  buffer_return = λ i q hi hq e. omega arith;
  buffer_offer = λ i q hi hq e. omega arith;
  return_offer = λ q r hq hr e. omega arith;
  buffer_below = λ i hi. omega arith;
  return_below = λ q hq. omega arith;
  offer_below = λ q hq. omega arith;
}

-- a place lies in one row
pub one_row : (w r s i : ℕ) → r * w ≤ i → i < r * w + w → s * w ≤ i → i < s * w + w → r ≡ s
one_row w r s i a b c d = go (dec_lt r s) (dec_lt s r)
  where
    go : Dec (r < s) → Dec (s < r) → r ≡ s
    go (yes x) y = absurd (omega (arith, mul-le-mul_right {m = suc r} {n = s} w x, suc-mul r w))
    go (no x) (yes y) = absurd (omega (arith, mul-le-mul_right {m = suc s} {n = r} w y, suc-mul s w))
    go (no x) (no y) = omega arith

-- two places that are one
pub same_row : (w r s k m : ℕ) → k < w → m < w → r * w + k ≡ s * w + m → r ≡ s
same_row w r s k m hk hm e = one_row w r s (r * w + k) (omega arith) (omega arith) (omega arith) (omega arith)

pub same_word : (w r s k m : ℕ) → k < w → m < w → r * w + k ≡ s * w + m → k ≡ m
same_word w r s k m hk hm e = omega (arith, ap (λ (x : ℕ). x * w) (same_row w r s k m hk hm e))

-- a place of one row is no place of another
pub row_apart : (w r s k : ℕ) → r ≢ s → k < w → s * w + 0 ≤ r * w + k → r * w + k < s * w + 0 + w → ⊥
row_apart w r s k ne hk a b = ne (one_row w r s (r * w + k) (omega arith) (omega arith) (omega arith) (omega arith))

-- and two rows have no place in common, whatever their lengths are called
pub rows_apart : (w r s k m : ℕ) → r ≢ s → k ≡ w → m ≡ w
    → (i : ℕ) → r * w + 0 ≤ i → i < r * w + 0 + k → s * w + 0 ≤ i → i < s * w + 0 + m → ⊥
rows_apart w r s k m ne x y i a b c d = ne (one_row w r s i (omega arith) (omega arith) (omega arith) (omega arith))

-- a row, and a place in it, lie inside
pub row_fits : (r rows w l : ℕ) → r < rows → rows * w ≤ l → r * w + 0 + w ≤ l
row_fits r rows w l h k = omega (arith, mul-le-mul_right {m = suc r} {n = rows} w h, suc-mul r w)

pub place_fits : (r rows w l k : ℕ) → r < rows → k < w → rows * w ≤ l → r * w + k < l
place_fits r rows w l k h hk z = omega (arith, row_fits r rows w l h z)
