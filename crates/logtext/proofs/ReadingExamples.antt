-- Readings by computation: what the lent list holds at the end, the number read of it and what lies behind them.
use Prim.Native.Nat.{ℕ}
use mathlib.Core.Path.{◌≡◌, refl}
use mathlib.Core.List.{List, [], ◌∷◌}
use Rattle.std.specs.Prelude.{None, Some}
use Rattle.logtext.specs.declared.Fault.TheVariants.{StrayByte, TooMany}
use Rattle.logtext.specs.declared.Reading.{Reading}
use Rattle.logtext.specs.Numbers.{scan}
use Rattle.logtext.specs.Readings.{text_into}

-- four places, which hold other numbers
abbrev lent : List ℕ
lent = 96 ∷ 97 ∷ 98 ∷ 99 ∷ []

abbrev read : ℕ → Reading
read count = record { fault = None; number = None; count = count }

record Readings : Type 0 where
  -- "3 41" and a line feed: two numbers, and the two places behind them as they were
  two : text_into (51 ∷ 32 ∷ 52 ∷ 49 ∷ 10 ∷ []) lent ≡ (read 2, 3 ∷ 41 ∷ 98 ∷ 99 ∷ [])
  -- no text: nothing is written
  none : text_into [] lent ≡ (read 0, lent)
  -- "3 4-": the number at which the reading stopped is not written
  stray : text_into (51 ∷ 32 ∷ 52 ∷ 45 ∷ []) lent ≡ (record { fault = Some StrayByte; number = Some 4; count = 1 }, 3 ∷ 97 ∷ 98 ∷ 99 ∷ [])
  -- "3 4" with room for one number
  many : text_into (51 ∷ 32 ∷ 52 ∷ []) (96 ∷ []) ≡ (record { fault = Some TooMany; number = Some 4; count = 1 }, 3 ∷ [])

readings : Readings
unfolding scan
readings = record { two = refl; none = refl; stray = refl; many = refl }
