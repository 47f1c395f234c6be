-- A season of listings (02, CR 2) for C: what adding a listing tells and leaves, and the table with its refusal.
use Rattle.std.specs.Prelude.{ℕ, List, replicate, Result, Ok, Err}
use Rattle.std.specs.Option.{unwrap_or}
use Rattle.sums.specs.declared.Sums.{Sums}
use Rattle.sums.specs.declared.Row.{Row}
use Rattle.sums.specs.Season.{NotTaken, added, sums_after}
use Rattle.sums.specs.Fractions.{no_row}
use Rattle.besklaun.specs.declared.seasons.Added.{Added}
use Rattle.besklaun.specs.declared.seasons.Fractions.{Fractions}

-- the number of the refusal, 0 for none, and where it is 18 the place of the first wrong byte
abbrev pub added_told : Result Sums NotTaken → Added
added_told (Ok s) = record { number = 0; at = 0 }
added_told (Err e) = record { number = e.number; at = unwrap_or e.at 0 }

-- "the sums stay" at a refusal
abbrev pub adding : Sums → List ℕ → Added × Sums
adding s bs = (added_told (added s bs), sums_after s bs)

-- the rows, or the number of the refusal and rows of 0 over 0
abbrev pub fractions_of : Result (List Row) ℕ → Fractions
fractions_of (Ok rows) = record { number = 0; rows = rows }
fractions_of (Err k) = record { number = k; rows = replicate 16 no_row }
