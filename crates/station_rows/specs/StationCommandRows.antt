-- The rows of a command to a station by value: `list` is the lent process records with a filler after them, the number
-- of those lent is `len`.
-- Inner: the rows and their order are `station`'s.
use Rattle.std.specs.Prelude.{ℕ, Bool, List, [], ◌∷◌, get_or}
use Rattle.llsc.specs.declared.Order.{Order}
use Rattle.llsc.specs.Rows.{first, row9}
use Rattle.station.specs.declared.StationProcess.{StationProcess}
use Rattle.station.specs.declared.Station.{Station}
use Rattle.station.specs.Station.{station_memory, no_station_process}
use Rattle.station.specs.StationRefusals.{station_in_range, station_process_rows, station_lent_rows, station_rows_of}

-- the number of the first of rows 1, 2, 23, 3 that holds, 0 for none
unfoldable pub station_lent_number : ℕ → ℕ → ℕ → ℕ → ℕ → ℕ
station_lent_number n w r processes words = first (station_lent_rows n w r processes words [])

-- row 9 looks at no words
abbrev pub station_ranges_ok : Station → List StationProcess → Bool
station_ranges_ok s list = station_in_range (station_memory s list [])

-- the number of the first of rows 1, 2, 23, 3, 9 that holds, 0 for none, for `words` lent words
unfoldable pub station_memory_number : Station → List StationProcess → ℕ → ℕ → ℕ
station_memory_number s list len words =
    first (station_lent_rows s.n s.w s.r len words (row9 (station_ranges_ok s list) ∷ []))

-- the number of the first row that holds, 0 for none, for a value of `value` words
unfoldable pub station_number : Station → List StationProcess → ℕ → ℕ → Order → ℕ → ℕ → ℕ → ℕ
station_number s list len p o named value words =
    first (station_rows_of s.n s.w s.r len words (station_ranges_ok s list) p o named value
    (get_or list p no_station_process))

-- the same where rows 1, 2, 23, 3 and 9 don't hold
unfoldable pub station_late_number : Station → List StationProcess → ℕ → Order → ℕ → ℕ → ℕ
station_late_number s list p o named value =
    first (station_process_rows s.n s.w s.r p o named value (get_or list p no_station_process))
