-- The refusal table of a station (01, "When the bench says no", with the rows that CR 10 adds). The order of the rows is
-- that of `llsc/specs/Rows`.
use Rattle.std.specs.Prelude.{◌≡◌, ℕ, ◌<◌, List, [], ◌∷◌, Bool, not, ◌&&◌, ◌||◌, cond, eqb, ltb, leb, length, take, get_or}
use Rattle.llsc.specs.declared.Order.{Order}
use Rattle.llsc.specs.Rows.{Row, between, every, row3, row5, row6, row7, is_start}
use Rattle.llsc.specs.Rows.{lent_rows_with, process_rows_with, command_rows_with, set_up_rows_with}
use Rattle.model.specs.Refusals.{bench_ok, process_ok}
use Rattle.model.specs.SetUp.{numbers}
use Rattle.station.specs.declared.RecordNumber.{RecordNumber}
use Rattle.station.specs.declared.Holding.{Holding}
use Rattle.station.specs.declared.StationProcess.{StationProcess}
use Rattle.station.specs.Station.{StationMemory, station_words, no_tables, process_at, holding_at}
use Rattle.station.specs.Projection.{bench_of, process_of, at_rest}

-- A command: process and record may be any number. "A start names a record."
pub record StationOrder : Type 0 where
  pub process : ℕ
  pub order : Order
  pub called : ℕ
  pub value : List ℕ

-- the record that a command is about: a start's own, a step's that of the open call
abbrev pub record_about : Order → ℕ → StationProcess → RecordNumber
record_about o named q = record { 0 = cond (is_start o) named q.called.0 }

abbrev pub record_for : StationMemory → StationOrder → RecordNumber
record_for s c = record_about c.order c.called (process_at s c.process)

-- Row 23: "a record count not 1..8".
abbrev pub row23 : ℕ → Row
row23 r = record { number = 23; holds = not (between 1 8 r) }

-- Row 3: "3 counts the new words", for so many process records and words lent
abbrev pub row3of : ℕ → ℕ → ℕ → ℕ → ℕ → Row
row3of n w r processes words = row3 n (station_words n w r) processes words

-- Row 24: "a record not below the count". Only a start names one.
abbrev pub row24 : Order → ℕ → ℕ → Row
row24 o r named = record { number = 24; holds = is_start o && leb r named }

-- Row 9: every record's bench, and every process as each record's bench has it, is in range, and "9 also at a record
-- number not below the count, or above 0 when idle".
abbrev pub called_ok : ℕ → StationProcess → Bool
called_ok r q = ltb q.called.0 r && (not (at_rest q) || eqb q.called.0 0)

abbrev pub station_process_ok : ℕ → ℕ → ℕ → StationProcess → Bool
station_process_ok n w r q = called_ok r q && every (λ j. process_ok n w (process_of (record { 0 = j }) q)) (numbers 0 r)

unfoldable pub station_in_range : StationMemory → Bool
station_in_range s =
    every (λ j. bench_ok (bench_of s (record { 0 = j }))) (numbers 0 s.r) &&
    every (station_process_ok s.n s.w s.r) (take s.n s.processes)

-- Rows 5 and 6 look at the one open call, whichever record it is on.
abbrev pub row5of : Order → StationProcess → Row
row5of o q = row5 o (at_rest q)

abbrev pub row6of : Order → StationProcess → Row
row6of o q = row6 o (at_rest q)

-- Row 7: "7 looks at the LLs of that record".
abbrev pub answered_for : Order → ℕ → StationProcess → Bool
answered_for o named q = (holding_at q (record_about o named q)).answered

abbrev pub row7of : Order → Holding → Row
row7of o h = row7 o h.answered

-- The rows of a command: "23 .. after 2", "24 .. directly after 4 and before 8", so 1, 2, 23, 3, 9, 4, 24, 8, 5, 6, 7.
-- First those that speak of its process p, with the record q, of the record that it names and of its value's length;
abbrev pub station_process_rows : ℕ → ℕ → ℕ → ℕ → Order → ℕ → ℕ → StationProcess → List Row
station_process_rows n w r p o named value q =
    process_rows_with (row24 o r named ∷ []) n w p o value (at_rest q) (answered_for o named q)

-- then those with which a command's rows and a set-up's begin, for so many process records and words lent; `rest` is
-- what follows them;
abbrev pub station_lent_rows : ℕ → ℕ → ℕ → ℕ → ℕ → List Row → List Row
station_lent_rows n w r processes words rest = lent_rows_with (row23 r ∷ []) n w (station_words n w r) processes words rest

-- then all, with the truth of row 9's ranges
abbrev pub station_rows_of : ℕ → ℕ → ℕ → ℕ → ℕ → Bool → ℕ → Order → ℕ → ℕ → StationProcess → List Row
station_rows_of n w r processes words ranges p o named value q =
    command_rows_with (row23 r ∷ []) (row24 o r named ∷ []) n w (station_words n w r) processes words ranges p o value (at_rest q)
    (answered_for o named q)

abbrev pub station_rows : StationMemory → StationOrder → List Row
station_rows s c =
    station_rows_of s.n s.w s.r (length s.processes) (length s.words) (station_in_range s) c.process c.order c.called
    (length c.value) (process_at s c.process)

-- The rows of a set-up: 1, 2, 23, 3, 8.
abbrev pub station_set_up_rows_of : ℕ → ℕ → ℕ → ℕ → ℕ → ℕ → List Row
station_set_up_rows_of n w r processes words value = set_up_rows_with (row23 r ∷ []) n w (station_words n w r) processes words value

abbrev pub station_set_up_rows : StationMemory → ℕ → ℕ → ℕ → List ℕ → List Row
station_set_up_rows s n w r value = station_set_up_rows_of n w r (length s.processes) (length s.words) (length value)

-- The tables have the lengths that their declared types give them: eight records, 32 Bank places, 16 Help places, eight
-- holdings.
pub record StationShaped (s : StationMemory) : Type 0 where
  pub tables : length s.tables ≡ 8
  pub bank : (j : ℕ) → j < 8 → length (get_or s.tables j no_tables).bank ≡ 32
  pub help : (j : ℕ) → j < 8 → length (get_or s.tables j no_tables).help ≡ 16
  pub holdings : (p : ℕ) → p < length s.processes → length (process_at s p).holdings ≡ 8
