-- The set-up of a station by value: its refusal by the lengths of what is lent, and what it makes of the station record
-- and of the words. The process records are set up one by one, where they lie.
-- Inner: `StationSetUpLaws` proves that this is `station`'s set-up.
use Rattle.std.specs.Prelude.{◌≡◌, ℕ, ◌-◌, ◌≤◌, List, ◌++◌, cond, eqb, ltb, length, replicate, Result, Ok, Err}
use Rattle.std.proofs.lemmas.List.Edits.{sets}
use Rattle.llsc.specs.declared.refusals.Refusal.{Refusal}
use Rattle.llsc.specs.Refusals.{refusal_number}
use Rattle.llsc.specs.Rows.{first}
use Rattle.station.specs.declared.Station.{Station}
use Rattle.station.specs.declared.StationProcess.{StationProcess}
use Rattle.station.specs.Station.{StationMemory, station_memory, station_words}
use Rattle.station.specs.StationRefusals.{station_set_up_rows_of}
use Rattle.station.specs.StationSetUp.{firsts, tables_at_set_up, station_process_at_set_up, blocks}

unfoldable pub station_set_up_number : ℕ → ℕ → ℕ → ℕ → ℕ → ℕ → ℕ
station_set_up_number n w r processes words value = first (station_set_up_rows_of n w r processes words value)

-- the station record with the tables of its first r records set up
abbrev pub tables_set : Station → ℕ → ℕ → Station
tables_set s n r = record { n = s.n; w = s.w; r = s.r; tables = firsts (tables_at_set_up n) 0 r s.tables }

abbrev pub sized : Station → ℕ → ℕ → ℕ → Station
sized s n w r = record { n = n; w = w; r = r; tables = s.tables }

-- BUF of one record, of `each` words: the value, then zeros
abbrev pub block : ℕ → List ℕ → List ℕ
block each value = value ++ replicate (each - length value) 0

-- what an accepted set-up's rows leave
pub record Admitted (n w r words value : ℕ) : Type 0 where
  pub n_some : 1 ≤ n
  pub n_most : n ≤ 16
  pub w_most : w ≤ 64
  pub r_most : r ≤ 8
  pub words_lent : station_words n w r ≤ words
  pub value_words : value ≡ w

-- the number of the refusal, 0 for none, the station record and the words after a set-up with `len` process records lent
unfoldable pub station_prepared : Station → ℕ → ℕ → ℕ → ℕ → List ℕ → List ℕ → (ℕ × Station) × List ℕ
station_prepared s len n w r value words =
    cond (eqb (station_set_up_number n w r len (length words) (length value)) 0)
    ((0, sized (tables_set s n r) n w r), sets words 0 (blocks r n w value))
    ((station_set_up_number n w r len (length words) (length value), s), words)

-- a set-up's outcome as that number and that station record: at a refusal it stays
abbrev pub told : Station → Result Station Refusal → ℕ × Station
told s (Ok after) = (0, after)
told s (Err refusal) = (refusal_number refusal, s)

-- the record of process i, or the one that there is where a set-up has no such process
unfoldable pub process_for : ℕ → ℕ → ℕ → StationProcess → StationProcess
process_for n r i q = cond (ltb 16 n) q (cond (ltb 8 r) q (cond (ltb 16 i) q (station_process_at_set_up n r i q)))

-- the number and all lent memory, once the caller has set up the process records too
abbrev pub processes_set : List StationProcess → ℕ → ℕ → (ℕ × Station) × List ℕ → ℕ × StationMemory
processes_set ps n r out =
    (out.0.0, station_memory out.0.1 (cond (eqb out.0.0 0) (firsts (station_process_at_set_up n r) 0 n ps) ps) out.1)
