-- The command of a station by value: `list` is the lent process records with a filler after them, `len` how many were
-- lent.
-- Inner: `StationDecisionLaws` proves that this, stored back, is `station`'s command.
use Rattle.std.specs.Prelude.{◌≡◌, ◌≤◌, ℕ, ◌+◌, ◌*◌, List, cond, eqb, Result, Ok, Err, length, get_or, set}
use Rattle.llsc.specs.declared.refusals.Refusal.{Refusal}
use Rattle.llsc.specs.Refusals.{refusal_number}
use Rattle.llsc.specs.declared.Order.{Order}
use Rattle.model.specs.declared.Reply.{Reply}
use Rattle.model.specs.declared.Reply.TheVariants.{Refused}
use Rattle.model.specs.declared.Moved.{Moved}
use Rattle.model.specs.Sizes.{buffers}
use Rattle.model.specs.Machine.{obey_in}
use Rattle.words.specs.declared.layouts.FirstRows.{FirstRows}
use Rattle.station.specs.declared.RecordNumber.{RecordNumber}
use Rattle.station.specs.declared.Station.{Station}
use Rattle.station.specs.declared.StationProcess.{StationProcess}
use Rattle.station.specs.Station.{StationMemory, station_memory, no_station_process, station_layout}
use Rattle.station.specs.Projection.{process_of, put_tables, put_process}
use Rattle.station.specs.StationRefusals.{record_about}
use Rattle.station_records.specs.TakenOut.{bench_in, with_tables}
use Rattle.station_rows.specs.StationCommandRows.{station_number}
use Rattle.station_machine.specs.declared.Outcome.{Outcome}

-- what rows 1, 2 and 23 leave of N, W and R
pub record Sizes (s : Station) : Type 0 where
  pub n_most : s.n ≤ 16
  pub w_most : s.w ≤ 64
  pub r_most : s.r ≤ 8

-- the rows at which record j's words begin
pub record RowsOf (s : Station) (j : RecordNumber) (f : FirstRows) : Type 0 where
  pub buffers_at : f.buffers ≡ j.0 * buffers s.n
  pub returns_at : f.returns ≡ s.r * buffers s.n
  pub offers_at : f.offers ≡ s.r * buffers s.n + s.n
  pub width : f.w ≡ s.w

-- what record j's bench made of the order, put back
abbrev pub obeyed_outcome : Station → RecordNumber → StationProcess → Moved → ℕ → Outcome
obeyed_outcome s j q m p = record { station = with_tables s j (put_tables m.bench); at = p; process = put_process j q m.process; reply = m.reply }

-- What a command comes to, and the words: refused with its number, or obeyed.
abbrev pub Decided : Type 0
Decided = Result Outcome ℕ × List ℕ

abbrev pub obeyed_at : Station → RecordNumber → StationProcess → ℕ → Moved × List ℕ → Decided
obeyed_at s j q p out = (Ok (obeyed_outcome s j q out.0 p), out.1)

-- a refusal told by its number
abbrev pub numbered : Result Outcome Refusal → Result Outcome ℕ
numbered (Ok out) = Ok out
numbered (Err refusal) = Err (refusal_number refusal)

-- an order to process p, whose record is q, obeyed on record j
abbrev pub obeyed_on : Station → RecordNumber → StationProcess → ℕ → Order → List ℕ → List ℕ → Moved × List ℕ
obeyed_on s j q p o value words = obey_in (station_layout s.n s.r j) o (record { 0 = p }) value (bench_in s j) (process_of j q) words

unfoldable pub station_decided : Station → List StationProcess → ℕ → ℕ → Order → ℕ → List ℕ → List ℕ → Decided
station_decided s list len p o named value words =
    cond (eqb (station_number s list len p o named (length value) (length words)) 0)
    (obeyed_at s (record_about o named (get_or list p no_station_process)) (get_or list p no_station_process) p
    (obeyed_on s (record_about o named (get_or list p no_station_process)) (get_or list p no_station_process) p o value words))
    (Err (station_number s list len p o named (length value) (length words)), words)

-- the reply and all lent memory, once the caller has stored the outcome's record; a refusal stores nothing
abbrev pub stored_back : Station → List StationProcess → Decided → Reply × StationMemory
stored_back s ps (Ok out, ws) = (out.reply, station_memory out.station (set ps out.at out.process) ws)
stored_back s ps (Err number, ws) = (Refused number, station_memory s ps ws)
