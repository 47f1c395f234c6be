-- "a command on one record leaves the tables, buffers, links and private sets of the others in place"
use Rattle.std.specs.Prelude.{◌≡◌, ℕ, ◌<◌, ◌≤◌, get_or}
use Rattle.model.specs.Sizes.{buffers}
use Rattle.station.specs.declared.RecordNumber.{RecordNumber}
use Rattle.station.specs.Station.{StationMemory, station_words, tables_at, holding_at, process_at}
use Rattle.station.specs.Station.{buffer_of, return_area_of, offer_area_of}
use Rattle.station.specs.StationRefusals.{StationOrder, record_for}
use Rattle.station.specs.StationCommand.{station_refusal, station_command}

-- record i is in place: X, Bank and Help with their links, the buffers, and what every process holds of it
pub record InPlace (s after : StationMemory) (i : RecordNumber) : Type 0 where
  pub tables : tables_at after i ≡ tables_at s i
  pub buffers_stay : (b : ℕ) → b < buffers s.n
      → buffer_of after i (record { 0 = b }) ≡ buffer_of s i (record { 0 = b })
  pub holdings : (q : ℕ) → holding_at (process_at after q) i ≡ holding_at (process_at s q) i

-- The records of the other processes and their areas stay whole too, and so does all that lies beyond.
pub record OnlyItsRecord (s : StationMemory) (c : StationOrder) (after : StationMemory) : Type 0 where
  pub sizes : (after.n ≡ s.n) × (after.w ≡ s.w) × (after.r ≡ s.r)
  pub others : (i : RecordNumber) → i.0 < s.r → (i.0 ≡ (record_for s c).0 → ⊥) → InPlace s after i
  pub processes : (q : ℕ) → (q ≡ c.process → ⊥) → process_at after q ≡ process_at s q
  pub returns : (q : ℕ) → q < s.n → (q ≡ c.process → ⊥)
      → return_area_of after (record { 0 = q }) ≡ return_area_of s (record { 0 = q })
  pub offers : (q : ℕ) → q < s.n → (q ≡ c.process → ⊥)
      → offer_area_of after (record { 0 = q }) ≡ offer_area_of s (record { 0 = q })
  pub beyond : (a : ℕ) → station_words s.n s.w s.r ≤ a → get_or after.words a 0 ≡ get_or s.words a 0

-- for every memory, not only after a set-up
abbrev pub OthersStay : Type 0
OthersStay = (s : StationMemory) (c : StationOrder) → station_refusal s c ≡ 0 → OnlyItsRecord s c (station_command s c).1
