-- What is promised of a text run on a station, beside its definition.
use Rattle.std.specs.Prelude.{◌≡◌, ℕ, List}
use Rattle.model.specs.SetUp.{set_up}
use Rattle.station.specs.declared.RecordNumber.{RecordNumber}
use Rattle.station.specs.Station.{StationMemory, tables_at, process_at, holding_at}
use Rattle.station.specs.StationSetUp.{station_set_up}
use Rattle.station_text_machine.specs.StationText.{before_run, left_by, station_run_text}

-- what stays of record j: its tables, with their links, and what every process holds of it
pub record Stays (s after : StationMemory) (j : RecordNumber) : Type 0 where
  pub tables : tables_at after j ≡ tables_at s j
  pub holdings : (p : ℕ) → holding_at (process_at after p) j ≡ holding_at (process_at s p) j

-- CR 10: "a command on one record leaves the tables, buffers, links and private sets of the others in place", and "Text and
-- listing keep to one record". A text is more than commands: it sets a station of one record up (`TextSetUp`), whose words
-- begin where those of the records before it lay. So, whatever the text and the memory, of every other record the tables,
-- with their links, and the private sets stay, but not the buffers: the 5NW words of the text's record are written over
-- them.
abbrev pub Record0Alone : Type 0
Record0Alone = (s : StationMemory) (text listing : List ℕ) (j : RecordNumber) → (j.0 ≡ 0 → ⊥) → Stays s (station_run_text s text listing).memory j

-- The set-up of a text is that of a station of one record: the same number, and all memory the same.
abbrev pub TextSetUp : Type 0
TextSetUp =
    (s : StationMemory) (n w : ℕ) (value : List ℕ)
    → ◌≡◌ {A = ℕ × StationMemory} ((set_up (before_run s) n w value).0, left_by s (set_up (before_run s) n w value).1) (station_set_up s n w 1 value)
