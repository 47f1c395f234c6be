-- The command of a station: refused with the first row that holds, and then nothing changes; or obeyed on the record
-- that it is about.
use Rattle.std.specs.Prelude.{ℕ, List, cond, eqb}
use Rattle.model.specs.declared.Reply.{Reply}
use Rattle.model.specs.declared.Reply.TheVariants.{Refused}
use Rattle.model.specs.declared.Moved.{Moved}
use Rattle.model.specs.Machine.{obey_in}
use Rattle.llsc.specs.Rows.{first}
use Rattle.station.specs.declared.RecordNumber.{RecordNumber}
use Rattle.station.specs.Station.{StationMemory, process_at, layout_of}
use Rattle.station.specs.Projection.{bench_of, process_of, embed}
use Rattle.station.specs.StationRefusals.{StationOrder, record_for, station_rows}

-- the number of a refusal, 0 for none
unfoldable pub station_refusal : StationMemory → StationOrder → ℕ
station_refusal s c = first (station_rows s c)

-- what record j's bench makes of the command, its words where they lie
abbrev pub obeyed_on : StationMemory → RecordNumber → StationOrder → Moved × List ℕ
obeyed_on s j c =
    obey_in (layout_of s j) c.order (record { 0 = c.process }) c.value (bench_of s j) (process_of j (process_at s c.process)) s.words

unfoldable pub station_command : StationMemory → StationOrder → Reply × StationMemory
station_command s c =
    cond (eqb (station_refusal s c) 0) (embed s (record_for s c) c.process (obeyed_on s (record_for s c) c)) (Refused (station_refusal s c), s)
