-- The state that the first entries of a text leave, in a list that a caller lends.
use Rattle.std.specs.Prelude.{ℕ, List, false}
use Rattle.notation.proofs.ReadingLaws.{reader}
use Rattle.text_runs.specs.TextRun.{Ended, run_with}
use Rattle.station.specs.Station.{StationMemory}
use Rattle.station_text_laws.specs.EntryByEntry.{station_machine}
use Rattle.held_model.specs.Memory.{laid_out}
use Rattle.held_text_model.specs.Upto.{quiet, upto}

-- the run of a text that is refused with 12 after k commands, on the memory of a list laid out for one record
abbrev pub first_run : ℕ → StationMemory → List ℕ → Ended (upto station_machine)
first_run k m text = run_with (upto station_machine) reader false (k, m) text quiet
