-- What a finished run is handed on as.
-- Inner: `station_text_machine`, `bench::run_text` and `besklaun`'s text runs return `TextRun`'s run by it.
use Rattle.llsc.specs.Refusals.{number_told}
use Rattle.text_runs.specs.declared.returned.TextRun.{TextRun}
use Rattle.text_runs.specs.declared.runs.Finished.{Finished}

-- with another thing held
abbrev pub holding : {H K : Type 0} → Finished H → K → Finished K
holding out held = record { held = held; outcome = out.outcome; entries = out.entries; written = out.written; report = out.report }

-- 01: "Every text run returns a number (0 at `end`), the entries done and the count of listing bytes written."
abbrev pub told : {H : Type 0} → Finished H → TextRun
told out = record { number = number_told out.outcome; entries = out.entries; written = out.written }
