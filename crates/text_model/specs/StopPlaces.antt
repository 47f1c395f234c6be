-- Where in its text a run on the first bench stopped: `text_runs`' own, on the machine of Figure 2.
use Rattle.std.specs.Prelude.{ℕ, List, Bool}
use Rattle.model.specs.Machine.{Memory}
use Rattle.notation.specs.declared.Entry.{Entry}
use Rattle.notation.specs.Grammar.{Said}
use Rattle.positions.specs.declared.StopReport.{StopReport}
use Rattle.text_runs.specs.StopPlaces as S
use Rattle.text_model.specs.TextRun.{figure2, Progress}

abbrev pub stop_index : List Entry → Progress → ℕ
stop_index es s = S.stop_index figure2 es s

abbrev pub item_report : ℕ → ℕ → List Entry → List ℕ → Progress → StopReport
item_report n w es ps s = S.item_report figure2 n w es ps s

abbrev pub started_report : Bool → List ℕ → Said → List ℕ → ℕ × Memory → StopReport
started_report t listing a ps prepared = S.started_report figure2 t listing a ps prepared

abbrev pub StopInText : Bool → Memory → List ℕ → List ℕ → StopReport → Type 0
StopInText t m text listing report = S.StopInText figure2 t m text listing report

abbrev pub StopsAt : Bool → Memory → List ℕ → List ℕ → StopReport → Type 0
StopsAt t m text listing report = S.StopsAt figure2 t m text listing report
