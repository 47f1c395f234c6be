-- How a text run begins and ends, as the code holds it, over what a bench holds.
-- Inner: the contracts of `texts` of `whole_runs` say that this is the end of `TextRun`'s run.
use Rattle.std.specs.Prelude.{ℕ, ◌+◌, ◌≤◌, Bool, List, Result, length}
use Rattle.std.proofs.lemmas.List.Edits.{sets}
use Rattle.llsc.specs.declared.refusals.Refusal.{Refusal}
use Rattle.llsc.specs.Refusals.{number_told}
use Rattle.listing.specs.declared.Writer.{Writer}
use Rattle.positions.specs.declared.StopReport.{StopReport}
use Rattle.text_runs.specs.declared.runs.Finished.{Finished}
use Rattle.text_runs.specs.declared.runs.Run.{Run}
use Rattle.text_runs.specs.TextRun.{most_entries}
use Rattle.text_runs.specs.Parts.{last_text}

-- a run comes to its end, or is refused
abbrev pub Outcome : Type 0
Outcome = Result (Unit {0}) Refusal

-- before the first entry none is done
abbrev pub fresh_run : {H : Type 0} → H → Bool → Run H
fresh_run held t = record { held = held; entries = 0; traced = t }

-- what a run returns, and what it leaves of what it held
abbrev pub finished_of : {H : Type 0} → H → ℕ → Outcome → StopReport → ℕ → Finished H
finished_of held entries o report written = record { held = held; outcome = o; entries = entries; written = written; report = report }

-- "The last line is `end E` or `refused C E`"
abbrev pub last_of : ℕ → Outcome → List ℕ
last_of entries o = last_text (number_told o) entries

-- what a run comes to with its last line, behind so many bytes of its listing, and the listing after it
abbrev pub closed_at : {H : Type 0} → H → ℕ → Outcome → StopReport → List ℕ → ℕ → Finished H × List ℕ
closed_at held entries o report list written =
    (finished_of held entries o report (written + length (last_of entries o)), sets list written (last_of entries o))

abbrev pub closed : {H : Type 0} → H → ℕ → Outcome → StopReport → Writer → Finished H × List ℕ
closed held entries o report to = closed_at held entries o report to.list.now to.written

-- the longest last line has 17 bytes
abbrev pub last_room : ℕ
last_room = 17

-- there is room for the last line
pub record Closable (entries : ℕ) (o : Outcome) (to : Writer) : Type 0 where
  pub few : entries ≤ most_entries
  pub stop : number_told o ≤ 15
  pub room : to.written + last_room ≤ length to.list.now
