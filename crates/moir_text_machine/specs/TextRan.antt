-- What a text run on Moir's bench is (02, CR 8): `text_runs`' own, on the machine of Figure 6, from a memory of its own.
use Rattle.std.specs.Prelude.{◌≡◌, Bool, ℕ, List, replicate}
use Rattle.notation.proofs.ReadingLaws.{reader}
use Rattle.text_runs.specs.TextRun as T
use Rattle.text_runs.specs.StopPlaces.{StopsAt}
use Rattle.moir_model.specs.declared.Process.{Process}
use Rattle.moir_model.specs.Records.{no_process}
use Rattle.moir_model.specs.Machine.{Memory}
use Rattle.moir_model.specs.SetUp.{empty_bench}
use Rattle.moir_text_model.specs.TextRun.{figure6, Ended}
use Rattle.llsc.specs.Refusals.{number_told}
use Rattle.text_runs.specs.declared.runs.Finished.{Finished}

-- The memory that a run begins with: an empty bench, sixteen records and as many words as the largest N and W need.
abbrev pub at_start : Memory
at_start = record { bench = empty_bench; records = replicate 16 no_process; words = replicate 3136 0 }

-- what can be seen of a run at its end: its number, the entries done, the bytes written, the records and the listing
pub record Seen : Type 0 where
  pub number : ℕ
  pub entries : ℕ
  pub written : ℕ
  pub records : List Process
  pub listing : List ℕ

abbrev pub seen : Ended → Seen
seen e = record { number = e.number; entries = e.entries; written = e.written; records = e.memory.records; listing = e.listing }

-- what a run returns, with the listing after it
abbrev pub returned : Finished (List Process) → List ℕ → Seen
returned r list = record { number = number_told r.outcome; entries = r.entries; written = r.written; records = r.held; listing = list }

-- What a text run answers (02, CR 8): it is the text run of `text_runs` on the machine of Figure 6, in the listing's style
-- or the trace's, and it stopped where the report says.
pub record TextRan (t : Bool) (text list : List ℕ) (r : Finished (List Process)) (list' : List ℕ) : Type 0 where
  pub same : returned r list' ≡ seen (T.run_with figure6 reader t at_start text list)
  pub stops : StopsAt figure6 t at_start text list r.report
