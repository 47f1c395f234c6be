-- A whole text run as the code holds it, on any bench: its set-up, and what its parts answer.
-- Inner: `WholeLaws` proves that the parts make `TextRun`'s run and `StopPlaces`' report.
use Rattle.std.specs.Prelude.{◌≡◌, ℕ, ◌+◌, ◌≤◌, List, Bool, false, Result, Ok, Err, length, replicate}
use Rattle.llsc.specs.declared.refusals.Refusal.{Refusal}
use Rattle.llsc.specs.Refusals.{number_told}
use Rattle.listing.specs.declared.Writer.{Writer}
use Rattle.notation.specs.EntryWords.{largest_place}
use Rattle.notation.specs.Readers as R
use Rattle.notation.specs.declared.First.{First}
use Rattle.notation.proofs.ReadingLaws.{reader}
use Rattle.text_runs.specs.declared.runs.Run.{Run}
use Rattle.text_runs.specs.declared.runs.Finished.{Finished}
use Rattle.text_runs.specs.Machines.{Machine}
use Rattle.text_runs.specs.TextRun.{Progress, Ended, room_needed, most_entries, run_with}
use Rattle.text_runs.specs.StopPlaces.{StopsAt}
use Rattle.text_runs.specs.Runs.{last_room}

-- the first line is read
pub record Headed (s : List ℕ) (f : First) : Type 0 where
  pub line : R.Headed s f.n f.w f.initial f.items
  pub placeable : length s ≤ largest_place

-- a listing has room
abbrev pub Roomy : List ℕ → Type 0
Roomy list = room_needed false ≤ length list

-- a run by what its bench holds as memory
abbrev pub progress_with : (M : Machine) {H : Type 0} → M.Memory → Run H → ℕ → Writer → Progress M
progress_with M m r k to = record { memory = m; listing = to.list.now; written = to.written; entries = r.entries; stop = k; traced = r.traced }

-- a run at any moment: there is room for its last line, and what it holds may be lent again
pub record Lasting (entries k : ℕ) (to : Writer) (Lendable : Type 0) : Type 0 where
  pub few : entries ≤ most_entries
  pub stop : k ≤ 15
  pub room : to.written + last_room ≤ length to.list.now
  pub lendable : Lendable

-- the memory that a set-up leaves: a refused one changes nothing
abbrev pub memory_after : {A : Type 0} → Result (Unit {0}) Refusal → A → A → A
memory_after (Ok x) done before = done
memory_after (Err f) done before = before

-- the machine's set-up, with the first line's numbers: refused with its number, or done
pub record Prepared (M : Machine) (f : First) (m : M.Memory) (r : Result (Unit {0}) Refusal) (m' : M.Memory) : Type 0 where
  pub number : number_told r ≡ (M.set_up m f.n f.w (replicate f.w f.initial)).0
  pub memory : m' ≡ memory_after r (M.set_up m f.n f.w (replicate f.w f.initial)).1 m
  pub few : number_told r ≤ 15

-- what a run returns and leaves, with the memory and the listing after it
abbrev pub end_of : (M : Machine) {H : Type 0} → Finished H → M.Memory → List ℕ → Ended M
end_of M r m list = record { number = number_told r.outcome; entries = r.entries; written = r.written; memory = m; listing = list }

-- what a whole text run answers, in one of the two styles: the run of `TextRun`, and where it stopped
pub record Ran (M : Machine) (t : Bool) (text list : List ℕ) (m : M.Memory) {H : Type 0} (r : Finished H) (m' : M.Memory) (list' : List ℕ) : Type 0 where
  pub same : end_of M r m' list' ≡ run_with M reader t m text list
  pub stops : StopsAt M t m text list r.report
