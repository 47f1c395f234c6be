-- The items of a text read into a list of numbers, and the run by what was read.
-- Inner: `TextLaws` and `StopLaws` prove that it is `TextRun`'s run with `StopPlaces`' report where the list lacks nothing.
use Rattle.std.specs.Prelude.{ℕ, ◌-◌, ◌≤◌, ◌<◌, List, Bool, false, leb, length, take, Result, Ok, Err}
use Rattle.llsc.specs.Refusals.{refusal_number}
use Rattle.llsc.specs.declared.refusals.Refusal.TheVariants.{TextBroken}
use Rattle.notation.specs.declared.Entry.{Entry}
use Rattle.notation.specs.declared.First.{First}
use Rattle.notation.specs.declared.items.Fault.{Fault}
use Rattle.notation.specs.Grammar.{deepest}
use Rattle.notation.specs.Places.{EndsAfter}
use Rattle.notation.specs.Groups.{ItemsEnded, ItemsClosed, ItemsBroken}
use Rattle.notation.specs.Listed.{Keeps}
use Rattle.positions.specs.declared.StopReport.{StopReport}
use Rattle.positions.specs.declared.StopReport.TheVariants.{AtFault}
use Rattle.text_runs.specs.Machines.{Machine}
use Rattle.text_runs.specs.TextRun.{Ended, most_entries}
use Rattle.text_runs.specs.KeptEntries.{entries_in, places_in, refused_with, started_with, report_with}

-- the items from a place on have a fault: one on the way, or a `)` before `next` with no group to close
pub data Faulty (s : List ℕ) (at : ℕ) : Fault → Type 0 where
  broken : (f : Fault) → ItemsBroken s at deepest (refusal_number f.cause) f.place → Faulty s at f
  stray : (next : ℕ) (es : List Entry) → ItemsClosed s at deepest next es → Faulty s at (record { cause = TextBroken; place = next - 1 })

-- they are read, and kept up to a place
abbrev pub Reads : List ℕ → ℕ → List ℕ → List ℕ → Result ℕ Fault → Type 0
Reads s at list list' (Ok to) = Keeps s list list' 0 to (λ es. ItemsEnded s at deepest es) (λ ps. EndsAfter s at ps)
Reads s at list list' (Err f) = Faulty s at f

pub record ReadInto (s : List ℕ) (at : ℕ) (list list' : List ℕ) (r : Result ℕ Fault) : Type 0 where
  pub reads : Reads s at list list' r

-- what is told of a reading fits a list of so many numbers, and the last line
abbrev pub Told : Result ℕ Fault → ℕ → Type 0
Told (Ok to) room = to ≤ room
Told (Err f) room = refusal_number f.cause ≤ 15

-- the list is full
abbrev pub is_full : Result ℕ Fault → ℕ → Bool
is_full (Ok to) room = leb room to
is_full (Err f) room = false

-- a list of `room` numbers that keeps entries up to `to` lacks none that a run could carry out
abbrev pub Enough : ℕ → ℕ → Type 0
Enough room to = room ≤ most_entries → to < room

abbrev pub EnoughRead : ℕ → Result ℕ Fault → Type 0
EnoughRead room (Ok to) = Enough room to
EnoughRead room (Err f) = Unit {0}

-- the run by what was read, and where it stops
module _ (M : Machine) (t : Bool) (first : First) where
  abbrev pub read_with : Result ℕ Fault → List ℕ → M.Memory → List ℕ → Ended M
  read_with (Ok to) entries m list = started_with M t first.n first.w first.initial (entries_in (take to entries)) m list
  read_with (Err f) entries m list = refused_with M (refusal_number f.cause) m list

  abbrev pub read_report : Result ℕ Fault → List ℕ → M.Memory → List ℕ → StopReport
  read_report (Ok to) entries m list = report_with M t first.n first.w first.initial (entries_in (take to entries)) (places_in (take to entries)) m list
  read_report (Err f) entries m list = AtFault f.place
