-- "the words of a successful write, and the set-up value, stay unaltered in their buffer until X has changed 2N more
-- times" (CR 9), of each record: its own successes, its own buffers, its own X.
use Rattle.std.specs.Prelude.{◌≡◌, ℕ, ◌<◌, List, [], ◌∷◌, ◌++◌, true}
use Rattle.llsc.specs.Answers.{answered, sc_truth}
use Rattle.llsc.specs.Object.{sc}
use Rattle.llsc.specs.History.{running, slots}
use Rattle.after_commands.specs.WordsStay.{lasting}
use Rattle.station.specs.declared.RecordNumber.{RecordNumber}
use Rattle.station.specs.Station.{StationMemory, buffer_of}
use Rattle.station.specs.StationRefusals.{StationOrder, StationShaped}
use Rattle.station.specs.StationSetUp.{station_set_up}
use Rattle.station.specs.StationHistory.{seen, seen_all, station_after}
use Rattle.station_laws.specs.StationChanges.{x_of, changes_of}

-- "a successful write" of record j: after the commands `cs` an SC on it with the words `offered` is open, and the
-- command c, a step of that call, ends it with the answer true
pub record WritesOf (j : RecordNumber) (s : StationMemory) (cs : List StationOrder) (c : StationOrder)
    (offered : List ℕ) : Type 0 where
  pub start : ℕ
  pub steps : ℕ
  pub count : ℕ
  pub running_sc : slots (seen_all j s cs) c.process ≡ running (sc offered) start steps
  pub ends : (seen j (station_after s cs) c).said ≡ answered (sc_truth true) count

-- The buffer that record j's X names in s has these words, and has them after whatever follows in which that X changes
-- fewer than `most` times, whatever happens to other records.
abbrev pub StayOf : RecordNumber → ℕ → List ℕ → StationMemory → Type 0
StayOf j most ws s =
    (more : List StationOrder) → changes_of j s more < most
    → buffer_of (station_after s more) j (x_of s j).buf ≡ ws

-- "the set-up value": "All records begin with the one value."
abbrev pub SetUpValueStaysByRecord : (ℕ → ℕ) → Type 0
SetUpValueStaysByRecord most =
    (s : StationMemory) → StationShaped s → (n w r : ℕ) (value : List ℕ) → (station_set_up s n w r value).0 ≡ 0
    → (j : RecordNumber) → j.0 < r → StayOf j (most n) value (station_set_up s n w r value).1

-- "the words of a successful write": any one, after any commands
abbrev pub WrittenWordsStayByRecord : (ℕ → ℕ) → Type 0
WrittenWordsStayByRecord most =
    (s : StationMemory) → StationShaped s → (n w r : ℕ) (value : List ℕ) → (station_set_up s n w r value).0 ≡ 0
    → (j : RecordNumber) → j.0 < r
    → (cs : List StationOrder) (c : StationOrder) (offered : List ℕ)
    → WritesOf j (station_set_up s n w r value).1 cs c offered
    → StayOf j (most n) offered (station_after (station_set_up s n w r value).1 (cs ++ c ∷ []))

-- "2N more times"
pub record WordsStayByRecord : Type 0 where
  pub of_set_up : SetUpValueStaysByRecord lasting
  pub of_writes : WrittenWordsStayByRecord lasting
