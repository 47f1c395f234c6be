-- The promises of README for a text run, its listing and its trace, and for the marks of `swaps`. The text run itself
-- is the contract of `bench::run_text`: `station_run_text` of `station_text_machine/specs/StationText`. Where a run
-- stops is a contract too: `StopInText` of `text_runs/specs/StopPlaces`, at `whole_runs::texts::run_text`, for both
-- benches.
use Rattle.std.specs.Prelude.{◌≡◌, ◌⊎◌, ◌^◌, ℕ, ◌≤◌, ◌<◌, List, Bool, length, replicate}
use Rattle.model.specs.Machine.{Memory, Shaped}
use Rattle.model.specs.SetUp.{set_up}
use Rattle.model.specs.History.{events}
use Rattle.model.specs.Linearizable.{Claim}
use Rattle.notation.specs.Grammar.{Number, Text, Said, largest, bytes, says, deepest}
use Rattle.notation.specs.Right.{Right, Tells, Fault}
use Rattle.notation.specs.Written.{written}
use Rattle.notation.proofs.ReadingLaws.{reader}
use Rattle.listing.specs.Decimal.{decimal}
use Rattle.listing.specs.Divisions.{divided, ReadyDigits}
use Rattle.text_runs.specs.TextRun.{room_needed, longest_text, run_with}
use Rattle.text_runs.specs.RunCommands.{Carries}
use Rattle.text_model.specs.TextRun.{figure2, Ended, carry_all}
use Rattle.text_laws.specs.Finishing.{UntilAnswered, FinishBounded}
use Rattle.text_laws.specs.TrueLines.{Told, trace_begun}
use Rattle.station_text_machine.specs.TextPromises.{Record0Alone, TextSetUp}
use Rattle.station_text_laws.specs.EntryByEntry.{EntryByEntry, station_machine}
use Rattle.held_text_model.specs.FirstStates.{EveryFirstState}
use Rattle.marking.specs.Marks.{MarksMeanApart, TraceShowsLine, MarkedChangePlaces}
use Rattle.marking_laws.specs.MarkedRun.{EveryTextIsMarked, MarkedFits}

-- THE NOTATION (01): "A fault 10 or 11 stands at the first byte (the text's end counts as one) after which no text of
-- any length could be right, .. the leftmost decides, 10 first." So a text is right and says one thing, or has one
-- fault at one place.
pub record OneReading (s : List ℕ) : Type 0 where
  pub right_or_fault : Right deepest s ⊎ (Fault s 10 ⊎ Fault s 11)
  pub not_both : (k : ℕ) → Fault s k → Right deepest s → ⊥
  pub one_saying : (a b : Said) → Tells deepest s a → Tells deepest s b → a ≡ b
  pub one_number : (j k : ℕ) → Fault s j → Fault s k → j ≡ k
  pub one_place : (j k : ℕ) (f : Fault s j) (g : Fault s k) → f.at ≡ g.at

abbrev pub EveryTextIsRead : Type 0
EveryTextIsRead = (s : List ℕ) → OneReading s

-- NUMBERS (CR 3): "its digits are the only ones for that value"; "a number read and written again gives the same
-- digits"
abbrev pub NumbersOneWay : Type 0
NumbersOneWay =
    ((ds : List ℕ) (v : ℕ) → Number ds v → ds ≡ decimal v) × ((v : ℕ) → v ≤ largest → Number (decimal v) v)
    × ((t : Text deepest) → bytes t ≡ written t)

-- (CR 6): "after k divisions the last k digits stand ready and the rest of the number is left, down to nothing"
abbrev pub DigitsByDivision : Type 0
DigitsByDivision = (n k : ℕ) → n < 2 ^ 64 → k ≤ length (decimal n) → ReadyDigits n k (divided k n)

-- A TEXT RUN is a list of commands after its set-up, and so has promise 3: 01: "An entry is one command", "After a
-- refused entry nothing more runs", "The listing has a line for each answer", "The last line is `end E` or `refused C
-- E`".
abbrev pub prepared : Memory → Said → ℕ × Memory
prepared m a = set_up m a.n a.w (replicate a.w a.initial)

pub record RunPromised (traced : Bool) (m : Memory) (a : Said) (listing : List ℕ) (r : Ended) : Type 0 where
  pub run : Carries figure2 traced (prepared m a).1 listing r
  pub promise_3 : Claim a.w (replicate a.w a.initial) (events (prepared m a).1 run.commands)

abbrev pub EveryTextIsPromised : Type 0
EveryTextIsPromised =
    (traced : Bool) (m : Memory) → Shaped m → (text listing : List ℕ) → room_needed traced ≤ length listing
    → length text ≤ longest_text → (x : Text deepest) → bytes x ≡ text → (prepared m (says x)).0 ≡ 0
    → RunPromised traced m (says x) listing (run_with figure2 reader traced m text listing)

-- ON A STATION: "Text and listing keep to one record" (CR 10), record 0. It is the station's own set-up and commands.
abbrev pub TextOnAStation : Type 0
TextOnAStation = EntryByEntry × TextSetUp × Record0Alone

-- AFTER ITS FIRST ENTRIES: "An entry is one command", so the state after k of them is that after the first k commands of the
-- run, for every k: of the station's run, and of the bench's.
abbrev pub StateAfterEntries : Type 0
StateAfterEntries = EveryFirstState station_machine × EveryFirstState figure2

-- `!` (01): "steps until the call answers, at least one"; CR 11: "the step counts say it can't be met": it ends
-- within the most own steps of its call.
abbrev pub FinishEnds : Type 0
FinishEnds = UntilAnswered × FinishBounded

-- THE TRACE shows "every access" that led to an answer: each line is true of its own command, at which the item named
-- held, holds and is linked as it says, every other stays, and on which alone the step depends.
abbrev pub EveryTraceLineIsTrue : Type 0
EveryTraceLineIsTrue =
    (m : Memory) → Shaped m → (a : Said) (listing : List ℕ) → (prepared m a).0 ≡ 0
    → Told (trace_begun m a listing) (carry_all a.entries (trace_begun m a listing))

-- THE MARKS of `swaps`: "a mark at each line whose command could change places with the one before it: in either
-- order the two are answered alike and leave the same memory"; CR 13's condition.
abbrev pub MarksAreRight : Type 0
MarksAreRight = MarksMeanApart × TraceShowsLine × MarkedChangePlaces × EveryTextIsMarked × MarkedFits
