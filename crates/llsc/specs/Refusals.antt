-- The refusals by their numbers (01, "When the bench says no": the column "Number", and those that the change requests
-- add).
use Rattle.std.specs.Prelude.{◌≡◌, ◌≢◌, ℕ, Bool, true, false, Result, Ok, Err, MatchResult}
use Rattle.llsc.specs.declared.refusals.NoRefusal.{NoRefusal}
use Rattle.llsc.specs.declared.refusals.Refusal.{Refusal}
use Rattle.llsc.specs.declared.refusals.Refusal.TheVariants.{NOutOfRange, WOutOfRange, TooLittleLent, NoSuchProcess, StartAtBusy}
use Rattle.llsc.specs.declared.refusals.Refusal.TheVariants.{StepAtIdle, NeverLinked, ValueNotWWords, NumberOutOfRange, TextBroken}
use Rattle.llsc.specs.declared.refusals.Refusal.TheVariants.{TooDeep, TooMuch, NoRoom, NoSuchSuccess, TooManyCalls}
use Rattle.llsc.specs.declared.refusals.Refusal.TheVariants.{AnswerNotAfterStart, NoListing, SeasonFull, TooManyTurns, NoSuchNumber}
use Rattle.llsc.specs.declared.refusals.Refusal.TheVariants.{NotASchedule, ROutOfRange, NoSuchRecord, BadTrailer, BadRecord}
use Rattle.llsc.specs.declared.refusals.Refusal.TheVariants.{ProcessInBoth, TooLittleRoom}

abbrev pub refusal_number : Refusal → ℕ
refusal_number NOutOfRange = 1
refusal_number WOutOfRange = 2
refusal_number TooLittleLent = 3
refusal_number NoSuchProcess = 4
refusal_number StartAtBusy = 5
refusal_number StepAtIdle = 6
refusal_number NeverLinked = 7
refusal_number ValueNotWWords = 8
refusal_number NumberOutOfRange = 9
refusal_number TextBroken = 10
refusal_number TooDeep = 11
refusal_number TooMuch = 12
refusal_number NoRoom = 14
refusal_number NoSuchSuccess = 15
refusal_number TooManyCalls = 16
refusal_number AnswerNotAfterStart = 17
refusal_number NoListing = 18
refusal_number SeasonFull = 19
refusal_number TooManyTurns = 20
refusal_number NoSuchNumber = 21
refusal_number NotASchedule = 22
refusal_number ROutOfRange = 23
refusal_number NoSuchRecord = 24
refusal_number BadTrailer = 25
refusal_number BadRecord = 26
refusal_number ProcessInBoth = 27
refusal_number TooLittleRoom = 28

-- a refusal's number, 0 for none: what `first` of a list of rows tells
abbrev pub number_told : Result (Unit {0}) Refusal → ℕ
number_told (Ok done) = 0
number_told (Err r) = refusal_number r

-- refused for the cause r where it holds
abbrev pub refused_if : Bool → Refusal → Result (Unit {0}) Refusal
refused_if true r = Err r
refused_if false r = Ok tt

-- r is the refusal with this number, or says that no row of the table has it
abbrev pub RefusalWith : ℕ → Result Refusal NoRefusal → Type 0
RefusalWith n r = MatchResult r (λ k. refusal_number k ≡ n) (λ e. (e.0 ≡ n) × ((k : Refusal) → refusal_number k ≢ n))
