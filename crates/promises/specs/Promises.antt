-- The promises of README for a station and its bench, in README's order. Each is one name, said with the definitions
-- that must be believed, under the sentence of 01 or 02 that it states; `proofs/Promises` proves it. The other files
-- of this crate have text runs, the judge and the season, schedules and boards, and Moir's bench.
-- Not said here: that an entry reads and writes only what it was lent, and ends. Every function that is proved does.
-- What an entry replies and leaves is its contract, an equation with a definition: `station_command`, `station_set_up`,
-- `view` and `view_number` at `command`, `set_up`, `view` and `view_number` of `crates/bench/src/lib.rt`.
use Rattle.std.specs.Prelude.{◌≡◌, ℕ, List, Bool, true, false}
use Rattle.llsc.specs.Rows.{Row, first, some}
use Rattle.model.specs.declared.Reply.TheVariants.{Refused}
use Rattle.model.specs.Replies.{number_of}
use Rattle.model.specs.Linearizable as Bench
use Rattle.after_commands.specs.Buffers.{EveryBufferOnce}
use Rattle.after_commands.specs.Changes.{ChangesAreSuccesses}
use Rattle.after_commands.specs.WordsStay.{WordsStay}
use Rattle.after_commands.specs.OwnDoing.{NeverForItsOwnDoing}
use Rattle.station.specs.Station.{StationMemory}
use Rattle.station.specs.Projection.{embed}
use Rattle.station.specs.StationRefusals.{StationOrder, record_for, station_rows, station_set_up_rows}
use Rattle.station.specs.StationCommand.{station_refusal, station_command, obeyed_on}
use Rattle.station.specs.StationSetUp.{station_at_set_up, station_set_up}
use Rattle.station_laws.specs.AsIfAlone as Station
use Rattle.station_laws.specs.AsIfAlone.{AsIfAlone}
use Rattle.station_laws.specs.StationBuffers.{EveryBufferOnceByRecord}
use Rattle.station_laws.specs.StationChanges.{ChangesAreSuccessesByRecord}
use Rattle.station_laws.specs.StationWordsStay.{WordsStayByRecord}
use Rattle.station_laws.specs.StationOwnDoing.{StationNeverForItsOwnDoing}
use Rattle.station_laws.specs.OthersStay.{OthersStay}
use Rattle.station_laws.specs.OneRecord.{OneRecordIsTheBench}
use Rattle.commuting_laws.specs.Commuting.{FollowsDoing, DependsOnly, AltersNoOther, Commute}
use Rattle.commuting_laws.specs.OnTheBench.{CommuteOnTheBench}

-- PROMISE 1. "A command is refused exactly when a cause of the refusal table holds, and then nothing in memory
-- changes." 01: "Checked in row order; a refusal comes wherever its cause holds." Its column "Left as it was": "all
-- memory".
abbrev pub some_cause : List Row → Bool
some_cause rows = some (λ (r : Row). r.holds) rows

pub record RefusedExactly (s : StationMemory) (c : StationOrder) : Type 0 where
  pub cause : some_cause (station_rows s c) ≡ true → station_command s c ≡ (Refused (first (station_rows s c)), s)
  pub told : some_cause (station_rows s c) ≡ true → first (station_rows s c) ≡ 0 → ⊥
  pub no_cause : some_cause (station_rows s c) ≡ false → number_of (station_command s c).0 ≡ 0

-- 01: "Set-up .. takes 1, 2, 3, 8." CR 10: "23 .. after 2"
pub record SetUpRefusedExactly (s : StationMemory) (n w r : ℕ) (value : List ℕ) : Type 0 where
  pub cause : some_cause (station_set_up_rows s n w r value) ≡ true
      → station_set_up s n w r value ≡ (first (station_set_up_rows s n w r value), s)
  pub told : some_cause (station_set_up_rows s n w r value) ≡ true → first (station_set_up_rows s n w r value) ≡ 0 → ⊥
  pub no_cause : some_cause (station_set_up_rows s n w r value) ≡ false
      → station_set_up s n w r value ≡ (0, station_at_set_up s n w r value)

abbrev pub Promise1 : Type 0
Promise1 =
    ((s : StationMemory) (c : StationOrder) → RefusedExactly s c)
    × ((s : StationMemory) (n w r : ℕ) (value : List ℕ) → SetUpRefusedExactly s n w r value)

-- PROMISE 2. "Each accepted command does exactly what the next line of Figure 2 does, cut into single accesses, on
-- every table, buffer, link and private number." 01: "A step makes one access and adds 1 to the count." `obeyed_on`
-- is `model/specs/Machine`'s Figure 2, point by point, on the record that the command is about; `FollowsDoing` says
-- each point a second time, as one act on one item.
abbrev pub DoesItsLine : Type 0
DoesItsLine =
    (s : StationMemory) (c : StationOrder) → station_refusal s c ≡ 0
    → station_command s c ≡ embed s (record_for s c) c.process (obeyed_on s (record_for s c) c)

abbrev pub Promise2 : Type 0
Promise2 = DoesItsLine × FollowsDoing

-- PROMISE 3. "Over every list of commands after a set-up each answer brings its true count of own steps, open calls
-- have fewer than their kind's largest, and the answered calls can be given distinct moments inside their intervals
-- in whose order Figure 1's object gives the same answers." 01: "The list follows an accepted set-up with any N, W
-- and value, whatever the lent memory held. .. The claim is one, about the list". For one record, and by CR 10
-- "record by record".
abbrev pub Promise3 : Type 0
Promise3 = Bench.Promise3 × Station.Promise3ByRecord

-- PROMISE 4 (CR 9): "after a set-up and any commands the 3N buffer numbers are each found exactly once among N owned
-- and 2N kept"; "the words of a successful write, and the set-up value, stay unaltered in their buffer until X has
-- changed 2N more times", and X changes once for each SC that succeeds.
abbrev pub Promise4 : Type 0
Promise4 = (EveryBufferOnce × ChangesAreSuccesses × WordsStay)
    × (EveryBufferOnceByRecord × ChangesAreSuccessesByRecord × WordsStayByRecord)

-- The bench never refuses for its own doing: after a set-up the rows that look at lent memory hold of no command.
abbrev pub NoOwnDoing : Type 0
NoOwnDoing = NeverForItsOwnDoing × StationNeverForItsOwnDoing

-- SEVERAL RECORDS (CR 10): "a command on one record leaves the tables, buffers, links and private sets of the others
-- in place, and after a set-up the accepted commands of one record are answered as if its bench stood alone". With
-- one record the station is the bench.
abbrev pub SeveralRecords : Type 0
SeveralRecords = OthersStay × AsIfAlone × OneRecordIsTheBench

-- COMMUTING (CR 13): "such a step alters no other item, and .. its answer and what it leaves depend on N, W, that
-- item and its own process alone"; "two neighbouring accepted commands of different processes, with no item in common
-- or both only looking, leave the same memory and give the same two answers in either order".
abbrev pub OneItemAlone : Type 0
OneItemAlone = FollowsDoing × AltersNoOther × DependsOnly

abbrev pub ChangePlaces : Type 0
ChangePlaces = Commute × CommuteOnTheBench
