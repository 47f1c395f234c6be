-- A station of one record is the bench as it was: "Text and listing keep to one record."
use Rattle.std.specs.Prelude.{◌≡◌, ℕ, ◌<◌, List, map}
use Rattle.model.specs.declared.Reply.{Reply}
use Rattle.model.specs.Machine.{Memory}
use Rattle.model.specs.Command.{command}
use Rattle.model.specs.SetUp.{set_up}
use Rattle.llsc.specs.History.{Command}
use Rattle.after_commands.specs.After.{after}
use Rattle.station.specs.Station.{StationMemory, process_at}
use Rattle.station.specs.Projection.{project}
use Rattle.station.specs.StationRefusals.{StationOrder, StationShaped}
use Rattle.station.specs.StationCommand.{station_command}
use Rattle.station.specs.StationSetUp.{station_set_up}
use Rattle.station.specs.StationHistory.{station_after}

-- the bench of record 0
abbrev pub as_bench : StationMemory → Memory
as_bench s = project s (record { 0 = 0 })

-- A command of a station of one record, whose process records name no other, is the bench's command: the same reply,
-- and the bench of record 0 afterwards is the bench's memory afterwards.
abbrev pub OneRecordCommand : Type 0
OneRecordCommand =
    (s : StationMemory) → StationShaped s → s.r ≡ 1 → ((p : ℕ) → p < s.n → (process_at s p).called.0 ≡ 0)
    → (c : StationOrder) → c.called ≡ 0
    → ◌≡◌ {A = Reply × Memory} ((station_command s c).0, as_bench (station_command s c).1)
    (command (as_bench s) c.process c.order c.value)

-- A set-up for one record is the bench's set-up.
abbrev pub OneRecordSetUp : Type 0
OneRecordSetUp =
    (s : StationMemory) → StationShaped s → (n w : ℕ) (value : List ℕ)
    → ◌≡◌ {A = ℕ × Memory} ((station_set_up s n w 1 value).0, as_bench (station_set_up s n w 1 value).1)
    (set_up (as_bench s) n w value)

-- a command of the bench, on the one record
abbrev pub on_the_one : Command → StationOrder
on_the_one c = record { process = c.process; order = c.order; called = 0; value = c.value }

-- So after a set-up for one record and any commands on it the next one is the bench's, in its reply and in the memory
-- that it leaves.
abbrev pub OneRecordRuns : Type 0
OneRecordRuns =
    (s : StationMemory) → StationShaped s → (n w : ℕ) (value : List ℕ) → (station_set_up s n w 1 value).0 ≡ 0
    → (cs : List Command) (c : Command)
    → let here = station_after (station_set_up s n w 1 value).1 (map on_the_one cs) in
    ◌≡◌ {A = Reply × Memory} ((station_command here (on_the_one c)).0, as_bench (station_command here (on_the_one c)).1)
    (command (after (set_up (as_bench s) n w value).1 cs) c.process c.order c.value)

pub record OneRecordIsTheBench : Type 0 where
  pub set_up_lem : OneRecordSetUp
  pub commands : OneRecordCommand
  pub runs : OneRecordRuns
