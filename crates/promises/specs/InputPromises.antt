-- The promises of README for other ways to give the bench its commands: all small schedules in order, turns, and the
-- trace files of boards. The entries' replies are their contracts: `found_for`, `numbered_for` and `following_for` at
-- `enumeration`'s three, `merge_files` at `boards::merge`, `turn_of` and `run_file` at the entries for a turn and for a
-- board's file.
use Rattle.std.specs.Prelude.{◌≡◌, ℕ, List, Ok, true, ltb}
use Rattle.enumeration_model.specs.Schedules.{is_schedule, before, number_for, schedule_after, ComesOnce, Follows}
use Rattle.enumeration.specs.declared.Schedule.{Schedule}
use Rattle.enumeration.specs.Replies.{kept, turns_in, found_for, numbered_for}
use Rattle.turns_model.specs.TurnPromises.{EveryTurnSays}
use Rattle.boards.specs.Promises.{MergeMerges, OnlyOne, EmptyGivesOther}
use Rattle.board_commands.specs.Promises.{EveryFileRuns, RunsAmongCommands}
use Rattle.board_laws.specs.Promises.{EveryListedRun, EveryExportedRun}

-- ALL SMALL SCHEDULES (CR 5): "every schedule comes once", "Schedules come in dictionary order, process 0 before
-- process 1", and the one after is the next in that order, "or word that it was the last".
pub record InOrder (a b : ℕ) (ts : List ℕ) : Type 0 where
  pub once : ComesOnce a b ts
  pub order : (us : List ℕ) → is_schedule a b us ≡ true → before ts us ≡ ltb (number_for a b ts) (number_for a b us)
  pub next : Follows a b ts (schedule_after a b ts)

abbrev pub EverySchedule : Type 0
EverySchedule = (a b : ℕ) (ts : List ℕ) → is_schedule a b ts ≡ true → InOrder a b ts

-- "both translations undo each other"
abbrev pub BothUndo : Type 0
BothUndo =
    ((a b k : ℕ) (s : Schedule) → found_for a b k ≡ Ok s → numbered_for a b (turns_in s) ≡ Ok k)
    × ((a b : ℕ) (ts : List ℕ) (k : ℕ) → numbered_for a b ts ≡ Ok k → found_for a b k ≡ Ok (kept a b ts))

-- A TURN (CR 5): "One entry takes a turn of 0 or 1 (22 for another, first of all) and gives the command's reply, or
-- pass".
abbrev pub Turns : Type 0
Turns = EveryTurnSays

-- TWO BOARD TRACES MADE ONE (CR 12): "Every record comes out once, and each file's own order is kept", "by tick, the
-- first file first at equal ticks", and in no other way.
abbrev pub Merge : Type 0
Merge = MergeMerges × OnlyOne × EmptyGivesOther

-- A BOARD TRACE THAT IS RUN (CR 12): "memory, number (0 for none) and commands done are as if its records came one by
-- one", among other commands, too; and the run that is listed, for the library, has that number and those commands.
abbrev pub BoardRun : Type 0
BoardRun = EveryFileRuns × RunsAmongCommands × EveryListedRun × EveryExportedRun
