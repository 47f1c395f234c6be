-- Small schedules in C's terms (02, CR 5): no array crosses to C, so turns are written into the bytes lent.
use Rattle.std.specs.Prelude.{ℕ, List, ◌++◌, cond, leb, length, drop, true, false, Option, Some, None, Result, Ok, Err}
use Rattle.llsc.specs.Refusals.{refusal_number}
use Rattle.llsc.specs.declared.refusals.Refusal.{Refusal}
use Rattle.enumeration.specs.declared.Schedule.{Schedule}
use Rattle.enumeration.specs.Replies.{turns_in}
use Rattle.besklaun.specs.declared.schedules.FoundTurns.{FoundTurns}
use Rattle.besklaun.specs.declared.schedules.TurnsNumber.{TurnsNumber}
use Rattle.besklaun.specs.declared.schedules.TurnsAfter.{TurnsAfter}

-- the turns from the first byte on, the bytes behind them as they were; where the bytes are too few, all stay
abbrev pub written : Schedule → List ℕ → List ℕ
written s bytes = cond (leb s.count (length bytes)) (turns_in s ++ drop s.count bytes) bytes

-- "the schedule for a number": a refusal has no turns, so "nothing changed"
abbrev pub schedule_into : Result Schedule Refusal → List ℕ → FoundTurns × List ℕ
schedule_into (Ok s) bytes = (record { refusal = 0; count = s.count }, written s bytes)
schedule_into (Err r) bytes = (record { refusal = refusal_number r; count = 0 }, bytes)

-- "the number for a schedule"
abbrev pub number_told : Result ℕ Refusal → TurnsNumber
number_told (Ok k) = record { refusal = 0; number = k }
number_told (Err r) = record { refusal = refusal_number r; number = 0 }

-- "and the schedule after a given one, or word that it was the last", in the place of the given one
abbrev pub after_into : Result (Option Schedule) Refusal → List ℕ → TurnsAfter × List ℕ
after_into (Ok (Some s)) bytes = (record { refusal = 0; last = false }, written s bytes)
after_into (Ok None) bytes = (record { refusal = 0; last = true }, bytes)
after_into (Err r) bytes = (record { refusal = refusal_number r; last = false }, bytes)
