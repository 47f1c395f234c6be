-- Inner: what `choose` and `take` find, in the terms of Turns; `TurnLaws` ties these to `schedule_for` and `number_for`.
use Rattle.std.specs.Prelude.{Option, Some, None}
use Rattle.enumeration.specs.declared.turns.Chosen.{Chosen}
use Rattle.enumeration.specs.declared.turns.Taken.{Taken}
use Rattle.enumeration.specs.Turns.{Choice, Taking}

abbrev pub choice : Chosen → Choice
choice c = record { turn = c.turn; a = c.left.a; b = c.left.b; number = c.number }

abbrev pub taking : Option Taken → Option Taking
taking (Some t) = Some (record { a = t.left.a; b = t.left.b; skipped = t.skipped })
taking None = None
