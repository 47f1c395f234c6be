-- A run on the bench of Figure 2 as its loop holds it.
-- Inner: `TurnLaws` proves that an entry of it is `single` of `text_runs/specs/TextRun`.
use Rattle.std.specs.Prelude.{ℕ, List, take}
use Rattle.model.specs.Machine.{Memory}
use Rattle.listing.specs.declared.Writer.{Writer}
use Rattle.text_runs.specs.declared.runs.Run.{Run}
use Rattle.text_entry.specs.declared.state.Held.{Held}
use Rattle.text_entry.specs.RunState.{RunState, state_of}
use Rattle.text_machine.specs.declared.carrying.LentHeld.{LentHeld}

-- the run without the count of what is lent
abbrev pub held_run : Run LentHeld → Run Held
held_run r = record { held = r.held.held; entries = r.entries; traced = r.traced }

abbrev pub lent_state : Run LentHeld → ℕ → List ℕ → Writer → RunState
lent_state r k ws to = state_of (held_run r) k ws to

-- the lent memory, with so many of the records
abbrev pub lent_memory : LentHeld → List ℕ → Memory
lent_memory r ws = record { bench = r.held.bench; records = take r.len r.held.all; words = ws }
