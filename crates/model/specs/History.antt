-- The events of a list of commands on this bench; `llsc` has what its history is.
use Rattle.std.specs.Prelude.{List}
use Rattle.llsc.specs.History.{Command, Event, along_all}
use Rattle.model.specs.Machine.{Memory}
use Rattle.model.specs.Command.{command}
use Rattle.model.specs.Replies.{says}

-- the memory that one command leaves
abbrev pub next : Memory → Command → Memory
next m c = (command m c.process c.order c.value).1

abbrev pub event_of : Memory → Command → Event
event_of m c = record { command = c; said = says (next m c) (record { 0 = c.process }) (command m c.process c.order c.value).0 }

-- "each gets the memory that the one before it left"
unfoldable pub events : Memory → List Command → List Event
events m cs = along_all next event_of m cs
