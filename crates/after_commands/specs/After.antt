-- The memory after a list of commands.
use Rattle.std.specs.Prelude.{List}
use Rattle.llsc.specs.History.{Command, after_all}
use Rattle.model.specs.Machine.{Memory}
use Rattle.model.specs.History.{next}

-- "each gets the memory that the one before it left"
unfoldable pub after : Memory → List Command → Memory
after m cs = after_all next m cs
