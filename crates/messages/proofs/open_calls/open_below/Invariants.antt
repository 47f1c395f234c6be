-- `messages::open_calls::open_below`: the lines of the processes so far.
use Rattle.std.proofs.Common.{take}
use Rattle.std.specs.Io.KnownBytes.{Appends}
use Rattle.messages.specs.OpenLines.{open_lines}
use Rattle.messages.proofs.open_calls.open_below.Given as goal

abbrev pub invariant-loop-p : goal.invariant-loop-p
invariant-loop-p g l =
    Appends (g.W.Write.contents l.fn.to) (g.W.Write.contents l.to) (open_lines l.method 0 (take l.p l.calls))
