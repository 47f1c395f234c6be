-- `messages::pieces::say`: the pieces so far.
use Rattle.std.proofs.Common.{take}
use Rattle.std.specs.Io.KnownBytes.{Appends}
use Rattle.messages.specs.Pieces.{pieces_text}
use Rattle.messages.proofs.pieces.say.Given as goal

abbrev pub invariant-loop-piece : goal.invariant-loop-piece
invariant-loop-piece g l =
    Appends (g.W.Write.contents l.fn.to) (g.W.Write.contents l.to) (pieces_text (take l.piece-index l.pieces))
