-- `access::texts::stored`: an SC that wrote cleared all links.
use Rattle.listing.proofs.WritingLaws.{writes_then}
use Rattle.access.specs.TraceLines.{stored_text}
use Rattle.access.proofs.texts.stored.Goals as goal

pub returns-then-t : goal.returns-then-t
unfolding stored_text
returns-then-t c = writes_then c.truth.ensures (rw c.if-t.true c.plain.ensures)
