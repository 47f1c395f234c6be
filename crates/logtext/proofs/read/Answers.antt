-- `logtext::read`: what is left of the text, read on, leads to the same.
use mathlib.Core.Path.{sym, ◌∙◌}
use native.Mathlib.Omega.{arith}
use Rattle.logtext.proofs.ReadingLaws.{read_stop, read_end}
use Rattle.logtext.proofs.read.Goals as goal

pub returns-then-is_some : goal.returns-then-is_some
returns-then-is_some c = read_stop _ _ _ _ _ c.loop-b.invariant (omega arith) _ _ c.byte-r.ensures (sym c.is_some.ensures ∙ c.if-is_some.true)

pub returns : goal.returns
returns c = read_end _ _ _ _ _ c.loop-b.invariant (omega (arith, c.loop-b-test.false)) _ _ c.close.ensures
