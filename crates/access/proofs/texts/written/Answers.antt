-- `access::texts::written`: a half word has no links.
use mathlib.Core.Logic.{inl, inr}
use Rattle.access.specs.TraceLines.{written_text}
use Rattle.access.proofs.texts.written.Goals as goal

pub returns-in-X : goal.returns-in-X
unfolding written_text
returns-in-X c =
    elim c.in-X.is [
      | inl (v, e) ↦ rw e c.plain.ensures
      | inr (inl (i, v, e)) ↦ rw e c.plain.ensures
      | inr (inr (i, v, e)) ↦ rw e c.plain.ensures
    ]
