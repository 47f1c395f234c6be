-- What is left of the trace is still to be written, with its marks.
use Rattle.std.proofs.Common.{◌≡◌, length}
use Rattle.marking.proofs.MarkedLaws.{Marking}
use Rattle.marking.proofs.output.mark_lines.Given as goal

abbrev pub invariant-loop-rest : goal.invariant-loop-rest
invariant-loop-rest l = record {
  marking : Marking l.text l.initial.to.list.now l.to.list.now l.before l.rest l.to.written;
  same : l.to.list.ghost_name ≡ l.initial.to.list.ghost_name;
}

abbrev pub decreases-loop-rest : goal.decreases-loop-rest
decreases-loop-rest l = length l.rest
