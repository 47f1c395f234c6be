-- `marking::output::put`: the bytes passed are written.
use Rattle.std.proofs.Common.{refl, sym}
use lib.Seq.{set_out}
use Rattle.marking.proofs.MarkedLaws.{byte_put}
use Rattle.marking.proofs.output.put.Goals as goal
use Rattle.marking.proofs.output.put.Goals.{then-to, else-to}

pub loop-byte-preserved : goal.loop-byte-preserved
loop-byte-preserved c =
    let to = c.loop-byte.to in
    let more = c.loop-byte-test.true in
    elim c.if-to.branch [
      | then-to w ↦ rw w.to-is (byte_put _ _ more c.loop-byte.invariant refl refl refl)
      | else-to w ↦ rw w.to-is (byte_put _ _ more c.loop-byte.invariant refl (sym (set_out to.list.now to.written _ w.if-to.false)) refl)
    ]
