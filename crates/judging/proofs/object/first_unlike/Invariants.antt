-- `judging::object::first_unlike`: the calls passed are answered alike.
use Rattle.judging.specs.Orders.{calls_of}
use Rattle.judging.proofs.ObjectLaws.{ServeInv}
use Rattle.judging.proofs.object.first_unlike.Given as goal

abbrev pub invariant-loop-k : goal.invariant-loop-k
invariant-loop-k l = ServeInv l.admitted.calls.w l.admitted.calls.log.now l.value (calls_of l.order) l.held l.k-index
