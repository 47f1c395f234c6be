-- `judging::object::serve` meets its contract.
use Rattle.judging.proofs.ObjectLaws.{moved_head}
use borrow.Author.Rules.{rules}
use Rattle.judging.proofs.object.serve.Goals as goal

pub returns-then-e-eq-LL : goal.returns-then-e-eq-LL
returns-then-e-eq-LL c =
    let a = c.args.admitted.now.calls in
    moved_head a.w a.log.now c.args.k c.args.held.now c.requires.sane c.head-e.result c.head-e.ensures.value c.if-e-eq-LL.true (search rules) c.head-e.ensures.linked
