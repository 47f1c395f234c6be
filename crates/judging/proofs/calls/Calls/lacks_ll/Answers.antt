-- `judging::calls::Calls::lacks_ll` meets its contract.
use Rattle.verdicts.specs.Log.{entries}
use Rattle.judging.specs.Heads.{leads}
use Rattle.judging.proofs.CallLoops.{lacks_none}
use borrow.Author.Rules.{rules}
use Rattle.judging.proofs.calls.Calls.lacks_ll.Goals as goal

pub returns-then-e-ne-LL : goal.returns-then-e-ne-LL
returns-then-e-ne-LL c =
    let a = c.args.self.now in
    lacks_none (entries a.w a.log.now) c.args.e c.if-e-ne-LL.true _ (c.first.ensures (leads c.args.e) (λ e b p. search rules)) _ c.is_none.ensures
