-- `judging::calls::Calls::first_unled` meets its contract.
use Rattle.verdicts.specs.Log.{entries}
use Rattle.judging.specs.Heads.{lacks_ll}
use borrow.Author.Rules.{rules}
use Rattle.judging.proofs.calls.Calls.first_unled.Goals as goal

pub returns : goal.returns
returns c = let a = c.args.self.now in c.first.ensures (lacks_ll (entries a.w a.log.now)) (λ e b p. search rules)
