-- `lent::gather`: each element is the record lent there, or the other one.
use borrow.Author.Rules.{rules}
use native.Mathlib.Omega.{arith}
use lib.ListN.{get_or}
use Rattle.lent.proofs.GatheredLaws.{gathered_is}
use Rattle.lent.proofs.MadeLaws.{made_at}
use Rattle.lent.proofs.gather.Goals as goal

pub returns : goal.returns
returns g c =
    let l = c.args.records.now in
    let i = c.from_fn.ensures.items in
    gathered_is l c.args.none _ i.long (λ j h. made_at _ (λ k. get_or l k c.args.none) _ (λ k y q e. search rules) _ 0 16 i.each j c.args.none (omega arith) (omega (arith, h)))
