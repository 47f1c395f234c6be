-- `positions::look`: what is left to look at leads to the same.
use Prim.Native.Nat.{◌+◌}
use mathlib.Core.Path.{sym, ap, ◌∙◌}
use native.Mathlib.Omega.{arith}
use lib.ListN.{drop}
use Rattle.positions.specs.declared.Seen.{Seen}
use Rattle.positions.specs.Positions.{seen_from}
use Rattle.positions.proofs.PositionLaws.{passed_more, one_further}
use Rattle.positions.proofs.look.Goals as goal

pub loop-b-preserved : goal.loop-b-preserved
loop-b-preserved c =
    let bs = c.args.before.now in let i = c.loop-b.b-index in let next = c.on_byte-s.ensures in
    let left = c.loop-b.invariant.left ∙ one_further bs i c.loop-b.s (omega arith) ∙ ap (λ (x : Seen). seen_from (drop (i + 1) bs) x) (sym next) in
    record { passed = rw next (passed_more i _ _ c.loop-b.invariant.passed); left = left }
