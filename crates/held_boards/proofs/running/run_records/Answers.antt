-- `held_boards::running::run_records` meets its contract.
use native.Mathlib.Omega.{arith}
use Rattle.held_boards.proofs.RunLaws.{refused, goes_on, ended}
use Rattle.held_boards.proofs.running.run_records.Goals as goal

pub returns-then-told-ne0 : goal.returns-then-told-ne0
returns-then-told-ne0 c =
    refused c.loop-done.invariant (omega (arith, c.loop-done-test.true)) c.give-told.ensures (λ z. omega (arith, z, c.if-told-ne0.true))

pub loop-done-preserved : goal.loop-done-preserved
loop-done-preserved c =
    goes_on c.loop-done.invariant (omega (arith, c.loop-done-test.true)) c.give-told.ensures (omega (arith, c.if-told-ne0.false))

pub returns : goal.returns
returns c = ended c.loop-done.invariant (omega (arith, c.loop-done-test.false)) (omega (arith, c.loop-done-test.false, c.loop-done.auto.done-end))
