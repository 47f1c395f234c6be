-- `board_commands::running::run_records` meets its contract.
use native.Mathlib.Omega.{arith}
use Rattle.board_commands.proofs.CommandLaws.{accepted_place}
use Rattle.board_commands.proofs.RunLaws.{refused}
use Rattle.board_commands.proofs.running.run_records.Goals as goal

pub returns-in-Err : goal.returns-in-Err
returns-in-Err c =
    refused c.loop-done.invariant (omega (arith, c.loop-done-test.true)) _ _ c.in-Err.ensures _ c.number.ensures _ c.left_with.ensures

pub offset_bounds-all-out : goal.offset_bounds-all-out
offset_bounds-all-out c =
    let ok = accepted_place _ _ _ _ _ _ _ c.in-Ok.ensures in
    omega (arith, ok.place, ok.most)

pub bounds-all-out : goal.bounds-all-out
bounds-all-out c =
    let ok = accepted_place _ _ _ _ _ _ _ c.in-Ok.ensures in
    omega (arith, ok.place, ok.most)
