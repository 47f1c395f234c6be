-- `board_commands::commands::decide` meets its contract.
use mathlib.Core.Path.{◌≡◌, ap, ◌∙◌}
use Rattle.board_commands.specs.BoardRun.{order_of}
use Rattle.board_commands.specs.ByValue.{at_most64}
use Prim.Native.Nat.{◌≤◌}
use native.Mathlib.Omega.{arith}
use lib.ListN.{take}
use Rattle.boards.specs.Files.{record_of}
use Rattle.station_machine.proofs.OrderLaws.{same_decided}
use Rattle.board_commands.proofs.CommandLaws.{at_most, record_decided}
use Rattle.board_commands.proofs.commands.decide.Goals as goal

pub returns : goal.returns
returns c =
    let w = c.min-w in let a = c.args in
    let same : w.result ≡ at_most64 a.lent.station.w = grind arith in
    let few : w.result ≤ 64 = omega (arith, same, at_most a.lent.station.w) in
    record_decided a.lent.station a.lent.all a.lent.len (record_of a.bytes.now) a.words.now
    c.value.ensures same (c.order_of-order.ensures ∙ ap order_of c.order.ensures) (ap (take w.result) c.repeated-value.ensures) few
    (rw c.process-p.ensures at c.decide.ensures ∙ same_decided a.lent.station a.lent.all a.lent.len (record_of a.bytes.now).process _ 0 _ a.words.now c.new.result c.new.ensures)
