-- `held_boards::running::give` meets its contract.
use mathlib.Core.Path.{ap, ◌∙◌}
use native.Mathlib.Omega.{arith}
use lib.ListN.{take}
use Rattle.boards.specs.Files.{record_of}
use Rattle.board_commands.specs.BoardRun.{order_of}
use Rattle.board_commands.proofs.CommandLaws.{at_most}
use Rattle.held_model.specs.Memory.{number_at}
use Rattle.held_boards.proofs.GivenLaws.{given}
use Rattle.held_boards.proofs.running.give.Goals as goal

pub returns : goal.returns
returns c =
    let a = c.args in
    given a.held.now (record_of a.bytes.now) c.value.ensures c.words_brought-w.ensures.is (c.order_of-order.ensures ∙ ap order_of c.order.ensures)
    (ap (take c.words_brought-w.result) c.repeated-value.ensures) (rw c.process-p.ensures at c.whole_command.ensures)
