-- `held_texts::commands::command`: refused, or done.
use Rattle.std.proofs.lemmas.Result.{err_from_is_err_and}
use Rattle.held_texts.proofs.CommandLaws.{command_refused, command_done}
use Rattle.held_texts.proofs.commands.command.Goals as goal

pub returns-in_err-near_refusal : goal.returns-in_err-near_refusal
returns-in_err-near_refusal c =
    let p = err_from_is_err_and c.from_residual.result c.from_residual.ensures.1 in
    rw (p.1, p.2) (command_refused c.in_err-near_refusal.ensures)

pub returns : goal.returns
returns c = command_done c.in_ok-near_refusal.ensures c.obeyed.ensures c.obeyed.auto.held
