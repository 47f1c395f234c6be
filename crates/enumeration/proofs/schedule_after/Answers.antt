use mathlib.Core.Path.{sym}
use Rattle.std.proofs.lemmas.Result.{err_from_is_err_and}
use Rattle.enumeration.proofs.ReplyLaws.{following_refused}
use Rattle.enumeration.proofs.schedule_after.Goals as goal

pub returns-in_err-next : goal.returns-in_err-next
returns-in_err-next c =
    let p = err_from_is_err_and c.from_residual-in_err-next.result c.from_residual-in_err-next.ensures.1 in
    rw (p.1, p.2) (following_refused _ _ _ _ (sym c.in_err-next.ensures))
