-- CR 8's order for every text on Moir's bench.
use mathlib.Core.Path.{subst}
use Prim.Native.Nat.{◌<◌}
use native.Mathlib.Omega.{arith}
use lib.ListN.{length}
use Rattle.notation.specs.Grammar.{says}
use Rattle.moir_linearization.specs.Bound.{success_limit}
use Rattle.moir_linearization.proofs.Theorems.{short_order}
use Rattle.whole_runs.proofs.TextLaws.{run_right}
use Rattle.text_runs.proofs.RunCommands.{carries}
use Rattle.moir_text_model.specs.TextRun.{figure6, Ended}
use Rattle.moir_text_model.specs.TextOrder.{value_of, prepared, Ordered, TextOrder}

-- a text's commands are at most 60,000, so they are a short list (`ShortRuns`)
pub text_order : TextOrder
text_order traced m shaped text listing room fits x is accepted =
    let a = says x in
    let run = carries figure6 traced (prepared m a).1 listing a.entries in
    let short : length run.commands < success_limit = omega (arith, run.most) in
    let order = short_order m shaped a.n a.w (value_of a) run.commands accepted short in
    subst (λ (r : Ended). Ordered traced m a listing r) (run_right figure6 traced m text listing room fits x is accepted) (record { run = run; order = order })
