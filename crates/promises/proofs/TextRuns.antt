-- A text run on the first bench is a list of commands after its set-up, and so has promise 3.
use mathlib.Core.Path.{subst}
use native.Mathlib.Omega.{arith}
use Rattle.std.specs.Prelude.{replicate}
use Rattle.notation.specs.Grammar.{says}
use Rattle.linearization.proofs.Theorems as Bench
use Rattle.whole_runs.proofs.TextLaws.{run_right}
use Rattle.text_runs.proofs.RunCommands.{carries}
use Rattle.text_model.specs.TextRun.{figure2, Ended}
use Rattle.promises.specs.TextRunPromises.{prepared, RunPromised, EveryTextIsPromised}

pub every_text_is_promised : EveryTextIsPromised
every_text_is_promised traced m shaped text listing room fits x is accepted =
    let a = says x in let value = replicate a.w a.initial in
    let run = carries figure2 traced (prepared m a).1 listing a.entries in
    subst (λ (r : Ended). RunPromised traced m a listing r)
    (run_right figure2 traced m text listing room (omega (arith, fits)) x is accepted)
    (record { run = run; promise_3 = Bench.promise_3 m shaped a.n a.w value run.commands accepted })
