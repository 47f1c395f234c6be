-- `besklaun::texts::run_on`: the run by value is the run on a bench of its own.
use Rattle.besklaun.proofs.OwnBenchLaws.{ran_alone}
use Rattle.besklaun.proofs.texts.run_on.Goals as goal

pub returns : goal.returns
returns c = ran_alone _ _ _ _ _ _ _ _ c.empty-held.ensures c.run_by_value-out.ensures c.from-run.ensures c.from-stop.ensures
