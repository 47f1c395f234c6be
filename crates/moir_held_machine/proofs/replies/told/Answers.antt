-- `moir_held_machine::replies::told` meets its contract: a WLL that names a process tells that process.
use Rattle.moir_held_machine.proofs.replies.told.Goals as goal

pub returns-in-WllNamed : goal.returns-in-WllNamed
returns-in-WllNamed c = rw c.in-WllNamed.is c.plain-in-WllNamed.ensures
