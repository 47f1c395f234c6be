-- `moir_held_machine::writes::process_numbers` meets its contract: each number at its place.
use mathlib.Core.Path.{refl}
use Rattle.moir_held_machine.proofs.writes.process_numbers.Goals as goal

pub returns : goal.returns
returns c = rw c.mark.ensures refl
