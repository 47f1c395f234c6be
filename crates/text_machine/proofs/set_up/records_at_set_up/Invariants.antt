-- `text_machine::set_up::records_at_set_up`: one record after another.
use mathlib.Core.Path.{◌≡◌}
use Rattle.text_machine.proofs.SetUpLaws.{records_set}
use Rattle.text_machine.proofs.set_up.records_at_set_up.Given as goal

abbrev pub invariant-loop-p : goal.invariant-loop-p
invariant-loop-p l = l.next ≡ records_set l.initial.next l.count.n l.p
