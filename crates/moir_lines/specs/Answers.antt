-- A step that answers.
-- Inner: `moir_model`'s lines are made of it, as the contracts of `on_header` say.
use Rattle.moir_model.specs.declared.Process.{Process}
use Rattle.moir_model.specs.declared.LineStep.{LineStep}
use Rattle.moir_model.specs.declared.Reply.{Reply}
use Rattle.moir_model.specs.Records.{rest}

abbrev pub answered_by : Reply → Process → LineStep
answered_by r q = record { process = rest q; reply = r }
