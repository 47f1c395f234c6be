-- What a step leaves of the bench and of its process, where it writes no words.
-- Inner: `moir_model`'s `step_at` is made of these, as the contract of `step` says.
use Rattle.moir_model.specs.declared.Bench.{Bench}
use Rattle.moir_model.specs.declared.Process.{Process}
use Rattle.moir_model.specs.declared.LineStep.{LineStep}
use Rattle.moir_model.specs.declared.Moved.{Moved}
use Rattle.moir_model.specs.Words.{put_header}
use Rattle.moir_model.specs.Lines.{gone_on, cas_header, do_line19}

abbrev pub moved_by : Bench → LineStep → Moved
moved_by b s = record { bench = b; process = s.process; reply = s.reply }

abbrev pub moved_on : Bench → Process → Moved
moved_on b q = moved_by b (gone_on q)

abbrev pub moved19 : Bench → Process → Moved
moved19 b q = moved_by (put_header b (cas_header b.header q)) (do_line19 b.header q)
