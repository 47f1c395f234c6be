-- `besklaun::moir_texts::own_run`: what is seen of the run by value is what is seen of `text_runs`' own.
use mathlib.Core.Path.{ap}
use mathlib.Core.List.{List}
use Prim.Native.Nat.{ℕ}
use Rattle.text_runs.specs.declared.returned.TextRun.{TextRun}
use Rattle.moir_text_machine.specs.TextRan.{Seen}
use Rattle.besklaun.proofs.moir_texts.own_run.Goals as goal

-- the part of it that a caller of the library sees
abbrev shown : Seen → TextRun × List ℕ
shown s = (record { number = s.number; entries = s.entries; written = s.written }, s.listing)

pub returns : goal.returns
returns c = record {
  run = rw c.from-run.ensures (ap shown c.run_text-out.ensures.same);
  report = c.run_text-out.result.report;
  told = c.from-stop.ensures;
  stops = c.run_text-out.ensures.stops;
}
