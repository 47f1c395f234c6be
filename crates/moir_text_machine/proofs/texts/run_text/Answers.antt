-- `moir_text_machine::texts::run_text`: the generic run, on a memory of its own.
use mathlib.Core.Path.{◌≡◌}
use Rattle.moir_text_machine.specs.TextRan.{at_start}
use Rattle.moir_text_machine.specs.RunState.{memory_of}
use Rattle.moir_text_machine.proofs.SetUpLaws.{text_ran}
use Rattle.moir_text_machine.proofs.texts.run_text.Goals as goal

pub returns : goal.returns
returns c =
    let own : memory_of (record { bench = c.empty_bench.result; all = c.records.result }) c.no_words.result ≡ at_start
    = rw (c.empty_bench.ensures, c.records.ensures, c.no_words.ensures) in
    rw c.holding.ensures (text_ran own c.run_text-out.ensures.ran)
