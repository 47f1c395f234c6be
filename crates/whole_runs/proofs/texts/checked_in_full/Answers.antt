-- `whole_runs::texts::checked_in_full`: the run by the list that is long enough for every text.
use Rattle.whole_runs.proofs.TextLaws.{full_enough, read_says}
use Rattle.whole_runs.proofs.StopLaws.{read_stops}
use Rattle.whole_runs.proofs.texts.checked_in_full.Goals as goal

pub returns-clause-is : goal.returns-clause-is
returns-clause-is g c =
    let a = c.args in
    let f = a.first in
    let b = g.B.Carrier in
    let read = c.read_into-read in
    read_says b.machine a.traced a.text.now f.n f.w f.initial f.items (b.memory a.held a.words.now) a.list.now g.met.B.Starter.far
    (full_enough read.result c.full_list-entries.ensures) read.ensures c.carried_on.ensures.is

pub returns-clause-report : goal.returns-clause-report
returns-clause-report g c =
    let read = c.read_into-read in
    read_stops g.B.Carrier.machine g.met.B.Starter.far (full_enough read.result c.full_list-entries.ensures) c.requires.2.line read.ensures c.carried_on.ensures.report
