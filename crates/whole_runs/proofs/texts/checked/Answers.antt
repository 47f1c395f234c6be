-- `whole_runs::texts::checked`: the run by a short list that the text does not fill.
use mathlib.Core.Path.{sym, ◌∙◌}
use Rattle.whole_runs.proofs.TextLaws.{short_enough, read_says}
use Rattle.whole_runs.proofs.StopLaws.{read_stops}
use Rattle.whole_runs.proofs.texts.checked.Goals as goal

pub returns-then-not-is_full-clause-is : goal.returns-then-not-is_full-clause-is
returns-then-not-is_full-clause-is g c =
    let a = c.args in
    let f = a.first in
    let b = g.B.Carrier in
    let read = c.read_into-read in
    read_says b.machine a.traced a.text.now f.n f.w f.initial f.items (b.memory a.held a.words.now) a.list.now g.met.B.Starter.far
    (short_enough read.result c.short_list-entries.ensures (sym c.is_full.ensures ∙ c.if-not-is_full.true)) read.ensures c.carried_on.ensures.is

pub returns-then-not-is_full-clause-report : goal.returns-then-not-is_full-clause-report
returns-then-not-is_full-clause-report g c =
    let read = c.read_into-read in
    read_stops g.B.Carrier.machine g.met.B.Starter.far (short_enough read.result c.short_list-entries.ensures (sym c.is_full.ensures ∙ c.if-not-is_full.true))
    c.requires.2.line read.ensures c.carried_on.ensures.report
