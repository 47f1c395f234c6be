-- `whole_runs::texts::started`: the set-up refused, or done and the entries carried out.
use mathlib.Core.Path.{refl, sym}
use Rattle.whole_runs.proofs.WholeLaws.{closed_report, report_done}
use Rattle.whole_runs.proofs.texts.started.Goals as goal

pub returns-clause-report : goal.returns-clause-report
returns-clause-report g c =
    let a = c.args in
    let f = a.first in
    let b = g.B.Carrier in
    let out = c.carry_out-carried in
    let done = c.in_default.ensures.is in
    report_done b.machine a.traced f.n f.w f.initial a.entries.now (b.memory a.held a.words.now) a.list.now b.memory (record { list = a.list; written = 0 })
    out.ensures.over (g.met.B.Starter.held _ _ _ _) c.fresh-run.ensures (sym done.number) done.memory refl refl
    (g.met.B.Carrier.stops _ _ _ _) (closed_report b.machine out.result.outcome _ _ c.ended.ensures.is) c.stop_report-report.ensures
