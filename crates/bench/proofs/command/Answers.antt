-- `bench::command` meets its contract: what is decided of what is gathered, stored back, is the station's command.
use mathlib.Core.Path.{ap, ◌∙◌}
use mathlib.Core.List.{List}
use Prim.Native.Nat.{ℕ}
use lib.ListN.{length}
use Rattle.model.specs.declared.Reply.TheVariants.{Refused}
use Rattle.station.specs.declared.StationProcess.{StationProcess}
use Rattle.station.specs.Station.{station_memory}
use Rattle.station_records.specs.declared.gathered.Gathered.{Gathered}
use Rattle.station_machine.specs.StationDecision.{station_decided, stored_back}
use Rattle.lent.specs.Gathered.{gathered}
use Rattle.station.specs.StationSetUp.{empty_process}
use Rattle.station_rows.specs.Ordered.{order_in, number_in}
use Rattle.station_machine.proofs.OrderLaws.{same_decided}
use Rattle.station_machine.proofs.StationDecisionLaws.{decision_law}
use Rattle.bench.proofs.command.Goals as goal

pub returns-in-Ok : goal.returns-in-Ok
returns-in-Ok c =
    let a = c.args in
    let ps = a.processes.now in
    let o = c.new.result in
    let out = c.in-Ok.out in
    ap (λ (r : List StationProcess). (out.reply, station_memory out.station r c.decide.new.words)) c.store_at.ensures ∙
    ap (stored_back a.station.now ps)
    (c.in-Ok.ensures ∙ ap (λ (l : Gathered). station_decided l.station l.all l.len a.process (order_in o) (number_in o) a.value.now a.words.now) c.gather-gathered.ensures
    ∙ same_decided a.station.now (gathered ps empty_process 16) (length ps) a.process a.order a.named a.value.now a.words.now o c.new.ensures) ∙
    decision_law a.station.now ps a.words.now a.process a.order a.named a.value.now

pub returns-in-Err : goal.returns-in-Err
returns-in-Err c =
    let a = c.args in
    let ps = a.processes.now in
    let o = c.new.result in
    ap (λ (k : ℕ). (Refused k, station_memory a.station.now ps c.decide.new.words)) c.number.ensures ∙
    ap (stored_back a.station.now ps)
    (c.in-Err.ensures ∙ ap (λ (l : Gathered). station_decided l.station l.all l.len a.process (order_in o) (number_in o) a.value.now a.words.now) c.gather-gathered.ensures
    ∙ same_decided a.station.now (gathered ps empty_process 16) (length ps) a.process a.order a.named a.value.now a.words.now o c.new.ensures) ∙
    decision_law a.station.now ps a.words.now a.process a.order a.named a.value.now
