-- `station_machine::obey` meets its contract: where no row holds the order can be obeyed.
use mathlib.Core.Path.{◌≡◌, ap}
use native.Mathlib.Omega.{arith}
use lib.ListN.{length, get_or}
use Prim.Native.Nat.{ℕ}
use Rattle.station_rows.specs.Ordered.{order_in, number_in}
use Rattle.station.specs.Station.{no_station_process}
use Rattle.station_machine.proofs.StationObeyLaws.{taken_obeyable, whole}
use Rattle.station_machine.proofs.obey.Goals as goal

pub obey_in-moved-requires : goal.obey_in-moved-requires
obey_in-moved-requires c =
    let a = c.args in
    let sixteen : length a.lent.all ≡ 16 = omega arith in
    rw c.order.ensures
    (taken_obeyable a.lent.station a.lent.all a.lent.len a.command.process (order_in a.command.order) (number_in a.command.order) a.value.now a.words.now
    (record {
      process_is = ap (λ (i : ℕ). get_or a.lent.all i no_station_process) c.record_place.ensures;
      number_is = c.record_about.ensures;
      bench_is = c.bench_of-bench.ensures;
      seen_is = c.process_of-process.ensures;
      rows_is = c.rows_of-rows.ensures;
    })
    sixteen c.requires)

pub returns : goal.returns
returns c =
    let a = c.args in
    whole a.lent.station a.lent.all a.lent.len a.command.process (order_in a.command.order) (number_in a.command.order) a.value.now a.words.now
    (record {
      process_is = ap (λ (i : ℕ). get_or a.lent.all i no_station_process) c.record_place.ensures;
      number_is = c.record_about.ensures;
      bench_is = c.bench_of-bench.ensures;
      seen_is = c.process_of-process.ensures;
      rows_is = c.rows_of-rows.ensures;
    })
    c.requires (rw c.order.ensures at c.obey_in-moved.ensures) c.obeyed.ensures
