-- `station_setup::with_tables` meets its contract: the tables below j are set up.
use mathlib.Core.Path.{◌≡◌, ◌∙◌}
use native.Mathlib.Omega.{arith}
use lib.ListN.{length}
use Rattle.station_setup.proofs.StationSetUpLaws.{tables_next}
use Rattle.station_setup.proofs.with_tables.Goals as goal

pub loop-j-preserved : goal.loop-j-preserved
loop-j-preserved c =
    let a = c.args in
    let eight : length a.station.tables ≡ 8 = omega arith in
    c.put_bench-station.ensures
    ∙ simp (c.bench_at_set_up-set.ensures, c.bench_of-bench.ensures, c.loop-j.invariant)
    (tables_next a.station a.n a.w c.loop-j.j (omega arith))
