-- `station_text_machine::processes_ran` meets its contract: the processes below i are put back.
use mathlib.Core.Path.{◌≡◌}
use native.Mathlib.Omega.{arith}
use lib.ListN.{length}
use Rattle.station.specs.Station.{no_station_process}
use Rattle.station_facts.proofs.Firsts.{firsts_one_more}
use Rattle.station_text_machine.specs.TextByValue.{put_at}
use Rattle.station_text_machine.proofs.processes_ran.Goals as goal

pub loop-i-preserved : goal.loop-i-preserved
loop-i-preserved c =
    let a = c.args in
    let sixteen : length a.all ≡ 16 = omega arith in
    simp (c.put_process.ensures, c.loop-i.invariant)
    (firsts_one_more (put_at a.records) c.loop-i.i a.all no_station_process (omega (arith, sixteen, c.requires)))
