-- `station_text_machine::records_before`: each process as record 0 has it.
use mathlib.Core.Path.{◌≡◌, sym, ◌∙◌}
use Prim.Native.Nat.{◌<◌}
use native.Mathlib.Omega.{arith}
use borrow.Author.Rules.{rules}
use lib.ListN.{length, get_or, length-map}
use lib.Seq.{ext_get_or}
use Rattle.model.specs.Records.{no_process}
use Rattle.station.specs.StationSetUp.{empty_process}
use Rattle.station.specs.Projection.{process_of}
use Rattle.station_text_machine.specs.StationText.{record0}
use Rattle.station_text_machine.specs.TextByValue.{records_before}
use Rattle.station_text_machine.proofs.SeenLaws.{map_at}
use Rattle.station_text_machine.proofs.records_before.Goals as goal

pub returns : goal.returns
returns c =
    let l = c.args.all in
    let m = c.map.ensures.items in
    let sixteen : length l ≡ 16 = omega arith in
    let few : length c.map.result ≡ length (records_before l) = m.long ∙ sym (length-map l (process_of record0) ∙ sixteen) in
    ext_get_or no_process c.map.result (records_before l) few
    (λ i h. let k : i < 16 = omega (arith, h, few, m.long) in let a = (m.at i empty_process no_process k).2 in
    let e : get_or c.map.result i no_process ≡ process_of record0 (get_or l i empty_process) = search rules in e ∙ sym (map_at l i))
