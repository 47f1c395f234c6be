-- The theorem about the judge, record by record.
use mathlib.Core.Path.{◌≡◌, sym, ap, subst, ◌∙◌}
use mathlib.Core.List.{List}
use Prim.Native.Nat.{◌≤◌}
use native.Mathlib.Omega.{arith}
use lib.ListN.{length}
use Rattle.model.specs.SetUp.{set_up}
use Rattle.llsc.specs.History.{Event, calls}
use Rattle.model.specs.History.{events}
use Rattle.verdict_laws.specs.Promises.{Fits}
use Rattle.verdict_laws.proofs.Theorems.{every_history_earns_yes}
use Rattle.station.specs.StationSetUp.{station_set_up}
use Rattle.station.specs.StationHistory.{given_all, seen_all}
use Rattle.station_laws.proofs.StationSetUpLaws.{lent_alone, alone_shaped, alone_admits}
use Rattle.station_laws.proofs.Theorems.{as_if_alone}
use Rattle.station_verdict_laws.specs.StationPromises.{EveryHistoryEarnsYesByRecord}
use Rattle.station_verdict_laws.proofs.GivenLaws.{given_length, given_all_is}

-- EVERY HISTORY OF A RECORD, within the request's bounds, HAS MOMENTS THAT EARN A YES: it is that of a bench alone.
pub every_history_earns_yes_by_record : EveryHistoryEarnsYesByRecord
every_history_earns_yes_by_record s shaped n w r value cs e j hj hc hl =
    let begun = (station_set_up s n w r value).1 in let gs = given_all j begun cs in
    let lent = lent_alone s j n w in
    let ok = alone_shaped s shaped n w r value e j hj in let admits = alone_admits s shaped n w r value e j in
    let same : seen_all j begun cs ≡ events (set_up lent n w value).1 gs = as_if_alone s shaped n w r value cs e j hj lent ok admits in
    let few = subst (λ (es : List Event). length (calls es) ≤ 512) same hl in
    let yes = every_history_earns_yes lent ok n w value gs admits (let x = given_length j begun cs in omega arith) few in
    record {
      timed = yes.timed;
      same_calls = yes.same_calls ∙ ap calls (sym same);
      yes = yes.yes;
      fits = λ of_value of_commands. yes.fits of_value (given_all_is Fits tt j begun cs of_commands);
    }
