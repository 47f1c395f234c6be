-- After a set-up of the station: beside each record a bench of its own, which was given that record's part of the list.
use mathlib.Core.Path.{◌≡◌, refl, ap}
use mathlib.Core.List.{List, [], ◌∷◌, ◌++◌}
use Prim.Native.Nat.{ℕ, ◌<◌}
use Rattle.model.specs.Machine.{Memory}
use Rattle.model.specs.SetUp.{set_up}
use Rattle.model.specs.History.{events, event_of}
use Rattle.after_commands.specs.After.{after}
use Rattle.station.specs.declared.RecordNumber.{RecordNumber}
use Rattle.station.specs.Station.{StationMemory}
use Rattle.station.specs.StationRefusals.{StationOrder, StationShaped}
use Rattle.station.specs.StationCommand.{station_command}
use Rattle.station.specs.StationSetUp.{station_set_up}
use Rattle.station.specs.StationHistory.{given, seen, given_all, seen_all, station_after}
use Rattle.station_laws.proofs.StationRuns.{Inv, inv_after, all_events, step_event_is, number_after}
use Rattle.station_laws.proofs.StationSetUpLaws.{lent_alone, h_w, set_up_inv}

-- a list in two parts
pub given_append : (j : RecordNumber) (s : StationMemory) (cs more : List StationOrder) → given_all j s (cs ++ more) ≡ given_all j s cs ++ given_all j (station_after s cs) more
unfolding given_all station_after
given_append j s [] more = refl
given_append j s (c ∷ cs) more = ap (given j s c ∷◌) (given_append j (station_command s c).1 cs more)

pub given_one : (j : RecordNumber) (s : StationMemory) (c : StationOrder) → given_all j s (c ∷ []) ≡ given j s c ∷ []
unfolding given_all
given_one j s c = refl

module _ (s : StationMemory) (shaped : StationShaped s) (n w r : ℕ) (value : List ℕ) (e : (station_set_up s n w r value).0 ≡ 0) where
  abbrev pub begun : StationMemory
  begun = (station_set_up s n w r value).1

  -- the bench of record j's own
  abbrev pub lone : RecordNumber → Memory
  lone j = (set_up (lent_alone s j n w) n w value).1

  pub inv : (cs : List StationOrder)
      → Inv n w r (h_w s shaped n w r value e) (number_after n w r (h_w s shaped n w r value e) 1 cs) (station_after begun cs) (λ j. after (lone j) (given_all j begun cs))
  inv cs = inv_after n w r (h_w s shaped n w r value e) cs 1 _ _ (set_up_inv s shaped n w r value e)

  pub saw : (cs : List StationOrder) (j : RecordNumber) → j.0 < r → seen_all j begun cs ≡ events (lone j) (given_all j begun cs)
  saw cs j hj = all_events n w r (h_w s shaped n w r value e) cs 1 _ _ (set_up_inv s shaped n w r value e) j hj

  pub saw_next : (cs : List StationOrder) (c : StationOrder) (j : RecordNumber) → j.0 < r
      → seen j (station_after begun cs) c ≡ event_of (after (lone j) (given_all j begun cs)) (given j (station_after begun cs) c)
  saw_next cs c j hj = step_event_is n w r (h_w s shaped n w r value e) _ _ _ (inv cs) c j hj
