-- What a record is given of a list: as many commands, with no other words.
use mathlib.Core.Path.{◌≡◌, refl, ap}
use mathlib.Core.Bool.{Bool, true, false, cond}
use mathlib.Core.List.{List, [], ◌∷◌, map}
use Prim.Native.Nat.{ℕ, suc}
use lib.ListN.{length}
use Rattle.llsc.specs.History.{Command}
use Rattle.llsc.specs.Linearizable.{All}
use Rattle.station.specs.declared.RecordNumber.{RecordNumber}
use Rattle.station.specs.Station.{StationMemory}
use Rattle.station.specs.StationRefusals.{StationOrder}
use Rattle.station.specs.StationCommand.{station_command}
use Rattle.station.specs.StationHistory.{is_for, plain, nobody, given_all}

pub given_length : (j : RecordNumber) (s : StationMemory) (cs : List StationOrder) → length (given_all j s cs) ≡ length cs
unfolding given_all
given_length j s [] = refl
given_length j s (c ∷ cs) = ap suc (given_length j (station_command s c).1 cs)

-- what holds of the words of each command, and of none, holds of the words that the record is given
module _ (P : List ℕ → Type 0) (of_none : P []) where
  one : (b : Bool) (c : StationOrder) (n : ℕ) → P c.value → P (cond b (plain c) (nobody n)).value
  one true c n h = h
  one false c n h = of_none

  pub given_all_is : (j : RecordNumber) (s : StationMemory) (cs : List StationOrder)
      → All (λ (c : Command). P c.value) (map plain cs) → All (λ (c : Command). P c.value) (given_all j s cs)
  unfolding given_all
  given_all_is j s [] h = tt
  given_all_is j s (c ∷ cs) h = (one (is_for j s c) c s.n h.0, given_all_is j (station_command s c).1 cs h.1)
