-- The number that comes with a step says nothing: an order with the record that it names comes to the same.
use mathlib.Core.Path.{◌≡◌, refl, ap, ◌∙◌}
use mathlib.Core.List.{List}
use Prim.Native.Nat.{ℕ}
use Rattle.llsc.specs.declared.Order.{Order}
use Rattle.llsc.specs.declared.Order.TheVariants.{StartLl, StartSc, StartVl, Step}
use Rattle.station.specs.declared.Station.{Station}
use Rattle.station.specs.declared.StationProcess.{StationProcess}
use Rattle.station_rows.specs.declared.commands.Ordered.{Ordered}
use Rattle.station_rows.specs.Ordered.{ordered, order_in, number_in}
use Rattle.station_rows.specs.StationCommandRows.{station_number}
use Rattle.station_machine.specs.StationDecision.{station_decided}

module _ (s : Station) (list : List StationProcess) (len p : ℕ) where
  same : (o : Order) (named : ℕ) (value words : List ℕ)
      → station_decided s list len p (order_in (ordered o named)) (number_in (ordered o named)) value words
      ≡ station_decided s list len p o named value words
  unfolding station_decided station_number
  same StartLl named value words = refl
  same StartSc named value words = refl
  same StartVl named value words = refl
  same Step named value words = refl

  pub same_decided : (o : Order) (named : ℕ) (value words : List ℕ) (x : Ordered) → x ≡ ordered o named
      → station_decided s list len p (order_in x) (number_in x) value words ≡ station_decided s list len p o named value words
  same_decided o named value words x e =
      ap (λ (y : Ordered). station_decided s list len p (order_in y) (number_in y) value words) e ∙ same o named value words
