-- An order with the record that it names, where it is a start: as a command to a station has it.
-- Inner: `StationOrder` of `station` is an order and a number, which says nothing at a step; `OrderLaws` of
-- `station_machine` proves that the two come to the same.
use Rattle.std.specs.Prelude.{ℕ, Option, Some, None}
use Rattle.llsc.specs.declared.Order.{Order}
use Rattle.llsc.specs.declared.Order.TheVariants.{StartLl, StartSc, StartVl, Step}
use Rattle.station_rows.specs.declared.commands.Ordered.{Ordered}
use Rattle.station_rows.specs.declared.commands.Ordered.TheVariants.{Ll, Sc, Vl, Step as Step·ordered}

abbrev pub ordered : Order → ℕ → Ordered
ordered StartLl named = Ll named
ordered StartSc named = Sc named
ordered StartVl named = Vl named
ordered Step named = Step·ordered

abbrev pub order_in : Ordered → Order
order_in (Ll named) = StartLl
order_in (Sc named) = StartSc
order_in (Vl named) = StartVl
order_in Step·ordered = Step

abbrev pub named_in : Ordered → Option ℕ
named_in (Ll named) = Some named
named_in (Sc named) = Some named
named_in (Vl named) = Some named
named_in Step·ordered = None

-- the number that `station`'s rows are told: 0 at a step, where they do not look at it
abbrev pub number_in : Ordered → ℕ
number_in (Ll named) = named
number_in (Sc named) = named
number_in (Vl named) = named
number_in Step·ordered = 0
