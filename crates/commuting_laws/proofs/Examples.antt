-- Pairs of neighbours by computation: what changes places, and that an item in common is a bar where one of them
-- alters. N = 2, W = 1, R = 2, the value 5.
use mathlib.Core.Path.{◌≡◌, refl}
use mathlib.Core.List.{List, [], ◌∷◌, ◌++◌}
use mathlib.Core.Bool.{true, false}
use Prim.Native.Nat.{ℕ}
use Rattle.llsc.specs.declared.Order.TheVariants.{Step}
use Rattle.model.specs.declared.Reply.TheVariants.{VlAnswered}
use Rattle.station.specs.Station.{StationMemory}
use Rattle.station.specs.StationRefusals.{StationOrder, station_in_range}
use Rattle.station.specs.StationCommand.{station_refusal, station_command}
use Rattle.station.specs.StationSetUp.{station_set_up_refusal, station_set_up}
use Rattle.station.specs.StationHistory.{station_after}
use Rattle.station.proofs.Schedules.{l, v, s, steps, dirty}
use Rattle.commuting_laws.specs.Commuting.{reply_to, leaves}

abbrev step : ℕ → StationOrder
step p = record { process = p; order = Step; called = 9; value = [] }

abbrev begun : List StationOrder → StationMemory
begun cs = station_after (station_set_up dirty 2 1 2 (5 ∷ [])).1 cs

-- an LL of each process on record 0, then process 0 is at its SC's line 19 and process 1 at its VL's line 23
abbrev before : List StationOrder
before = l 0 0 ++ steps 10 0 ++ l 1 0 ++ steps 10 1 ++ s 0 0 (7 ∷ []) ++ steps 5 0 ++ v 1 0

-- SC(X) alters, and so the VL(X) answers true before it and false after it
vl_before_sc : reply_to (begun before) (step 1) ≡ VlAnswered true 1
unfolding station_after station_set_up station_set_up_refusal station_command station_refusal station_in_range
vl_before_sc = refl

vl_after_sc : reply_to (leaves (begun before) (step 0)) (step 1) ≡ VlAnswered false 1
unfolding station_after station_set_up station_set_up_refusal station_command station_refusal station_in_range
vl_after_sc = refl

-- The same steps of process 1 on record 1: the X of another record is another item.
abbrev elsewhere : List StationOrder
elsewhere = l 0 0 ++ steps 10 0 ++ l 1 1 ++ steps 10 1 ++ s 0 0 (7 ∷ []) ++ steps 5 0 ++ v 1 1

vl_elsewhere : reply_to (leaves (begun elsewhere) (step 0)) (step 1) ≡ VlAnswered true 1
unfolding station_after station_set_up station_set_up_refusal station_command station_refusal station_in_range
vl_elsewhere = refl

memory_elsewhere : leaves (leaves (begun elsewhere) (step 0)) (step 1) ≡ leaves (leaves (begun elsewhere) (step 1)) (step 0)
unfolding station_after station_set_up station_set_up_refusal station_command station_refusal station_in_range
memory_elsewhere = refl

-- Two LLs of one X (line 2 of both): both links are set in either order.
abbrev reading : List StationOrder
reading = l 0 0 ++ steps 1 0 ++ l 1 0 ++ steps 1 1

memory_reading : leaves (leaves (begun reading) (step 0)) (step 1) ≡ leaves (leaves (begun reading) (step 1)) (step 0)
unfolding station_after station_set_up station_set_up_refusal station_command station_refusal station_in_range
memory_reading = refl
