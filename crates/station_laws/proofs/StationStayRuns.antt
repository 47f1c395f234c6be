-- The definitions of `specs/StationChanges` and `specs/StationWordsStay` on a run, computed: a success on record 1
-- changes its own X alone; after 2N changes of it the set-up value is written over there, and stands in record 0.
use mathlib.Core.Path.{◌≡◌, refl}
use Prim.Native.Nat.{ℕ}
use mathlib.Core.List.{List, [], ◌∷◌, ◌++◌}
use Rattle.station.specs.Station.{StationMemory, buffer_of}
use Rattle.station.specs.StationRefusals.{StationOrder, station_in_range}
use Rattle.station.specs.StationCommand.{station_refusal, station_command}
use Rattle.station.specs.StationSetUp.{station_set_up, station_set_up_refusal}
use Rattle.station.specs.StationHistory.{station_after}
use Rattle.station.proofs.Schedules.{l, s, steps, dirty}
use Rattle.station_laws.specs.StationChanges.{x_of, changes_of}

-- one process, one word, two records, the initial value 5
abbrev begun : StationMemory
begun = (station_set_up dirty 1 1 2 (5 ∷ [])).1

-- the process writes 7 and 8 to record 1, and 9 up to the end of its line 17
abbrev writes : List StationOrder
writes =
    l 0 1 ++ steps 10 0 ++ s 0 1 (7 ∷ []) ++ steps 6 0 ++ l 0 1 ++ steps 10 0 ++ s 0 1 (8 ∷ []) ++ steps 8 0
    ++ l 0 1 ++ steps 10 0 ++ s 0 1 (9 ∷ []) ++ steps 6 0

abbrev changed : ℕ → ℕ
changed j = changes_of (record { 0 = j }) begun writes

pub changed_alone : (changed 1 ≡ 2) × (changed 0 ≡ 0)
unfolding station_set_up station_set_up_refusal station_in_range station_refusal station_command changes_of
changed_alone = (refl, refl)

-- the buffer that the record's X named at the set-up
abbrev value : ℕ → List ℕ
value j = buffer_of (station_after begun writes) (record { 0 = j }) (x_of begun (record { 0 = j })).buf

pub written_over : (value 1 ≡ 9 ∷ []) × (value 0 ≡ 5 ∷ [])
unfolding station_set_up station_set_up_refusal station_in_range station_refusal station_command station_after
written_over = (refl, refl)
