-- The rows of a station's refusal table and their order, computed: 1, 2, 23, 3, 8 for a set-up, and 1, 2, 23, 3, 9, 4,
-- 24, 8, 5, 6, 7 for a command.
use mathlib.Core.Path.{◌≡◌, refl}
use Prim.Native.Nat.{ℕ}
use mathlib.Core.List.{[], ◌∷◌, ◌++◌}
use lib.ListN.{get_or, set, replicate}
use Rattle.llsc.specs.declared.Order.TheVariants.{StartLl, StartSc, Step}
use Rattle.model.specs.Places.{XPlace}
use Rattle.model.specs.Points.{Point, line_number, idle, line2}
use Rattle.station.specs.declared.Tables.{Tables}
use Rattle.station.specs.declared.Holding.{Holding}
use Rattle.station.specs.declared.StationProcess.{StationProcess}
use Rattle.station.specs.Station.{StationMemory, no_tables, process_at, holding_at}
use Rattle.station.specs.StationRefusals.{StationOrder, station_in_range}
use Rattle.station.specs.StationCommand.{station_refusal, station_command}
use Rattle.station.specs.StationSetUp.{station_set_up, station_set_up_refusal}
use Rattle.station.specs.StationHistory.{station_after}
use Rattle.station.proofs.Schedules.{l, steps, dirty}

-- the set-up: accepted; record counts 0 and 9; 2 before 23; 23 before 3; too few words; no value
set_up_rows_lem :
    ((station_set_up dirty 2 1 2 (5 ∷ [])).0 ≡ 0)
    × ((station_set_up dirty 2 1 0 (5 ∷ [])).0 ≡ 23)
    × ((station_set_up dirty 2 1 9 (5 ∷ [])).0 ≡ 23)
    × ((station_set_up dirty 2 0 9 (5 ∷ [])).0 ≡ 2)
    × ((station_set_up dirty 2 7 9 (5 ∷ [])).0 ≡ 23)
    × ((station_set_up dirty 2 3 2 []).0 ≡ 3)
    × ((station_set_up dirty 2 1 2 []).0 ≡ 8)
unfolding station_set_up station_set_up_refusal
set_up_rows_lem = (refl, refl, refl, refl, refl, refl, refl)

-- process 0 has an LL of record 0 answered, process 1 is in an LL of record 0
abbrev then : StationMemory
then = station_after (station_set_up dirty 2 1 2 (5 ∷ [])).1 (l 0 0 ++ steps 10 0 ++ l 1 0 ++ steps 2 1)

abbrev number : StationOrder → ℕ
number c = station_refusal then c

-- 4 before 24; 24 before 8; 8 before 5; 5 before 7; one open call, on whichever record; 7 looks at that record; accepted, also a
-- step that names a record
command_rows_lem :
    (number (record { process = 2; order = StartLl; called = 2; value = [] }) ≡ 4)
    × (number (record { process = 0; order = StartSc; called = 2; value = [] }) ≡ 24)
    × (number (record { process = 1; order = StartSc; called = 1; value = [] }) ≡ 8)
    × (number (record { process = 1; order = StartSc; called = 0; value = 6 ∷ [] }) ≡ 5)
    × (number (record { process = 1; order = StartLl; called = 1; value = [] }) ≡ 5)
    × (number (record { process = 0; order = Step; called = 9; value = [] }) ≡ 6)
    × (number (record { process = 0; order = StartSc; called = 1; value = 6 ∷ [] }) ≡ 7)
    × (number (record { process = 0; order = StartSc; called = 0; value = 6 ∷ [] }) ≡ 0)
    × (number (record { process = 1; order = Step; called = 9; value = [] }) ≡ 0)
unfolding station_set_up station_set_up_refusal station_in_range station_refusal station_command station_after
command_rows_lem = (refl, refl, refl, refl, refl, refl, refl, refl, refl)

-- then, with another record number and line in process 0
abbrev called : ℕ → Point → StationProcess → StationProcess
called j y q = record { holdings = q.holdings; called = record { 0 = j }; line = line_number y; word = 0; count = 0; b = q.b; c = q.c; d = q.d; e = q.e }

abbrev with : ℕ → Point → StationMemory
with j y = record { n = 2; w = 1; r = 2; tables = then.tables; processes = set then.processes 0 (called j y (process_at then 0)); words = then.words }

abbrev asked : StationMemory → ℕ
asked m = station_refusal m (record { process = 5; order = Step; called = 0; value = [] })

-- "9 also at a record number not below the count, or above 0 when idle", before 4
record_numbers : (asked (with 2 line2) ≡ 9) × (asked (with 1 idle) ≡ 9) × (asked (with 1 line2) ≡ 4) × (asked (with 0 idle) ≡ 4)
unfolding station_set_up station_set_up_refusal station_in_range station_refusal station_command station_after
record_numbers = (refl, refl, refl, refl)

-- "The words lent become (3R + 2) × N × W": 16 for N = 2, W = 1 and R = 2 are enough, and 15 are not
abbrev lending : ℕ → StationMemory
lending k = record { n = 0; w = 0; r = 0; tables = dirty.tables; processes = dirty.processes; words = replicate k 4 }

words_lent : ((station_set_up (lending 16) 2 1 2 (5 ∷ [])).0 ≡ 0) × ((station_set_up (lending 15) 2 1 2 (5 ∷ [])).0 ≡ 3)
unfolding station_set_up station_set_up_refusal
words_lent = (refl, refl)

-- a set-up takes the mark of an answered LL back
marked_anew : station_refusal (station_set_up then 2 1 2 (5 ∷ [])).1 (record { process = 0; order = StartSc; called = 0; value = 6 ∷ [] }) ≡ 7
unfolding station_set_up station_set_up_refusal station_in_range station_refusal station_command station_after
marked_anew = refl

-- row 9 looks at each record's tables below R, and at none from R on: X of record j names buffer 6, and 3N is 6
abbrev astray : ℕ → StationMemory
astray j =
    let t = get_or then.tables j no_tables in
    let x : XPlace = record { content = record { buf = record { 0 = 6 }; seq = t.x.content.seq }; links = t.x.links } in
    let spoilt : Tables = record { x = x; bank = t.bank; help = t.help } in
    record { n = 2; w = 1; r = 2; tables = set then.tables j spoilt; processes = then.processes; words = then.words }

tables_looked_at : (asked (astray 0) ≡ 9) × (asked (astray 1) ≡ 9) × (asked (astray 2) ≡ 4)
unfolding station_set_up station_set_up_refusal station_in_range station_refusal station_command station_after
tables_looked_at = (refl, refl, refl)

-- and at what each process below N holds of each record below R, and at nothing else: process p's buffer of record j is 6
abbrev amiss : ℕ → ℕ → StationMemory
amiss p j =
    let q = process_at then p in
    let h = holding_at q (record { 0 = j }) in
    let spoilt : Holding = record { mybuf = record { 0 = 6 }; x = h.x; answered = h.answered } in
    let spoilt_process : StationProcess = record q { holdings = set q.holdings j spoilt } in
    record { n = 2; w = 1; r = 2; tables = then.tables; processes = set then.processes p spoilt_process; words = then.words }

holdings_looked_at :
    (asked (amiss 0 0) ≡ 9)
    × (asked (amiss 0 1) ≡ 9)
    × (asked (amiss 1 1) ≡ 9)
    × (asked (amiss 0 2) ≡ 4)
    × (asked (amiss 2 1) ≡ 4)
unfolding station_set_up station_set_up_refusal station_in_range station_refusal station_command station_after
holdings_looked_at = (refl, refl, refl, refl, refl)
