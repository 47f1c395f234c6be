-- Runs of a station, computed.
use mathlib.Core.Path.{◌≡◌, refl}
use Prim.Native.Nat.{ℕ}
use mathlib.Core.List.{List, [], ◌∷◌, ◌++◌}
use mathlib.Core.Bool.{true, false}
use lib.ListN.{replicate}
use Rattle.llsc.specs.Answers.{ll_words, sc_truth, vl_truth}
use Rattle.llsc.specs.Object.{ll, sc, vl}
use Rattle.llsc.specs.History.{calls, calls_from}
use Rattle.station.specs.Station.{StationMemory, process_at, buffer_of}
use Rattle.station.specs.StationRefusals.{StationOrder, station_in_range}
use Rattle.station.specs.StationCommand.{station_refusal, station_command}
use Rattle.station.specs.StationSetUp.{station_set_up, station_set_up_refusal}
use Rattle.station.specs.StationHistory.{seen_all, station_after}
use Rattle.station.proofs.Schedules.{l, v, s, steps, dirty}

-- two processes, one word, two records
abbrev begun : StationMemory
begun = (station_set_up dirty 2 1 2 (5 ∷ [])).1

-- "All records begin with the one value": (3R + 2)NW = 16 words, then those beyond
words_at_set_up_lem : begun.words ≡ 5 ∷ 0 ∷ 0 ∷ 0 ∷ 0 ∷ 0 ∷ 5 ∷ 0 ∷ 0 ∷ 0 ∷ 0 ∷ 0 ∷ 0 ∷ 0 ∷ 0 ∷ 0 ∷ replicate 24 4
unfolding station_set_up station_set_up_refusal
words_at_set_up_lem = refl

abbrev value_of : ℕ → List ℕ
value_of j = buffer_of begun (record { 0 = j }) (record { 0 = 0 })

value_of_each : (value_of 0 ≡ 5 ∷ []) × (value_of 1 ≡ 5 ∷ [])
unfolding station_set_up station_set_up_refusal
value_of_each = (refl, refl)

-- "the open call's record number, 0 when idle": of process 0 before, during and after an LL on record 1
abbrev called_after : List StationOrder → ℕ
called_after cs = (process_at (station_after begun cs) 0).called.0

open_record : (called_after [] ≡ 0) × (called_after (l 0 1) ≡ 1) × (called_after (l 0 1 ++ steps 9 0) ≡ 1) × (called_after (l 0 1 ++ steps 10 0) ≡ 0)
unfolding station_set_up station_set_up_refusal station_in_range station_refusal station_command station_after
open_record = (refl, refl, refl, refl)

-- Two records do not mix: process 0 writes 7 to record 1 while process 1 is in the middle of an LL on record 0.
abbrev run : List StationOrder
run =
    l 0 1 ++ steps 10 0 ++ l 1 0 ++ steps 3 1 ++ s 0 1 (7 ∷ []) ++ steps 6 0 ++ steps 7 1 ++ l 1 1 ++ steps 10 1
    ++ v 1 0 ++ steps 1 1 ++ v 0 1 ++ steps 1 0

of_record_0 : calls (seen_all (record { 0 = 0 }) begun run) ≡
    record { process = 1; kind = ll; start = 12; end = 29; steps = 10; answer = ll_words (5 ∷ []); count = 10 }
    ∷ record { process = 1; kind = vl; start = 41; end = 42; steps = 1; answer = vl_truth true; count = 1 } ∷ []
unfolding station_set_up station_set_up_refusal station_in_range station_refusal station_command seen_all calls_from
of_record_0 = refl

of_record_1 : calls (seen_all (record { 0 = 1 }) begun run) ≡
    record { process = 0; kind = ll; start = 1; end = 11; steps = 10; answer = ll_words (5 ∷ []); count = 10 }
    ∷ record { process = 0; kind = sc (7 ∷ []); start = 16; end = 22; steps = 6; answer = sc_truth true; count = 6 }
    ∷ record { process = 1; kind = ll; start = 30; end = 40; steps = 10; answer = ll_words (7 ∷ []); count = 10 }
    ∷ record { process = 0; kind = vl; start = 43; end = 44; steps = 1; answer = vl_truth false; count = 1 } ∷ []
unfolding station_set_up station_set_up_refusal station_in_range station_refusal station_command seen_all calls_from
of_record_1 = refl

-- where the words lie, once process 0 has loaded record 1, process 1 record 0, and process 1 offers 7 there: BUF of record
-- 0 and of record 1, with the copies in buffers 5 and 4, the return areas, the offer areas, and the words beyond
abbrev offered : List StationOrder
offered = l 0 1 ++ steps 10 0 ++ l 1 0 ++ steps 10 1 ++ s 1 0 (7 ∷ [])

words_in_use : (station_after begun offered).words ≡
    5 ∷ 0 ∷ 0 ∷ 0 ∷ 0 ∷ 5 ∷ 5 ∷ 0 ∷ 0 ∷ 0 ∷ 5 ∷ 0 ∷ 5 ∷ 5 ∷ 0 ∷ 7 ∷ replicate 24 4
unfolding station_set_up station_set_up_refusal station_in_range station_refusal station_command station_after
words_in_use = refl
