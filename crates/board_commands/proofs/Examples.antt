-- Runs of small files by computation: two processes, two words, two records, begun with 5 and 6.
use Prim.Native.Nat.{ℕ}
use mathlib.Core.Path.{◌≡◌, refl}
use mathlib.Core.Bool.{true, false}
use mathlib.Core.List.{List, [], ◌∷◌, ◌++◌}
use lib.ListN.{replicate}
use Rattle.llsc.specs.declared.Order.TheVariants.{StartLl}
use Rattle.llsc.specs.Answers.{ll_words, sc_truth, vl_truth}
use Rattle.llsc.specs.Object.{ll, sc, vl}
use Rattle.llsc.specs.History.{calls, calls_from}
use Rattle.boards.specs.Files.{BoardRecord, good_trailer, records_of, good_fronts, rising, records_bytes, file_number, encode}
use Rattle.station.specs.Station.{StationMemory, station_memory, process_at, offer_area_of}
use Rattle.station.specs.StationRefusals.{station_in_range}
use Rattle.station.specs.StationCommand.{station_refusal, station_command}
use Rattle.station.specs.StationSetUp.{empty_station, empty_process, station_set_up, station_set_up_refusal}
use Rattle.station.specs.StationHistory.{seen_all, station_after}
use Rattle.board_commands.specs.declared.FileRun.{FileRun}
use Rattle.board_commands.specs.BoardRun.{run_records, run_file}
use Rattle.board_commands.specs.Promises.{commands_of}

-- records at tick 1, their order and value as CR 12 says: process p starts an LL, an SC of v, a VL, and makes n steps
abbrev l : ℕ → List BoardRecord
l p = record { tick = 1; value = 0; process = p; order = 1 } ∷ []

abbrev s : ℕ → ℕ → List BoardRecord
s p v = record { tick = 1; value = v; process = p; order = 2 } ∷ []

abbrev v : ℕ → List BoardRecord
v p = record { tick = 1; value = 0; process = p; order = 3 } ∷ []

abbrev steps : ℕ → ℕ → List BoardRecord
steps n p = replicate n (record { tick = 1; value = 0; process = p; order = 0 })

-- (3R + 2)NW = 32 words
abbrev begun : StationMemory
begun = (station_set_up (station_memory empty_station (replicate 2 empty_process) (replicate 32 9)) 2 2 2 (5 ∷ 6 ∷ [])).1

abbrev ran : List BoardRecord → FileRun × StationMemory
ran rs = run_file (encode rs) begun

-- an LL takes 4W+6 steps, the SC after it 2W+4, a VL one
abbrev whole : List BoardRecord
whole = l 0 ++ steps 14 0 ++ s 0 7 ++ steps 8 0 ++ v 0 ++ steps 1 0 ++ l 1 ++ steps 14 1

to_the_end : (ran whole).0 ≡ record { number = 0; done = 41 }
unfolding station_set_up station_set_up_refusal station_in_range station_refusal station_command file_number good_trailer records_of good_fronts rising records_bytes run_records run_file
to_the_end = refl

-- "an SC's value in all W words", on record 0; record 1 sees nothing
answers : calls (seen_all (record { 0 = 0 }) begun (commands_of 2 (encode whole))) ≡
    record { process = 0; kind = ll; start = 1; end = 15; steps = 14; answer = ll_words (5 ∷ 6 ∷ []); count = 14 }
    ∷ record { process = 0; kind = sc (7 ∷ 7 ∷ []); start = 16; end = 24; steps = 8; answer = sc_truth true; count = 8 }
    ∷ record { process = 0; kind = vl; start = 25; end = 26; steps = 1; answer = vl_truth false; count = 1 }
    ∷ record { process = 1; kind = ll; start = 27; end = 41; steps = 14; answer = ll_words (7 ∷ 7 ∷ []); count = 14 } ∷ []
unfolding station_set_up station_set_up_refusal station_in_range station_refusal station_command seen_all calls_from records_of records_bytes
answers = refl

none_of_record_1 : calls (seen_all (record { 0 = 1 }) begun (commands_of 2 (encode whole))) ≡ []
unfolding station_set_up station_set_up_refusal station_in_range station_refusal station_command seen_all calls_from records_of records_bytes
none_of_record_1 = refl

offered : offer_area_of (ran (l 0 ++ steps 14 0 ++ s 0 7)).1 (record { 0 = 0 }) ≡ 7 ∷ 7 ∷ []
unfolding station_set_up station_set_up_refusal station_in_range station_refusal station_command file_number good_trailer records_of good_fronts rising records_bytes run_records run_file
offered = refl

-- a refused command isn't done, and nothing after it: a start at a busy process, a process not below N
start_at_busy : (ran (l 0 ++ steps 2 0 ++ l 0 ++ steps 5 0)).0 ≡ record { number = 5; done = 3 }
unfolding station_set_up station_set_up_refusal station_in_range station_refusal station_command file_number good_trailer records_of good_fronts rising records_bytes run_records run_file
start_at_busy = refl

left_as_it_was : (ran (l 0 ++ steps 2 0 ++ l 0 ++ steps 5 0)).1 ≡ station_after begun (commands_of 2 (encode (l 0 ++ steps 2 0)))
unfolding station_set_up station_set_up_refusal station_in_range station_refusal station_command station_after file_number good_trailer records_of good_fronts rising records_bytes run_records run_file
left_as_it_was = refl

no_such_process : (ran (l 1 ++ l 200)).0 ≡ record { number = 4; done = 1 }
unfolding station_set_up station_set_up_refusal station_in_range station_refusal station_command file_number good_trailer records_of good_fronts rising records_bytes run_records run_file
no_such_process = refl

-- 25 and 26 come first: a file cut short, an LL with a value
cut_short : run_file (84 ∷ 82 ∷ 65 ∷ 76 ∷ []) begun ≡ (record { number = 25; done = 0 }, begun)
unfolding station_set_up station_set_up_refusal file_number good_trailer run_file
cut_short = refl

value_with_ll : ran (l 0 ++ (record { tick = 1; value = 7; process = 0; order = 1 } ∷ [])) ≡ (record { number = 26; done = 0 }, begun)
unfolding station_set_up station_set_up_refusal file_number good_trailer records_of good_fronts rising records_bytes run_file
value_with_ll = refl

-- a step goes to the record of the open call, here record 1: the last step but one leaves it open, the last answers
abbrev open_on1 : StationMemory
open_on1 = station_after begun (record { process = 0; order = StartLl; called = 1; value = [] } ∷ [])

step_on_record_1 : ((process_at (run_file (encode (steps 13 0)) open_on1).1 0).called.0 ≡ 1) × ((run_file (encode (steps 15 0)) open_on1).0 ≡ record { number = 6; done = 14 })
unfolding station_set_up station_set_up_refusal station_in_range station_refusal station_command station_after file_number good_trailer records_of good_fronts rising records_bytes run_records run_file
step_on_record_1 = (refl, refl)

-- the memory is the caller's: one that no set-up made is refused by the first command
no_set_up : run_file (encode (l 0)) (station_memory empty_station [] []) ≡ (record { number = 1; done = 0 }, station_memory empty_station [] [])
unfolding station_in_range station_refusal station_command file_number good_trailer records_of good_fronts rising records_bytes run_records run_file
no_set_up = refl
