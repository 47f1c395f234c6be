-- Runs of small files by computation: two processes, one or two words, begun with 5. What they print, the number and the
-- commands done. Only the bytes that are written are shown.
use Prim.Native.Nat.{ℕ}
use Prim.Native.String.{String}
use mathlib.Core.Path.{◌≡◌, refl}
use mathlib.Core.List.{List, [], ◌∷◌, ◌++◌}
use lib.ListN.{replicate, take}
use Rattle.model.specs.Records.{no_process}
use Rattle.model.specs.Machine.{Memory, step_at, obey}
use Rattle.model.specs.Refusals.{in_range}
use Rattle.model.specs.Command.{refusal, command}
use Rattle.model.specs.SetUp.{empty_bench, set_up, set_up_refusal}
use Rattle.listing.specs.Quoted.{quoted}
use Rattle.listing.specs.Decimal.{digits, decimal}
use Rattle.listing.specs.Lines.{answer_head, words_of, ll_line, truth_line, end_line, refused_line}
use Rattle.boards.specs.Files.{BoardRecord, good_trailer, records_of, good_fronts, rising, records_bytes, file_number, encode}
use Rattle.board_listing.specs.BoardListing.{obey_all, run_listed, board_listed}

-- records at tick 1: process p starts an LL, an SC of v, a VL, and makes n steps
abbrev l : ℕ → List BoardRecord
l p = record { tick = 1; value = 0; process = p; order = 1 } ∷ []

abbrev s : ℕ → ℕ → List BoardRecord
s p v = record { tick = 1; value = v; process = p; order = 2 } ∷ []

abbrev v : ℕ → List BoardRecord
v p = record { tick = 1; value = 0; process = p; order = 3 } ∷ []

abbrev steps : ℕ → ℕ → List BoardRecord
steps n p = replicate n (record { tick = 1; value = 0; process = p; order = 0 })

-- 5NW = 20 words for two of two
abbrev lent : Memory
lent = record { bench = empty_bench; records = replicate 2 no_process; words = replicate 20 9 }

record Shown : Type 0 where
  number : ℕ
  done : ℕ
  bytes : List ℕ

abbrev shown : ℕ → ℕ → List ℕ → ℕ → Shown
shown n w file room =
    let e = board_listed lent n w 5 file (replicate room 46) in
    record { number = e.number; done = e.entries; bytes = take e.written e.listing }

abbrev said : ℕ → ℕ → String → Shown
said number done text = record { number = number; done = done; bytes = quoted text }

-- run A of 01, by the steps of CR 4: every word in two halves
case_a : shown 2 1 (encode (l 0 ++ steps 10 0 ++ s 0 7 ++ steps 6 0 ++ l 1 ++ steps 10 1 ++ v 0 ++ steps 1 0)) 800
    ≡ said 0 31 "0 L 10 5\n0 S 6 1\n1 L 10 7\n0 V 1 0\nend 31\n"
unfolding set_up set_up_refusal step_at obey in_range refusal command digits decimal answer_head words_of ll_line truth_line end_line
    refused_line file_number good_trailer records_of good_fronts rising records_bytes obey_all run_listed board_listed
case_a = refl

-- "an SC's value in all W words"
two_words : shown 2 2 (encode (l 0 ++ steps 14 0 ++ s 0 7 ++ steps 8 0 ++ l 0 ++ steps 14 0)) 800 ≡ said 0 39 "0 L 14 5 5\n0 S 8 1\n0 L 14 7 7\nend 39\n"
unfolding set_up set_up_refusal step_at obey in_range refusal command digits decimal answer_head words_of ll_line truth_line end_line
    refused_line file_number good_trailer records_of good_fronts rising records_bytes obey_all run_listed board_listed
two_words = refl

-- "up to the first refusal": the refused command is not done
start_at_busy : shown 2 1 (encode (l 0 ++ steps 10 0 ++ l 1 ++ l 1 ++ steps 5 1)) 800 ≡ said 5 12 "0 L 10 5\nrefused 5 12\n"
unfolding set_up set_up_refusal step_at obey in_range refusal command digits decimal answer_head words_of ll_line truth_line end_line
    refused_line file_number good_trailer records_of good_fronts rising records_bytes obey_all run_listed board_listed
start_at_busy = refl

-- a process byte above 15
no_such_process : shown 2 1 (encode (l 1 ++ l 200)) 800 ≡ said 4 1 "refused 4 1\n"
unfolding set_up set_up_refusal step_at obey in_range refusal command digits decimal answer_head words_of ll_line truth_line end_line
    refused_line file_number good_trailer records_of good_fronts rising records_bytes obey_all run_listed board_listed
no_such_process = refl

-- the set-up first, then 25 and 26: no process, no word, a file cut short, an LL with a value
no_process_lem : shown 0 1 [] 800 ≡ said 1 0 "refused 1 0\n"
unfolding set_up set_up_refusal digits decimal refused_line board_listed
no_process_lem = refl

no_word : shown 2 0 [] 800 ≡ said 2 0 "refused 2 0\n"
unfolding set_up set_up_refusal digits decimal refused_line board_listed
no_word = refl

cut_short : shown 2 1 (84 ∷ 82 ∷ 65 ∷ 76 ∷ []) 800 ≡ said 25 0 "refused 25 0\n"
unfolding set_up set_up_refusal digits decimal refused_line file_number good_trailer run_listed board_listed
cut_short = refl

value_with_ll : shown 2 1 (encode (l 0 ++ (record { tick = 1; value = 7; process = 0; order = 1 } ∷ []))) 800 ≡ said 26 0 "refused 26 0\n"
unfolding set_up set_up_refusal digits decimal refused_line file_number good_trailer records_of good_fronts rising records_bytes run_listed board_listed
value_with_ll = refl

-- 14: with 743 bytes nothing is written; with 752 the line of 9 leaves 743 for the next command
no_room : shown 2 1 (encode (l 0)) 743 ≡ said 14 0 ""
unfolding board_listed
no_room = refl

room_for_one : shown 2 1 (encode (l 0 ++ steps 10 0 ++ l 1)) 752 ≡ said 14 11 "0 L 10 5\nrefused 14 11\n"
unfolding set_up set_up_refusal step_at obey in_range refusal command digits decimal answer_head words_of ll_line truth_line end_line
    refused_line file_number good_trailer records_of good_fronts rising records_bytes obey_all run_listed board_listed
room_for_one = refl

exact_room : shown 2 1 (encode (l 0 ++ steps 10 0 ++ l 1)) 753 ≡ said 0 12 "0 L 10 5\nend 12\n"
unfolding set_up set_up_refusal step_at obey in_range refusal command digits decimal answer_head words_of ll_line truth_line end_line
    refused_line file_number good_trailer records_of good_fronts rising records_bytes obey_all run_listed board_listed
exact_room = refl
