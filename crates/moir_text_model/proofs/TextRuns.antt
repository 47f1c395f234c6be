-- Text runs on Moir's bench by computation, on memory full of dirt: the line of each kind of answer in a listing, and a
-- trace, byte for byte. The commands are those of `moir_model/proofs/Runs`; the lines are worked out from Figure 6.
use Prim.Native.Nat.{ℕ, ◌-◌}
use Prim.Native.String.{String}
use mathlib.Core.Path.{◌≡◌, refl}
use mathlib.Core.Bool.{Bool, true, false}
use mathlib.Core.List.{List, [], ◌∷◌, ◌++◌}
use lib.ListN.{length, replicate}
use Rattle.notation.specs.Bytes.{kind_of}
use Rattle.notation.specs.Grammar.{times}
use Rattle.notation.specs.Scan.{on_digit, more, move, said, at_end, go, scan}
use Rattle.notation.specs.FirstLine.{starting, inside, step, whole, proceed, read_from, read}
use Rattle.notation.proofs.ReadingLaws.{reader}
use Rattle.listing.specs.Quoted.{quoted}
use Rattle.listing.specs.Decimal.{digits, decimal}
use Rattle.listing.specs.Lines.{line_feed, answer_head, words_of, ll_line, truth_line, end_line, refused_line}
use Rattle.trace_parts.specs.TraceParts.{spaced, bracketed, head_text, truth_text, end_text, start_text, start_line, step_line}
use Rattle.moir_model.specs.Machine.{step_at, obey}
use Rattle.moir_model.specs.Refusals.{in_range}
use Rattle.moir_model.specs.Command.{command, refusal}
use Rattle.moir_model.specs.SetUp.{set_up, set_up_refusal}
use Rattle.moir_model.proofs.Schedules.{dirty}
use Rattle.moir_access.specs.Accesses.{access_of}
use Rattle.moir_access.specs.TraceParts.{item_text, values_text, act_text, access_text}
use Rattle.text_runs.specs.TextRun as TR
use Rattle.moir_text_model.specs.TextRun.{figure6, named_line}

-- a text, and what a run of it writes
record Run : Type 0 where
  text : String
  shows : List String

-- lines, each with its line feed
lines : List String → List ℕ
lines [] = []
lines (l ∷ ls) = quoted l ++ (line_feed ∷ lines ls)

record Outcome : Type 0 where
  written : ℕ
  listing : List ℕ

-- what a run writes into so many bytes, with those behind it, and what it should: "Bytes after the last line stay."
runs_to : Bool → ℕ → Run → Outcome
runs_to traced room r =
    let e = TR.run_with figure6 reader traced dirty (quoted r.text) (replicate room 218) in
    record { written = e.written; listing = e.listing }

should : ℕ → Run → Outcome
should room r =
    let bs = lines r.shows in
    record { written = length bs; listing = bs ++ replicate (room - length bs) 218 }

-- an SC that succeeds, and a VL whose link is gone
succeeds : Run
succeeds = record {
  text = "2 1 5\n0l 0! 0s7 0! 1l 1! 0v 0!\n";
  shows = "0 L 3 5" ∷ "0 S 8 1" ∷ "1 L 3 7" ∷ "0 V 1 0" ∷ "end 19" ∷ [];
}

-- a WLL that names a process, and the VL and the SC after it
names_it : Run
names_it = record {
  text = "2 1 5\n1l 1. 0l 0! 0s7 0! 1! 1v 1! 1s9 1!\n";
  shows = "0 L 3 5" ∷ "0 S 8 1" ∷ "1 N 3 0" ∷ "1 V 1 0" ∷ "1 S 1 0" ∷ "end 21" ∷ [];
}

-- a VL that is true, while an SC that has succeeded is still open
helped : Run
helped = record {
  text = "2 1 5\n0l 0! 0s7 3(0.) 1l 1! 1v 1! 0! 1v 1!\n";
  shows = "0 L 3 5" ∷ "1 L 6 7" ∷ "1 V 1 1" ∷ "0 S 5 1" ∷ "1 V 1 1" ∷ "end 21" ∷ [];
}

-- "After a refused entry nothing more runs."
busy : Run
busy = record { text = "2 1 5\n0l 0l 0!\n"; shows = "refused 5 1" ∷ [] }

record Listings : Type 0 where
  one_that_succeeds : runs_to false 800 succeeds ≡ should 800 succeeds
  one_that_names : runs_to false 800 names_it ≡ should 800 names_it
  one_that_is_helped : runs_to false 800 helped ≡ should 800 helped
  one_refused : runs_to false 800 busy ≡ should 800 busy

listings : Listings
unfolding runs_to lines should succeeds names_it helped busy TR.run_with read read_from proceed step starting inside whole
    scan go move said more on_digit at_end kind_of times TR.carry_all TR.carry TR.steps TR.single command refusal obey step_at
    in_range set_up set_up_refusal ll_line truth_line named_line end_line refused_line answer_head words_of spaced decimal digits
listings = record { one_that_succeeds = refl; one_that_names = refl; one_that_is_helped = refl; one_refused = refl }

-- the trace of the first
traced_run : Run
traced_run = record {
  text = "2 1 5\n0l 0! 0s7 0! 1l 1! 0v 0!\n";
  shows =
      "1 0 start L" ∷
      "2 0 10 hdr read 0 0" ∷
      "3 0 2 data[0] read 0 5" ∷
      "4 0 7 hdr read 0 0 answers 0 L 3 5" ∷
      "5 0 start S 7" ∷
      "6 0 14 hdr read 0 0" ∷
      "7 0 17 A[0][0] write 7" ∷
      "8 0 19 hdr CAS 0 0 1 0 true" ∷
      "9 0 2 data[0] read 0 5" ∷
      "10 0 4 A[0][0] read 7" ∷
      "11 0 5 data[0] CAS 0 5 1 7 true" ∷
      "12 0 6 data[0] read 1 7" ∷
      "13 0 7 hdr read 1 0 answers 0 S 8 1" ∷
      "14 1 start L" ∷
      "15 1 10 hdr read 1 0" ∷
      "16 1 2 data[0] read 1 7" ∷
      "17 1 7 hdr read 1 0 answers 1 L 3 7" ∷
      "18 0 start V" ∷
      "19 0 13 hdr read 1 0 answers 0 V 1 0" ∷
      "end 19" ∷
      [];
}

trace_line_by_line : runs_to true 2000 traced_run ≡ should 2000 traced_run
unfolding runs_to lines should traced_run TR.run_with read read_from proceed step starting inside whole scan go move said more
    on_digit at_end kind_of times TR.carry_all TR.carry TR.steps TR.single command refusal obey step_at in_range set_up
    set_up_refusal ll_line truth_line named_line end_line refused_line answer_head words_of spaced decimal digits access_of
    bracketed head_text item_text values_text truth_text act_text access_text end_text step_line start_text start_line
trace_line_by_line = refl
