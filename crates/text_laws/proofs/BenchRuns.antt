-- The bench runs A to J of 01, as texts and listings: one list, and one theorem that runs through it. And traces, in the same way.
use mathlib.Core.Path.{◌≡◌, refl}
use mathlib.Core.List.{List, [], ◌∷◌, ◌++◌, map}
use mathlib.Core.Bool.{Bool, true, false}
use Prim.Native.Nat.{ℕ, ◌-◌}
use Prim.Native.String.{String}
use lib.ListN.{length, replicate}
use Rattle.model.specs.Places.{XPlace, BankPlace, HelpPlace}
use Rattle.model.specs.declared.Process.{Process}
use Rattle.model.specs.Machine.{Memory, step_at, obey}
use Rattle.model.specs.Refusals.{in_range}
use Rattle.model.specs.Command.{command, refusal}
use Rattle.model.specs.SetUp.{set_up, set_up_refusal}
use Rattle.notation.specs.Bytes.{kind_of}
use Rattle.notation.specs.Grammar.{times}
use Rattle.notation.specs.Scan.{on_digit, more, move, said, at_end, go, scan}
use Rattle.notation.specs.FirstLine.{starting, inside, step, whole, proceed, read_from, read}
use Rattle.listing.specs.Decimal.{digits, decimal}
use Rattle.listing.specs.Lines.{line_feed, answer_head, words_of, ll_line, truth_line, end_line, refused_line}
use Rattle.doings.specs.Doings.{doing_at}
use Rattle.access.specs.Accesses.{access_of}
use Rattle.listing.specs.Quoted.{quoted}
use Rattle.access.specs.TraceLines.{half_text, half_place_text, item_text, values_text, stored_text, written_text, act_text, access_text}
use Rattle.trace_parts.specs.TraceParts.{spaced, bracketed, head_text, truth_text, end_text, start_text, start_line, step_line}
use Rattle.text_runs.specs.TextRun as TR
use Rattle.text_model.specs.TextRun.{run_with}

-- a text, and what a run of it writes
pub record Run : Type 0 where
  pub text : String
  pub shows : List String

-- What is lent is full of dirt: more records and words than are needed, and none of its numbers in its range.
unfoldable pub dirty_x : XPlace
dirty_x = record { content = record { buf = record { 0 = 201 }; seq = record { 0 = 202 } }; links = 65535 }

unfoldable pub dirty_bank : BankPlace
dirty_bank = record { content = record { 0 = 203 }; links = 65535 }

unfoldable pub dirty_help : HelpPlace
dirty_help = record { content = record { flag = 204; buf = record { 0 = 205 } }; links = 65535 }

unfoldable pub dirty_process : Process
dirty_process = record {
  mybuf = record { 0 = 206 };
  x = record { buf = record { 0 = 207 }; seq = record { 0 = 208 } };
  line = 209;
  word = 210;
  count = 211;
  answered = true;
  b = record { 0 = 212 };
  c = record { 0 = 213 };
  d = record { 0 = 214 };
  e = record { 0 = 215 };
}

unfoldable pub lent : Memory
lent = record {
  bench = record { n = 216; w = 217; x = dirty_x; bank = replicate 32 dirty_bank; help = replicate 16 dirty_help };
  records = replicate 3 dirty_process;
  words = replicate 12 18446744073709551615;
}

unfoldable pub dirty_bytes : ℕ → List ℕ
dirty_bytes k = replicate k 218

pub record Outcome : Type 0 where
  pub written : ℕ
  pub listing : List ℕ

-- what a run writes, with the bytes behind it: its style, and the bytes that are lent for it
pub runs_to : Bool → ℕ → Run → Outcome
runs_to traced room r = let e = run_with traced lent (quoted r.text) (dirty_bytes room) in record { written = e.written; listing = e.listing }

-- lines, each with its line feed
lines : List String → List ℕ
lines [] = []
lines (l ∷ ls) = quoted l ++ (line_feed ∷ lines ls)

-- what it should write; "Bytes after the last line stay."
pub should : ℕ → Run → Outcome
should room r = let bs = lines r.shows in record { written = length bs; listing = bs ++ dirty_bytes (room - length bs) }

pub runs : List Run
runs =
    -- A
    record { text = "2 1 5\n0l 0! 0s7 0! 1l 1! 0v 0!\n"; shows = "0 L 10 5" ∷ "0 S 6 1" ∷ "1 L 10 7" ∷ "0 V 1 0" ∷ "end 31" ∷ [] } ∷
    -- B
    record { text = "2 1 5\n0l 2(0.) 1l 1! 1s7 1! 0! 0v 0!\n"; shows = "1 L 10 5" ∷ "1 S 8 1" ∷ "0 L 13 7" ∷ "0 V 1 1" ∷ "end 36" ∷ [] } ∷
    -- C
    record { text = "2 1 5\n0l 2(0.) 1l 1! 1s7 1! 6(0.) 1l 1! 1s9 1! 0! 0v 0!\n"; shows = "1 L 10 5" ∷ "1 S 8 1" ∷ "1 L 10 7" ∷ "1 S 8 1" ∷ "0 L 15 5" ∷ "0 V 1 0" ∷ "end 58" ∷ [] } ∷
    -- D
    record { text = "1 1 5\n0l 0! 0s6 0! 0s7 0!\n"; shows = "0 L 10 5" ∷ "0 S 6 1" ∷ "0 S 6 0" ∷ "end 25" ∷ [] } ∷
    -- E
    record { text = "2 1 5\n0l 0! 1l 1! 0s6 0! 1s7 1!\n"; shows = "0 L 10 5" ∷ "1 L 10 5" ∷ "0 S 6 1" ∷ "1 S 6 0" ∷ "end 36" ∷ [] } ∷
    -- F
    record { text = "2 1 5\n0l 0! 0s7 0! 1l 1! 1s9 1!\n"; shows = "0 L 10 5" ∷ "0 S 6 1" ∷ "1 L 10 7" ∷ "1 S 8 1" ∷ "end 38" ∷ [] } ∷
    -- G
    record { text = "2 1 5\n0s1\n"; shows = "refused 7 0" ∷ [] } ∷
    -- H
    record { text = "2 1 5\n0.\n"; shows = "refused 6 0" ∷ [] } ∷
    -- I
    record { text = "2 1 5\n0l 0l\n"; shows = "refused 5 1" ∷ [] } ∷
    -- J
    record { text = "2 1 5\n2l\n"; shows = "refused 4 0" ∷ [] } ∷
    -- and `!`, "at least one": a step at an idle process
    record { text = "2 1 5\n0!\n"; shows = "refused 6 0" ∷ [] } ∷
    []

pub runs_as_in_01 : map (runs_to false 800) runs ≡ map (should 800) runs
unfolding dirty_x dirty_bank dirty_help dirty_process lent dirty_bytes runs_to lines should runs TR.run_with read read_from
    proceed step starting inside whole scan go move said more on_digit at_end kind_of times TR.carry_all TR.carry TR.steps TR.single
    command refusal obey step_at in_range set_up set_up_refusal ll_line truth_line end_line refused_line answer_head words_of
    decimal digits
runs_as_in_01 = refl

pub traces : List Run
traces =
    record {
      text = "2 1 5\n0l 2(0.)\n";
      shows =
          "1 0 start L" ∷
          "2 0 1 Help[0] write 1 4 links cleared" ∷
          "3 0 2 X LL 0 0 link set" ∷
          "end 3" ∷
          [];
    } ∷
    -- a refused entry has no line
    record { text = "2 1 5\n0l 0l\n"; shows = "1 0 start L" ∷ "refused 5 1" ∷ [] } ∷
    -- A
    record {
      text = "2 1 5\n0l 0! 0s7 0! 1l 1! 0v 0!\n";
      shows =
          "1 0 start L" ∷
          "2 0 1 Help[0] write 1 4 links cleared" ∷
          "3 0 2 X LL 0 0 link set" ∷
          "4 0 3 BUF[0][0] low read 5" ∷
          "5 0 3 BUF[0][0] high read 0" ∷
          "6 0 4 Help[0] LL 1 4 link set" ∷
          "7 0 8 Help[0] LL 1 4 link set" ∷
          "8 0 9 Help[0] SC 0 4 true links cleared" ∷
          "9 0 10 Help[0] read 0 4" ∷
          "10 0 11 BUF[4][0] low write 5" ∷
          "11 0 11 BUF[4][0] high write 0 answers 0 L 10 5" ∷
          "12 0 start S 7" ∷
          "13 0 12 Bank[0] LL 0 link set" ∷
          "14 0 14 Help[0] LL 0 4 link set" ∷
          "15 0 17 BUF[4][0] low write 7" ∷
          "16 0 17 BUF[4][0] high write 0" ∷
          "17 0 18 Bank[1] read 1" ∷
          "18 0 19 X SC 4 1 true links cleared answers 0 S 6 1" ∷
          "19 1 start L" ∷
          "20 1 1 Help[1] write 1 5 links cleared" ∷
          "21 1 2 X LL 4 1 link set" ∷
          "22 1 3 BUF[4][0] low read 7" ∷
          "23 1 3 BUF[4][0] high read 0" ∷
          "24 1 4 Help[1] LL 1 5 link set" ∷
          "25 1 8 Help[1] LL 1 5 link set" ∷
          "26 1 9 Help[1] SC 0 5 true links cleared" ∷
          "27 1 10 Help[1] read 0 5" ∷
          "28 1 11 BUF[5][0] low write 7" ∷
          "29 1 11 BUF[5][0] high write 0 answers 1 L 10 7" ∷
          "30 0 start V" ∷
          "31 0 23 X VL false answers 0 V 1 0" ∷
          "end 31" ∷
          [];
    } ∷
    []

pub traces_line_by_line : map (runs_to true 2000) traces ≡ map (should 2000) traces
unfolding dirty_x dirty_bank dirty_help dirty_process lent dirty_bytes runs_to lines should traces TR.run_with read read_from
    proceed step starting inside whole scan go move said more on_digit at_end kind_of times TR.carry_all TR.carry TR.steps TR.single
    command refusal obey step_at in_range set_up set_up_refusal ll_line truth_line end_line refused_line answer_head words_of
    decimal digits access_of doing_at spaced bracketed head_text half_text half_place_text item_text values_text truth_text
    stored_text written_text act_text access_text end_text step_line start_text start_line
traces_line_by_line = refl
