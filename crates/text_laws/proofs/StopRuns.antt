-- Where runs stopped, by computation: what the promise of a place comes to, and some texts with the numbers and places that they stop at.
use mathlib.Core.Path.{◌≡◌, refl, sym, ap, ◌∙◌}
use mathlib.Core.List.{List, [], ◌∷◌, map}
use mathlib.Core.Bool.{Bool, false}
use Prim.Native.Nat.{ℕ, ◌-◌, ◌≤◌}
use Prim.Native.String.{String}
use native.Mathlib.Omega.{arith}
use lib.ListN.{length, replicate}
use Rattle.model.specs.Machine.{Memory, step_at, obey}
use Rattle.model.specs.Refusals.{in_range}
use Rattle.model.specs.Command.{command, refusal}
use Rattle.model.specs.SetUp.{set_up, set_up_refusal}
use Rattle.notation.specs.Bytes.{kind_of}
use Rattle.notation.specs.Grammar.{Said, says, places, times}
use Rattle.notation.specs.Scan.{on_digit, more, move, said, at_end, go, scan}
use Rattle.notation.specs.FirstLine.{starting, inside, step, whole, proceed, read_from, read}
use Rattle.notation.specs.Readings.{Reading, right, wrong}
use Rattle.notation.specs.Places.{stride, locate, locate_text}
use Rattle.notation.proofs.PlacedTrees.{text_placed}
use Rattle.notation.proofs.Theorems.{read_is_right, wrong_has_fault, wrong_at_fault}
use Rattle.listing.specs.Decimal.{digits, decimal}
use Rattle.listing.specs.Lines.{answer_head, words_of, ll_line, truth_line, end_line, refused_line}
use Rattle.listing.specs.Quoted.{quoted}
use Rattle.text_runs.specs.TextRun.{room_needed, longest_text}
use Rattle.text_runs.specs.TextRun as TR
use Rattle.text_runs.specs.StopPlaces as SP
use Rattle.text_model.specs.TextRun.{run_with}
use Rattle.positions.specs.declared.StopReport.{StopReport}
use Rattle.positions.specs.declared.StopReport.TheVariants.{AtFault, AtItem}
use Rattle.text_runs.specs.StopPlaces.{sizes, at_no_item}
use Rattle.text_model.specs.StopPlaces.{started_report, StopInText, StopsAt}
use Rattle.text_laws.proofs.BenchRuns.{dirty_x, dirty_bank, dirty_help, dirty_process, lent, dirty_bytes}

-- the report by the reading of the text
pub report_read : Bool → Memory → List ℕ → List ℕ → Reading → StopReport
report_read t m text listing (right a) = started_report t listing a (locate_text text 0) (set_up m a.n a.w (replicate a.w a.initial))
report_read t m text listing (wrong k left) = AtFault (length text - left)

-- is the one that the promise names
module _ {t : Bool} {m : Memory} {text listing : List ℕ} {report : StopReport} (x : StopInText t m text listing report) where
  by_reading : (r : Reading) → read text ≡ r → report ≡ report_read t m text listing r
  unfolding report_read
  by_reading (right a) e =
      let told = read_is_right text a e in
      let tree = told.tree in
      let found : places tree ≡ locate_text text 0 = sym (text_placed tree) ∙ ap (λ (s : List ℕ). locate_text s 0) told.text in
      let prepared : Said → ℕ × Memory = λ b. set_up m b.n b.w (replicate b.w b.initial) in
      x.item tree told.text
      ∙ ap (λ (ps : List ℕ). started_report t listing (says tree) ps (prepared (says tree))) found
      ∙ ap (λ (b : Said). started_report t listing b (locate_text text 0) (prepared b)) told.saying
  by_reading (wrong k left) e =
      let p = wrong_has_fault text k left e in
      let at : p.at ≡ length text - left = omega (arith, wrong_at_fault text k k left p e) in
      sym (x.fault k p) ∙ ap AtFault at

pub stops_by_reading : {t : Bool} {m : Memory} {text listing : List ℕ} {report : StopReport} → StopsAt t m text listing report
    → room_needed t ≤ length listing → length text ≤ longest_text → report ≡ report_read t m text listing (read text)
stops_by_reading {text = text} x r l = by_reading (x.looked r l) (read text) refl

-- a stop at an item, by N, W, the item's place and its process
abbrev pub item : ℕ → ℕ → ℕ → ℕ → StopReport
item n w place process = AtItem (sizes n w) (record { place = place; process = process })

-- a text, the number of its refusal, and where it stops
pub record Stop : Type 0 where
  pub text : String
  pub number : ℕ
  pub report : StopReport

pub stop_of : Stop → Stop
stop_of s =
    let text = quoted s.text in
    record { text = s.text; number = (run_with false lent text (dirty_bytes 800)).number; report = report_read false lent text (dirty_bytes 800) (read text) }

pub stops : List Stop
stops =
    -- an entry is refused: the third item, an item of a group's later turn, an item behind a group
    record { text = "2 1 5\n0l 0.\n 0l"; number = 5; report = item 2 1 13 0 } ∷
    record { text = "2 1 5\n0l 20(0.)\n"; number = 6; report = item 2 1 12 0 } ∷
    record { text = "2 1 5\n0l 2(0.) 2l\n"; number = 4; report = item 2 1 15 2 } ∷
    -- the process of that item, not of its neighbours, and one above 15
    record { text = "2 1 5\n1l 0l 1l\n"; number = 5; report = item 2 1 12 1 } ∷
    record { text = "2 1 5\n1l 99s7\n"; number = 4; report = item 2 1 9 16 } ∷
    -- a fault: a `)` that closes nothing, the text's end, the first line, the ninth `(`
    record { text = "2 1 5\n0l )"; number = 10; report = AtFault 9 } ∷
    record { text = "2 1 5\n0l 0"; number = 10; report = AtFault 10 } ∷
    record { text = "2 15\n"; number = 10; report = AtFault 4 } ∷
    record { text = "2 1 5\n1(1(1(1(1(1(1(1(1(0l"; number = 11; report = AtFault 23 } ∷
    -- at no item: the set-up is refused, and the end
    record { text = "0 1 5\n0l\n"; number = 1; report = at_no_item 0 1 } ∷
    record { text = "12 65 5\n0l\n"; number = 2; report = at_no_item 12 65 } ∷
    record { text = "2 1 5\n0l 0!\n"; number = 0; report = at_no_item 2 1 } ∷
    []

pub stop_places : map stop_of stops ≡ stops
unfolding dirty_x dirty_bank dirty_help dirty_process lent dirty_bytes stop_of stops report_read TR.run_with read read_from proceed step starting inside whole scan
    go move said more on_digit at_end kind_of times locate_text locate stride SP.stop_index TR.carry_all TR.carry TR.steps TR.single command refusal obey step_at in_range
    set_up set_up_refusal ll_line truth_line end_line refused_line answer_head words_of decimal digits
stop_places = refl

-- so a run of the first one can promise no other report
pub stops_at_13 : {report : StopReport} → StopsAt false lent (quoted "2 1 5\n0l 0.\n 0l") (dirty_bytes 800) report
    → report ≡ item 2 1 13 0
unfolding dirty_x dirty_bank dirty_help dirty_process lent dirty_bytes report_read read read_from proceed step starting inside whole scan go move said more
    on_digit at_end kind_of times locate_text locate stride SP.stop_index TR.carry_all TR.carry TR.steps TR.single command refusal obey step_at in_range set_up set_up_refusal
    ll_line truth_line end_line refused_line answer_head words_of decimal digits
stops_at_13 x = stops_by_reading x (omega arith) (omega arith)
