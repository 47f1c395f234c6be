-- The run by value, on an empty bench, sixteen fillers and some words, is the run of `OwnBench`, where the words are
-- those of the text, or where the text is wrong: then no word of the bench shows.
use mathlib.Core.Path.{◌≡◌, refl, ap, subst, ◌∙◌, sym}
use mathlib.Core.List.{List}
use mathlib.Core.Bool.{Bool, true, false, cond}
use Prim.Native.Nat.{ℕ, ◌≤◌, ◌<◌}
use native.Mathlib.Omega.{arith}
use lib.ListN.{length}
use lib.Dec.{ltb}
use borrow.Author.Tests.{le-leb, lt-leb}
use Rattle.model.specs.Machine.{Memory}
use Rattle.notation.specs.Grammar.{Said, deepest}
use Rattle.notation.specs.Readings.{Reading, right, wrong}
use Rattle.notation.specs.Readers.{Headed, NotHeaded}
use Rattle.notation.specs.FirstLine.{whole, read}
use Rattle.notation.specs.Scan.{Verdict, end, shut, fault}
use Rattle.notation.proofs.HeaderLaws.{headed_reads}
use Rattle.notation.proofs.GroupLaws.{not_headed}
use Rattle.notation.proofs.Theorems.{right_is_read}
use Rattle.positions.specs.declared.StopReport.{StopReport}
use Rattle.text_runs.specs.TextRun.{run_with as run_with·any, longest_text, room_needed}
use Rattle.text_model.specs.TextRun.{Ended, run_with, ended, begun, carried_out}
use Rattle.text_model.specs.StopPlaces.{StopsAt}
use Rattle.text_entry.specs.declared.state.Held.{Held}
use Rattle.text_entry.specs.RunState.{empty_held}
use Rattle.text_runs.specs.declared.runs.Finished.{Finished}
use Rattle.text_runs.specs.declared.returned.TextRun.{TextRun}
use Rattle.text_runs.specs.Returned.{told}
use Rattle.text_machine.specs.Finished.{TextRan, memory_of}
use Rattle.besklaun.specs.declared.texts.TextStop.{TextStop}
use Rattle.besklaun.specs.declared.texts.ReportedRun.{ReportedRun}
use Rattle.besklaun.specs.TextReports.{stop_of, ReportedOn, Reported}
use Rattle.besklaun.specs.OwnBench.{all_words, few_words, narrow, words_for, words_of, own_words, own_memory, seen, run_on, text_run}

-- what the run holds
pub own_memory_lem : (held : Held) (words : List ℕ) → held ≡ empty_held → memory_of held 16 words ≡ own_memory words
own_memory_lem held words e = rw e refl

abbrev pub ran_alone : (t : Bool) (held : Held) (ws text bytes : List ℕ) (r : Finished Held) (words after : List ℕ) {run : TextRun} {stop : TextStop} →
    held ≡ empty_held → TextRan t held 16 ws text bytes r words after → run ≡ told r → stop ≡ stop_of r.report →
    ReportedOn ws t text bytes (record { run = run; stop = stop }) after
ran_alone t held ws text bytes r words after e ran is stop_is = record {
  run = ap (λ (x : TextRun). (x, after)) is ∙ ap seen ran.same ∙ ap (λ m. seen (run_with t m text bytes)) (own_memory_lem held ws e);
  report = r.report;
  told = stop_is;
  stops = subst (λ (m : Memory). StopsAt t m text bytes r.report) (own_memory_lem held ws e) ran.stops;
}

-- a right text is not wrong
is_right : Reading → ℕ
is_right (right a) = 1
is_right (wrong k left) = 0

right_or_wrong : {a : Said} {k left : ℕ} → ◌≡◌ {A = Reading} (right a) (wrong k left) → ⊥
unfolding is_right
right_or_wrong e = let one_zero : ◌≡◌ {A = ℕ} 1 0 = ap is_right e in omega (arith, one_zero)

-- words that a text with this reading may be run on
abbrev Fit : List ℕ → Reading → Type 0
Fit words (right a) = words ≡ words_for a.w
Fit words (wrong k left) = Unit {0}

module _ (t : Bool) (text bytes : List ℕ) where
  -- the run of a text with this reading, after the rows 14 and 12
  abbrev rows : Reading → Bool → Bool → Memory → Ended
  rows r small long m =
      cond small (record { number = 14; entries = 0; written = 0; memory = m; listing = bytes })
      (cond long (ended (begun t m bytes 12)) (carried_out t m bytes r))

  hidden : (k left : ℕ) (small long : Bool) (m m' : Memory) → seen (rows (wrong k left) small long m) ≡ seen (rows (wrong k left) small long m')
  hidden k left true long m m' = refl
  hidden k left false true m m' = refl
  hidden k left false false m m' = refl

  -- that reading alone, where it is the text's
  as_read : {r : Reading} → read text ≡ r → (ws : List ℕ)
      → run_on t ws text bytes ≡ seen (rows r (ltb (length bytes) (room_needed t)) (ltb longest_text (length text)) (own_memory ws))
  unfolding run_with·any
  as_read e ws =
      ap (λ (r : Reading). seen (rows r (ltb (length bytes) (room_needed t)) (ltb longest_text (length text)) (own_memory ws))) e

  fitting : (words : List ℕ) (r : Reading) → read text ≡ r → Fit words r → run_on t words text bytes ≡ text_run t text bytes
  fitting words (right a) e f = ap (λ (ws : List ℕ). run_on t ws text bytes) (f ∙ sym (ap words_of e))
  fitting words (wrong k left) e f =
      as_read e words ∙ hidden k left _ _ (own_memory words) (own_memory (own_words text)) ∙ sym (as_read e (own_words text))

  -- and where a wrong text stops, no bench is looked at
  stops_fitting : (words : List ℕ) (r : Reading) → read text ≡ r → Fit words r → (report : StopReport)
      → StopsAt t (own_memory words) text bytes report → StopsAt t (own_memory (own_words text)) text bytes report
  stops_fitting words (right a) e f report x = subst (λ (ws : List ℕ). StopsAt t (own_memory ws) text bytes report) (f ∙ sym (ap words_of e)) x
  stops_fitting words (wrong k left) e f report x = record {
    no_room = x.no_room;
    too_long = x.too_long;
    looked = λ l h. record {
      fault = (x.looked l h).fault;
      item = λ tree is. absurd (right_or_wrong (sym (right_is_read tree) ∙ ap read is ∙ e));
    };
  }

  reported_fitting : (words : List ℕ) (r : Reading) → read text ≡ r → Fit words r → {out : ReportedRun} {after : List ℕ}
      → ReportedOn words t text bytes out after → Reported t text bytes out after
  reported_fitting words r e f x = record {
    run = x.run ∙ fitting words r e f;
    report = x.report;
    told = x.told;
    stops = stops_fitting words r e f x.report x.stops;
  }

  whole_fits : (words : List ℕ) (n w v : ℕ) (x : Verdict) → words ≡ words_for w → Fit words (whole n w v x)
  unfolding whole
  whole_fits words n w v (end es) e = e
  whole_fits words n w v (shut es l) e = tt
  whole_fits words n w v (fault k left) e = tt

  pub no_line_fits : {place : ℕ} → NotHeaded text place → {out : ReportedRun} {after : List ℕ}
      → ReportedOn few_words t text bytes out after → Reported t text bytes out after
  no_line_fits h x = reported_fitting few_words _ (not_headed h) tt x

  module _ {n w v items : ℕ} (h : Headed text n w v items) {out : ReportedRun} {after : List ℕ} where
    line_fits : (words : List ℕ) → words ≡ words_for w → ReportedOn words t text bytes out after → Reported t text bytes out after
    unfolding read
    line_fits words e x = reported_fitting words _ (headed_reads h deepest) (whole_fits words n w v _ e) x

    pub narrow_fits : w ≤ narrow → ReportedOn few_words t text bytes out after → Reported t text bytes out after
    narrow_fits l x = line_fits few_words (sym (simp (le-leb w narrow l))) x

    pub wide_fits : narrow < w → ReportedOn all_words t text bytes out after → Reported t text bytes out after
    wide_fits l x = line_fits all_words (sym (simp (lt-leb w narrow l))) x

-- the run on the words that are lent is that of the text
pub ruleset word_laws = (no_line_fits, narrow_fits, wide_fits)
