-- A whole text run on any bench, part by part: a refusal before its set-up, and where it stopped.
use mathlib.Core.Path.{◌≡◌, sym, ap, ◌∙◌}
use mathlib.Core.Bool.{Bool, cond}
use mathlib.Core.List.{List}
use Prim.Native.Nat.{ℕ, ◌≤◌}
use native.Mathlib.Omega.{arith}
use lib.Dec.{eqb}
use lib.ListN.{length, get_or, replicate}
use borrow.Author.Tests.{eq-eqb}
use Rattle.std.specs.Prelude.{Err}
use Rattle.llsc.specs.declared.refusals.Refusal.{Refusal}
use Rattle.llsc.specs.Refusals.{refusal_number}
use Rattle.listing.specs.declared.Writer.{Writer}
use Rattle.positions.specs.declared.StopReport.{StopReport}
use Rattle.text_runs.specs.declared.runs.Run.{Run}
use Rattle.text_runs.specs.declared.runs.Finished.{Finished}
use Rattle.text_runs.specs.Machines.{Machine}
use Rattle.text_runs.specs.TextRun.{Progress, room_needed, begun}
use Rattle.text_runs.specs.StopPlaces.{at_no_item, item_report}
use Rattle.text_runs.specs.KeptEntries.{entries_in, places_in, word_report, refused_with, report_with}
use Rattle.text_runs.specs.Runs.{Outcome, closed_at, fresh_run}
use Rattle.whole_runs.specs.Carrying.{Over}
use Rattle.whole_runs.specs.Whole.{progress_with, end_of}
use Rattle.whole_runs.proofs.StopLaws.{item_read, report_is, line_stops, stops_14, stops_12, stops_looked}
use Rattle.whole_runs.proofs.TextLaws.{run_14, run_12, run_not_headed, run_headed}

pub room_left : (t : Bool) {k : ℕ} (list : List ℕ) → k ≡ room_needed t → k ≤ length list → room_needed t ≤ length list
room_left t list e l = omega (arith, e, l)

module _ (M : Machine) {H : Type 0} where
  pub closed_report : {report : StopReport} {l : List ℕ} {out : Finished H} {held : H} {entries : ℕ} (o : Outcome) (list : List ℕ) (written : ℕ)
      → ◌≡◌ {A = Finished H × List ℕ} (out, l) (closed_at held entries o report list written) → out.report ≡ report
  closed_report o list written e = ap (λ (x : Finished H × List ℕ). x.0.report) e

  -- a run that is refused before its set-up
  pub refused_ends : {report : StopReport} {l : List ℕ} {out : Finished H} {held : H} {f : Refusal} (memory : H → List ℕ → M.Memory) (ws list : List ℕ)
      → ◌≡◌ {A = Finished H × List ℕ} (out, l) (closed_at held 0 (Err f) report list 0)
      → end_of M out (memory out.held ws) l ≡ refused_with M (refusal_number f) (memory held ws) list
  refused_ends memory ws list e = ap (λ (x : Finished H × List ℕ). end_of M x.0 (memory x.0.held ws) x.1) e

  -- before its first entry, where its writer has this list and nothing is written
  begun_as : {s : Progress M} {r : Run H} {held : H} {t : Bool} {ws list : List ℕ} {m : M.Memory} (memory : H → List ℕ → M.Memory) (to : Writer)
      → s ≡ progress_with M (memory r.held ws) r 0 to → r ≡ fresh_run held t → memory held ws ≡ m → to.list.now ≡ list → to.written ≡ 0
      → s ≡ begun M t m list 0
  begun_as {t = t} {ws = ws} {m = m} memory to p e q l z =
      let state : M.Memory → List ℕ → ℕ → Progress M = λ m l k. record { memory = m; listing = l; written = k; entries = 0; stop = 0; traced = t } in
      p ∙ ap (λ (x : Run H). progress_with M (memory x.held ws) x 0 to) e
      ∙ ap (λ (x : M.Memory). state x to.list.now to.written) q
      ∙ ap (λ (x : List ℕ). state m x to.written) l ∙ ap (state m _) z

-- where the run stopped, by the number of the list that it stopped at
module _ (M : Machine) (t : Bool) (n w v : ℕ) (entries : List ℕ) (m : M.Memory) (list : List ℕ) where
  abbrev prepared : ℕ × M.Memory
  prepared = M.set_up m n w (replicate w v)

  begun_report : {s : Progress M} → prepared.0 ≡ 0 → s ≡ begun M t prepared.1 list 0
      → item_report M n w (entries_in entries) (places_in entries) s ≡ report_with M t n w v (entries_in entries) (places_in entries) m list
  begun_report z q = ap (item_report M n w (entries_in entries) (places_in entries)) q ∙ sym (simp (eq-eqb prepared.0 0 z))

  pub report_done : {H : Type 0} {at k : ℕ} {s s' : Progress M} {r : Run H} {held : H} {ws : List ℕ} {given report : StopReport} (memory : H → List ℕ → M.Memory) (to : Writer)
      → Over M (entries_in entries) s at s' → s ≡ progress_with M (memory r.held ws) r 0 to → r ≡ fresh_run held t
      → prepared.0 ≡ 0 → memory held ws ≡ prepared.1 → to.list.now ≡ list → to.written ≡ 0
      → s'.stop ≡ k → given ≡ report → report ≡ cond (eqb k 0) (at_no_item n w) (word_report n w (get_or entries at 0))
      → given ≡ report_with M t n w v (entries_in entries) (places_in entries) m list
  report_done {at = at} memory to over p e z q l y stop is read =
      is ∙ read ∙ ap (λ (j : ℕ). cond (eqb j 0) (at_no_item n w) (word_report n w (get_or entries at 0))) (sym stop)
      ∙ item_read M entries over n w ∙ begun_report z (begun_as M memory to p e q l y)

-- what a whole text comes to
pub ruleset text_laws = (run_14, run_12, run_not_headed, run_headed, report_is, line_stops, stops_14, stops_12, stops_looked, room_left, closed_report, refused_ends)
