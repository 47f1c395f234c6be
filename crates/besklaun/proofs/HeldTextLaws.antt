-- What a run on a held list returned, told in C's terms.
use mathlib.Core.Path.{◌≡◌, ap, ◌∙◌}
use mathlib.Core.List.{List}
use Prim.Native.Nat.{ℕ}
use Rattle.llsc.specs.Refusals.{number_told}
use Rattle.text_runs.specs.declared.runs.Finished.{Finished}
use Rattle.held_model.specs.Memory.{laid_out}
use Rattle.held_texts.specs.declared.running.Left.{Left}
use Rattle.held_texts.specs.HeldRuns.{RanFirst}
use Rattle.besklaun.specs.declared.texts.TextStop.{TextStop}
use Rattle.besklaun.specs.TextReports.{stop_of}
use Rattle.besklaun.specs.HeldTexts.{reached, StateTold}

pub state_told : {k number : ℕ} {l text l' : List ℕ} {stop : TextStop} (r : Finished Left)
    → RanFirst k l text r l' → number ≡ number_told r.outcome → stop ≡ stop_of r.report
    → StateTold l text k (record { number = number; entries = r.entries; stop = stop }) l'
state_told {l' = l'} r x n s = record {
  state = ap (λ (i : ℕ). (i, (r.entries, laid_out 1 l'))) n ∙ ap reached x.ran.same;
  report = r.report;
  told = s;
  stops = x.ran.stops;
}
