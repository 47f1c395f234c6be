-- The whole run over what is lent: at most sixteen records, and the filler after them.
use mathlib.Core.Path.{◌≡◌, sym, ap, subst, ◌∙◌}
use mathlib.Core.Bool.{Bool}
use mathlib.Core.List.{List}
use Prim.Native.Nat.{ℕ, ◌≤◌}
use lib.ListN.{take}
use Rattle.model.specs.declared.Process.{Process}
use Rattle.model.specs.Records.{no_process}
use Rattle.model.specs.Machine.{Memory}
use Rattle.lent.specs.Gathered.{gathered}
use Rattle.text_entry.specs.declared.state.Held.{Held}
use Rattle.text_entry.specs.RunState.{Filled}
use Rattle.text_model.specs.TextRun.{figure2, run_with}
use Rattle.text_model.specs.StopPlaces.{StopsAt}
use Rattle.text_runs.specs.declared.runs.Finished.{Finished}
use Rattle.text_runs.specs.Returned.{holding}
use Rattle.whole_runs.specs.Whole.{Ran}
use Rattle.text_machine.specs.declared.carrying.LentHeld.{LentHeld}
use Rattle.text_machine.specs.Carried.{lent_memory}
use Rattle.text_machine.specs.Finished.{memory_of, at_most_sixteen, end_of, TextRan}
use Rattle.text_entry.proofs.FilledLaws.{gathered_filled, filled_gathered}
use Rattle.text_machine.proofs.RecordLaws.{sixteen_most, take_sixteen, filled_sixteen, sixteen_filled}

-- what is lent of the records
abbrev pub lent_of : Held → ℕ → LentHeld
lent_of held k = record { held = held; len = k }

module _ {k : ℕ} (len : ℕ) (held : Held) (e : k ≡ at_most_sixteen len) (q : held.all ≡ gathered (take len held.all) no_process 16) where
  pub lendable_sixteen : (k ≤ 16) × Filled k held.all
  lendable_sixteen = rw e (sixteen_most len, filled_sixteen (gathered_filled len held.all q))

  -- the first sixteen of the records are all that is lent
  same_memory : (ws : List ℕ) → memory_of held k ws ≡ memory_of held len ws
  same_memory ws =
      ap (λ (l : List Process). record { bench = held.bench; records = l; words = ws })
      (ap (λ (j : ℕ). take j held.all) e ∙ take_sixteen len held.all (gathered_filled len held.all q).sixteen)

-- the run of what is lent is that of all lent records
pub text_ran : {k : ℕ} {t : Bool} {ws text list ws' list' : List ℕ} {out : Finished LentHeld} (len : ℕ) (held : Held) → k ≡ at_most_sixteen len
    → held.all ≡ gathered (take len held.all) no_process 16
    → Ran figure2 t text list (lent_memory (lent_of held k) ws) out (lent_memory out.held ws') list'
    → Filled out.held.len out.held.held.all → out.held.len ≡ k
    → TextRan t held len ws text list (holding out out.held.held) ws' list'
text_ran {k} {t} {ws} {text} {list} {ws'} {list'} {out} len held e q ran filled l =
    let f : Filled (at_most_sixteen len) out.held.held.all = subst (λ (j : ℕ). Filled j out.held.held.all) (l ∙ e) filled in
    let g : out.held.held.all ≡ gathered (take len out.held.held.all) no_process 16 = filled_gathered len out.held.held.all (sixteen_filled f) in
    let after : memory_of out.held.held out.held.len ws' ≡ memory_of out.held.held len ws' = same_memory len out.held.held (l ∙ e) g ws' in
    record {
      same = ap (λ (m : Memory). record {
        number = (end_of len (holding out out.held.held) ws' list').number;
        entries = out.entries;
        written = out.written;
        memory = m;
        listing = list';
      }) (sym after) ∙ ran.same ∙ ap (λ (m : Memory). run_with t m text list) (same_memory len held e q ws);
      again = g;
      stops = subst (λ (m : Memory). StopsAt t m text list out.report) (same_memory len held e q ws) ran.stops;
    }
