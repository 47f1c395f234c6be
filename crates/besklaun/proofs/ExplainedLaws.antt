-- A run by value with the message of what it leaves is the run of `OwnBench` with that of its last memory.
use mathlib.Core.Path.{◌≡◌, refl, sym, ap, subst, ◌∙◌}
use mathlib.Core.Bool.{Bool}
use mathlib.Core.List.{List, map}
use Prim.Native.Nat.{ℕ}
use native.Mathlib.Omega.{arith}
use lib.ListN.{length, take}
use Rattle.std.proofs.lemmas.List.{take_all}
use Rattle.std.specs.Prelude.{Result, Ok, Err}
use Rattle.std.specs.Result.{IsOk}
use Rattle.llsc.specs.declared.refusals.Refusal.{Refusal}
use Rattle.llsc.specs.Refusals.{number_told}
use Rattle.llsc.proofs.RefusalNumbers.{number_some}
use Rattle.lent.proofs.GatheredLaws.{gathered_length}
use Rattle.model.specs.Records.{no_process}
use Rattle.model.specs.Machine.{Memory}
use Rattle.messages.specs.declared.Ended.{Ended}
use Rattle.messages.specs.declared.Left.{Left}
use Rattle.messages.specs.declared.calls.Figure.{Figure}
use Rattle.messages.specs.declared.calls.Figure.TheVariants.{Two}
use Rattle.messages.specs.declared.calls.Call.{Call}
use Rattle.std.specs.Prelude.{Option}
use Rattle.messages.specs.OpenCalls.{call_of}
use Rattle.messages.specs.OpenLines.{still_open}
use Rattle.text_entry.specs.declared.state.Held.{Held}
use Rattle.text_entry.specs.RunState.{empty_held}
use Rattle.text_runs.specs.declared.runs.Finished.{Finished}
use Rattle.text_runs.specs.declared.returned.TextRun.{TextRun}
use Rattle.text_runs.specs.Returned.{told}
use Rattle.text_model.specs.TextRun as bench
use Rattle.text_model.specs.TextRun.{run_with}
use Rattle.text_machine.specs.Finished.{TextRan}
use Rattle.besklaun.specs.declared.texts.TextStop.{TextStop}
use Rattle.besklaun.specs.declared.explained.Told.{Told}
use Rattle.besklaun.specs.OwnBench.{all_words, own_memory}
use Rattle.besklaun.specs.TextReports.{stop_of}
use Rattle.besklaun.specs.Explained.{Message, left_by, Explained}
use Rattle.besklaun.proofs.OwnBenchLaws.{own_memory_lem, ran_alone}

-- a run whose number is 0 came to its end
ended_well : (o : Result (Unit {0}) Refusal) → number_told o ≡ 0 → IsOk o
ended_well (Ok u) z = refl
ended_well (Err f) z = absurd (number_some f z)

module _ (t : Bool) (held : Held) (text bytes : List ℕ) (r : Finished Held) (words after : List ℕ) (e : held ≡ empty_held)
    (ran : TextRan t held 16 all_words text bytes r words after) where
  abbrev last : Memory
  last = (run_with t (own_memory all_words) text bytes).memory

  -- sixteen records are all of them
  records_are : r.held.all ≡ last.records
  records_are =
      let sixteen : length r.held.all ≡ 16 = ap length ran.again ∙ gathered_length (take 16 r.held.all) no_process 16 in
      sym (take_all 16 r.held.all (omega (arith, sixteen)))
      ∙ ap (λ (x : bench.Ended). x.memory.records) ran.same
      ∙ ap (λ (m : Memory). (run_with t m text bytes).memory.records) (own_memory_lem held all_words e)

  module _ (left : Left) (figure : left.figure ≡ Two) (calls : left.calls ≡ map call_of r.held.all) where
    left_is : left ≡ left_by last
    left_is =
        ap (λ (f : Figure). record { figure = f; calls = left.calls }) figure
        ∙ ap (λ (cs : List (Option Call)). record { figure = Two; calls = cs }) (calls ∙ ap (map call_of) records_are)

    module _ {run : TextRun} {stop : TextStop} (is : run ≡ told r) (stop_is : stop ≡ stop_of r.report)
        (end : Ended) (outcome : end.outcome ≡ r.outcome) (report : end.report ≡ r.report) (held_is : end.left ≡ left) where
      pub explained_alone : {room room' : List ℕ} (x : Told) → Message end room x room'
          → Explained t text bytes room (record { run = run; stop = stop; told = x.count; whole = x.whole }) after room'
      explained_alone x m = record {
        run = ran_alone t held all_words text bytes r words after e ran is stop_is;
        told = m.told;
        front = m.front;
        ended = λ z whole.
            let ok : IsOk end.outcome = subst IsOk (sym outcome) (ended_well r.outcome (sym (ap (λ (u : TextRun). u.number) is) ∙ z)) in
            m.ended ok whole ∙ ap (still_open end.left) report ∙ ap (λ (l : Left). still_open l r.report) (held_is ∙ left_is);
      }
