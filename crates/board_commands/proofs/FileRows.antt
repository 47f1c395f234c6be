-- The run of a file with its rows before it.
use mathlib.Core.Path.{◌≡◌, sym, ap, ◌∙◌}
use mathlib.Core.List.{List}
use mathlib.Core.Bool.{Bool, cond}
use Prim.Native.Nat.{ℕ}
use borrow.Author.Tests.{eq-eqb, ne_eqb}
use Rattle.llsc.specs.Refusals.{refusal_number}
use Rattle.llsc.specs.declared.refusals.Refusal.{Refusal}
use Rattle.boards.specs.Files.{decode, file_number}
use Rattle.boards.specs.Places.{read, RightFile, WrongFile}
use Rattle.llsc.proofs.RefusalNumbers.{number_some}
use Rattle.station.specs.declared.Station.{Station}
use Rattle.station.specs.declared.StationProcess.{StationProcess}
use Rattle.board_commands.specs.declared.RunLeft.{RunLeft}
use Rattle.board_commands.specs.ByValue.{left_with, records_run, file_run}

module _ (file : List ℕ) (s : Station) (all : List StationProcess) (len : ℕ) (ws : List ℕ) where
  abbrev ran : Bool → RunLeft × List ℕ
  ran t = cond t (records_run 0 (decode file) s all len ws) (left_with s all (file_number file) 0, ws)

  pub refused_file : (refusal : Refusal) {k : ℕ} → WrongFile file refusal → k ≡ refusal_number refusal → (r : RunLeft) → r ≡ left_with s all k 0
      → (r, ws) ≡ file_run file s all len ws
  unfolding file_run
  refused_file refusal w n r q =
      ap (λ (x : RunLeft). (x, ws)) (q ∙ ap (λ (i : ℕ). left_with s all i 0) (n ∙ sym w))
      ∙ sym (ap ran (ne_eqb (file_number file) 0 (λ z. number_some refusal (sym w ∙ z))))

  pub run_file_is : {rs : List (List ℕ)} → RightFile file rs → (r : RunLeft) (ws' : List ℕ) → (r, ws') ≡ records_run 0 (read rs) s all len ws
      → (r, ws') ≡ file_run file s all len ws
  unfolding file_run
  run_file_is f r ws' q = q ∙ ap (λ l. records_run 0 l s all len ws) f.reads ∙ sym (ap ran (eq-eqb (file_number file) 0 f.number))
