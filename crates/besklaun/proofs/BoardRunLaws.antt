-- A board's run by value, on an empty bench, sixteen fillers and 5,120 words, is the run of `BoardRuns`.
use mathlib.Core.Path.{◌≡◌, ap, ◌∙◌}
use mathlib.Core.List.{List}
use Prim.Native.Nat.{ℕ}
use Rattle.llsc.specs.Refusals.{number_told}
use Rattle.text_entry.specs.declared.state.Held.{Held}
use Rattle.text_entry.specs.RunState.{empty_held}
use Rattle.board_listing.specs.declared.ending.Stopped.{Stopped}
use Rattle.text_machine.specs.Finished.{memory_of}
use Rattle.board_listing.specs.BoardListing.{board_listed}
use Rattle.board_listing.specs.ListedRun.{end_of}
use Rattle.besklaun.specs.OwnBench.{all_words}
use Rattle.besklaun.specs.BoardRuns.{board_seen, board_run}
use Rattle.besklaun.proofs.OwnBenchLaws.{own_memory_lem}

pub board_alone : (held : Held) (n w k : ℕ) (file bytes : List ℕ) (r : Stopped) (words after : List ℕ) →
    held ≡ empty_held → end_of r words after ≡ board_listed (memory_of held 16 all_words) n w k file bytes →
    (record { number = number_told r.outcome; done = r.entries; written = r.written }, after) ≡ board_run n w k file bytes
board_alone held n w k file bytes r words after e ran =
    ap board_seen ran ∙ ap (λ m. board_seen (board_listed m n w k file bytes)) (own_memory_lem held all_words e)
