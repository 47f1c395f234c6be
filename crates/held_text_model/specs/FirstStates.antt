-- The state after the first k entries of a text is that after the first k commands of its run: "An entry is one command; `!` is
-- an entry for each of its steps."
use Rattle.std.specs.Prelude.{◌≡◌, ℕ, ◌≤◌, List, Bool, false, take, length, replicate}
use Rattle.llsc.specs.History.{after_all}
use Rattle.notation.specs.declared.Entry.{Entry}
use Rattle.notation.specs.Grammar.{Said}
use Rattle.notation.specs.Readings.{right}
use Rattle.notation.proofs.ReadingLaws.{reader}
use Rattle.text_runs.specs.Machines.{Machine}
use Rattle.text_runs.specs.TextRun.{Ended, Progress, room_needed, longest_text, begun, carry_all, ended, run_with}
use Rattle.text_runs.specs.RunCommands.{next, Carries}
use Rattle.held_text_model.specs.Upto.{quiet, upto}

-- a run's commands, accepted, as many as its entries, with their answers' lines in its listing; and for every k that is not
-- above their number a run for k commands has k entries and the memory that the first k of them leave
pub record FirstStates (M : Machine) (m : M.Memory) (traced : Bool) (listing : List ℕ) (run : Ended M) (first : ℕ → Ended (upto M)) : Type 0 where
  pub carries : Carries M traced m listing run
  pub entries : (k : ℕ) → k ≤ length carries.commands → (first k).entries ≡ k
  pub memory : (k : ℕ) → k ≤ length carries.commands → (first k).memory.1 ≡ after_all (next M) m (take k carries.commands)

-- a text's run that is looked at, in one of the two styles, and set up
pub record SetUpFor (M : Machine) (m : M.Memory) (traced : Bool) (text listing : List ℕ) (a : Said) : Type 0 where
  pub room : room_needed traced ≤ length listing
  pub short : length text ≤ longest_text
  pub says : reader.read text ≡ right a
  pub accepted : (M.set_up m a.n a.w (replicate a.w a.initial)).0 ≡ 0

abbrev pub EveryFirstState : Machine → Type 0
EveryFirstState M =
    (m : M.Memory) (traced : Bool) (text listing : List ℕ) (a : Said) → SetUpFor M m traced text listing a
    → FirstStates M (M.set_up m a.n a.w (replicate a.w a.initial)).1 traced listing (run_with M reader traced m text listing)
    (λ k. run_with (upto M) reader false (k, m) text quiet)
