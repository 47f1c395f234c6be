-- The state after the first k entries of a text, on any machine.
use mathlib.Core.Path.{◌≡◌, refl, sym, ap, subst, ◌∙◌}
use mathlib.Core.Bool.{Bool, false}
use mathlib.Core.List.{List}
use Prim.Native.Nat.{ℕ}
use lib.Dec.{eqb, ltb}
use lib.ListN.{length, replicate}
use borrow.Author.Tests.{eq-eqb, le-ltb}
use Rattle.notation.specs.Grammar.{Said}
use Rattle.notation.proofs.ReadingLaws.{reader}
use Rattle.text_runs.specs.Machines.{Machine}
use Rattle.text_runs.specs.TextRun.{Ended, longest_text, room_needed, begun, carry_all, ended, run_with}
use Rattle.held_text_model.specs.Upto.{quiet, upto}
use Rattle.held_text_model.specs.FirstStates.{FirstStates, SetUpFor, EveryFirstState}
use Rattle.held_text_model.proofs.FirstCommands.{first_states}

module _ (M : Machine) (m : M.Memory) (traced : Bool) (text listing : List ℕ) (a : Said) (h : SetUpFor M m traced text listing a) where
  abbrev after : M.Memory
  after = (M.set_up m a.n a.w (replicate a.w a.initial)).1

  run_is : run_with M reader traced m text listing ≡ ended M (carry_all M a.entries (begun M traced after listing 0))
  unfolding run_with
  run_is = simp (le-ltb (length listing) (room_needed traced) h.room, le-ltb longest_text (length text) h.short, h.says, eq-eqb _ 0 h.accepted)

  abbrev first_run : ℕ → Ended (upto M)
  first_run k = run_with (upto M) reader false (k, m) text quiet

  abbrev first_of : ℕ → Ended (upto M)
  first_of k = ended (upto M) (carry_all (upto M) a.entries (begun (upto M) false (k, after) quiet 0))

  first_is : (k : ℕ) → first_run k ≡ first_of k
  unfolding run_with
  first_is k = simp (le-ltb longest_text (length text) h.short, h.says, eq-eqb _ 0 h.accepted)

  states : FirstStates M after traced listing (run_with M reader traced m text listing) first_of
  states = subst (λ (r : Ended M). FirstStates M after traced listing r first_of) (sym run_is) (first_states M traced after listing a.entries)

  pub first_state_lem : FirstStates M after traced listing (run_with M reader traced m text listing) first_run
  first_state_lem = record {
    carries = states.carries;
    entries = λ k l. ap (λ (r : Ended (upto M)). r.entries) (first_is k) ∙ states.entries k l;
    memory = λ k l. ap (λ (r : Ended (upto M)). r.memory.1) (first_is k) ∙ states.memory k l;
  }

pub every_first_state : (M : Machine) → EveryFirstState M
every_first_state M m traced text listing a h = first_state_lem M m traced text listing a h
