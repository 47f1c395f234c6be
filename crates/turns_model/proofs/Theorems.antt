-- What the reply of a turn says, in every case (`specs/TurnPromises`).
use mathlib.Core.Path.{◌≡◌, ap, ◌∙◌}
use Prim.Native.Nat.{ℕ, ◌<◌, ◌≤◌}
use mathlib.Core.List.{List}
use mathlib.Core.Bool.{true, false, cond}
use lib.ListN.{replicate}
use borrow.Author.Tests.{eq-eqb, ne_eqb, lt-ltb, le-ltb}
use Rattle.station.specs.Station.{StationMemory}
use Rattle.turns_model.specs.TurnReplies.{turn_number, TurnSaid, turn_says}
use Rattle.turns_model.specs.Turns.{ListedCall, AfterTurn, turn_refused, turn_commands, turn_given, idle_turn}
use Rattle.turns_model.specs.Turns.{step_by, counts_as_idle, lent_refusal, listed_as, turn, turn_of}
use Rattle.turns_model.specs.TurnPromises.{EveryTurnSays}

module _ (s : StationMemory) (p : ℕ) where
  -- number and values of what a turn came to
  abbrev tells : AfterTurn → ℕ × TurnSaid
  tells a = (turn_number a.reply, turn_says a.memory p a.reply)

  module _ (calls : List ListedCall) where
    pub another_turn : 1 < p → turn s p calls ≡ turn_refused 22 s calls
    unfolding turn
    another_turn h = simp (lt-ltb 1 p h)

    module _ (low : p ≤ 1) where
      pub refused_turn_is : (lent_refusal s ≡ 0 → ⊥) → turn s p calls ≡ turn_refused (lent_refusal s) s calls
      unfolding turn
      refused_turn_is n = simp (le-ltb 1 p low, ne_eqb (lent_refusal s) 0 n)

      given_turn : lent_refusal s ≡ 0 → turn s p calls ≡ turn_given s p calls
      unfolding turn
      given_turn e = simp (le-ltb 1 p low, eq-eqb (lent_refusal s) 0 e)

      pub busy_turn : lent_refusal s ≡ 0 → counts_as_idle s p ≡ false → turn s p calls ≡ turn_commands s (step_by p) calls
      busy_turn e b = given_turn e ∙ ap (λ t. cond t (idle_turn s p calls) (turn_commands s (step_by p) calls)) b

      pub idle_turn_is : lent_refusal s ≡ 0 → counts_as_idle s p ≡ true → turn s p calls ≡ idle_turn s p calls
      idle_turn_is e b = given_turn e ∙ ap (λ t. cond t (idle_turn s p calls) (turn_commands s (step_by p) calls)) b

pub every_turn_says : EveryTurnSays
unfolding turn_of
every_turn_says s p next value left =
    let calls = replicate left (listed_as next value) in
    record {
      another = λ h. ap (tells s p) (another_turn s p calls h);
      lent = λ low n. ap (tells s p) (refused_turn_is s p calls low n);
      steps = λ low e b. ap (tells s p) (busy_turn s p calls low e b);
      starts = λ k m low e b.
          ap (tells s p) (idle_turn_is s p calls low e b ∙ ap (λ n. idle_turn s p (replicate n (listed_as next value))) m);
      passes = λ z low e b.
          ap (tells s p) (idle_turn_is s p calls low e b ∙ ap (λ n. idle_turn s p (replicate n (listed_as next value))) z);
    }
