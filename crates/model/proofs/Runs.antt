-- The bench runs A to J of 01, with the counts of half moves (02, CR 4), over the definitions: one list, and one theorem that runs through it.
use mathlib.Core.Path.{refl}
use mathlib.Core.List.{[], ◌∷◌, ◌++◌}
use mathlib.Core.Bool.{true, false}
use mathlib.Core.Logic.{inl, inr}
use native.Mathlib.Omega.{arith}
use Rattle.model.specs.Machine.{step_at, obey}
use Rattle.model.specs.Refusals.{in_range}
use Rattle.model.specs.Command.{command, refusal}
use Rattle.model.specs.SetUp.{set_up, set_up_refusal}
use Rattle.llsc.specs.Answers.{ll_words, sc_truth, vl_truth}
use Rattle.llsc.specs.History.{calls, calls_from}
use Rattle.model.specs.History.{events}
use Rattle.llsc.specs.Linearizable.{All}
use Rattle.model.specs.Linearizable.{Counted}
use Rattle.model.proofs.Schedules.{l, v, s, steps, answer, refusal as no, Run, Right, events_of}

-- 0l 0! 0s7 0! 1l 1! 0v 0!
abbrev run_a : Run
run_a = record {
  n = 2;
  w = 1;
  k = 5;
  entries = 31;
  commands = l 0 ++ steps 10 0 ++ s 1 0 7 ++ steps 6 0 ++ l 1 ++ steps 10 1 ++ v 0 ++ steps 1 0;
  shows = answer 0 (ll_words (5 ∷ [])) 10 ∷ answer 0 (sc_truth true) 6 ∷ answer 1 (ll_words (7 ∷ [])) 10 ∷ answer 0 (vl_truth false) 1 ∷ [];
}

-- 0l 2(0.) 1l 1! 1s7 1! 0! 0v 0!
abbrev run_b : Run
run_b = record {
  n = 2;
  w = 1;
  k = 5;
  entries = 36;
  commands = l 0 ++ steps 2 0 ++ l 1 ++ steps 10 1 ++ s 1 1 7 ++ steps 8 1 ++ steps 11 0 ++ v 0 ++ steps 1 0;
  shows = answer 1 (ll_words (5 ∷ [])) 10 ∷ answer 1 (sc_truth true) 8 ∷ answer 0 (ll_words (7 ∷ [])) 13 ∷ answer 0 (vl_truth true) 1 ∷ [];
}

-- 0l 2(0.) 1l 1! 1s7 1! 6(0.) 1l 1! 1s9 1! 0! 0v 0!
abbrev run_c : Run
run_c = record {
  n = 2;
  w = 1;
  k = 5;
  entries = 58;
  commands = l 0 ++ steps 2 0 ++ l 1 ++ steps 10 1 ++ s 1 1 7 ++ steps 8 1 ++ steps 6 0 ++ l 1 ++ steps 10 1 ++ s 1 1 9 ++ steps 8 1 ++ steps 7 0 ++ v 0 ++ steps 1 0;
  shows =
      answer 1 (ll_words (5 ∷ [])) 10 ∷ answer 1 (sc_truth true) 8 ∷ answer 1 (ll_words (7 ∷ [])) 10 ∷ answer 1 (sc_truth true) 8
      ∷ answer 0 (ll_words (5 ∷ [])) 15 ∷ answer 0 (vl_truth false) 1 ∷ [];
}

-- 1 1 5: 0l 0! 0s6 0! 0s7 0!
abbrev run_d : Run
run_d = record {
  n = 1;
  w = 1;
  k = 5;
  entries = 25;
  commands = l 0 ++ steps 10 0 ++ s 1 0 6 ++ steps 6 0 ++ s 1 0 7 ++ steps 6 0;
  shows = answer 0 (ll_words (5 ∷ [])) 10 ∷ answer 0 (sc_truth true) 6 ∷ answer 0 (sc_truth false) 6 ∷ [];
}

-- 0l 0! 1l 1! 0s6 0! 1s7 1!
abbrev run_e : Run
run_e = record {
  n = 2;
  w = 1;
  k = 5;
  entries = 36;
  commands = l 0 ++ steps 10 0 ++ l 1 ++ steps 10 1 ++ s 1 0 6 ++ steps 6 0 ++ s 1 1 7 ++ steps 6 1;
  shows = answer 0 (ll_words (5 ∷ [])) 10 ∷ answer 1 (ll_words (5 ∷ [])) 10 ∷ answer 0 (sc_truth true) 6 ∷ answer 1 (sc_truth false) 6 ∷ [];
}

-- 0l 0! 0s7 0! 1l 1! 1s9 1!
abbrev run_f : Run
run_f = record {
  n = 2;
  w = 1;
  k = 5;
  entries = 38;
  commands = l 0 ++ steps 10 0 ++ s 1 0 7 ++ steps 6 0 ++ l 1 ++ steps 10 1 ++ s 1 1 9 ++ steps 8 1;
  shows = answer 0 (ll_words (5 ∷ [])) 10 ∷ answer 0 (sc_truth true) 6 ∷ answer 1 (ll_words (7 ∷ [])) 10 ∷ answer 1 (sc_truth true) 8 ∷ [];
}

-- 0s1, 0., 0l 0l, 2l
abbrev run_g : Run
run_g = record { n = 2; w = 1; k = 5; entries = 0; commands = s 1 0 1; shows = no 7 ∷ [] }

abbrev run_h : Run
run_h = record { n = 2; w = 1; k = 5; entries = 0; commands = steps 1 0; shows = no 6 ∷ [] }

abbrev run_i : Run
run_i = record { n = 2; w = 1; k = 5; entries = 1; commands = l 0 ++ l 0; shows = no 5 ∷ [] }

abbrev run_j : Run
run_j = record { n = 2; w = 1; k = 5; entries = 0; commands = l 2; shows = no 4 ∷ [] }

pub runs-A-to-J : Right (run_a ∷ run_b ∷ run_c ∷ run_d ∷ run_e ∷ run_f ∷ run_g ∷ run_h ∷ run_i ∷ run_j ∷ [])
unfolding command refusal in_range step_at obey set_up set_up_refusal events
runs-A-to-J = (refl, (refl, (refl, (refl, (refl, (refl, (refl, (refl, (refl, (refl, (refl, (refl, (refl, (refl, (refl, (refl, (refl, (refl, (refl, (refl, tt))))))))))))))))))))

-- The answers of run B are counted as promise 3 says, at W = 1: 4W+6, 2W+6, 6W+7 and 1.
pub run-B-counted : All (Counted 1) (calls (events_of run_b))
unfolding command refusal in_range step_at obey set_up set_up_refusal events calls_from
run-B-counted = (
  record { true_count = refl; own_steps = inr (inl refl) },
  (
    record { true_count = refl; own_steps = (omega arith, omega arith) },
    (
      record { true_count = refl; own_steps = inr (inr (inl refl)) },
      (record { true_count = refl; own_steps = refl }, tt),
    ),
  ),
)
