-- The five readings of Figure 2 that tear the record (01): for each, a schedule on which the wrong reading answers otherwise, with the right answers.
use mathlib.Core.Path.{refl}
use mathlib.Core.List.{[], ◌∷◌, ◌++◌}
use mathlib.Core.Bool.{true, false}
use Rattle.model.specs.Machine.{step_at, obey}
use Rattle.model.specs.Refusals.{in_range}
use Rattle.model.specs.Command.{command, refusal}
use Rattle.model.specs.SetUp.{set_up, set_up_refusal}
use Rattle.llsc.specs.Answers.{ll_words, sc_truth, vl_truth}
use Rattle.model.specs.History.{events}
use Rattle.model.proofs.Schedules.{l, v, s, steps, answer, Run, Right}

-- "Line 9 done as a plain write": 0l 6(0.) 1l 1! 1s7 1! 0! 0l 0!, whose last LL would then show 5
abbrev plain_line9 : Run
plain_line9 = record {
  n = 2;
  w = 1;
  k = 5;
  entries = 42;
  commands = l 0 ++ steps 6 0 ++ l 1 ++ steps 10 1 ++ s 1 1 7 ++ steps 8 1 ++ steps 4 0 ++ l 0 ++ steps 10 0;
  shows = answer 1 (ll_words (5 ∷ [])) 10 ∷ answer 1 (sc_truth true) 8 ∷ answer 0 (ll_words (5 ∷ [])) 10 ∷ answer 0 (ll_words (7 ∷ [])) 10 ∷ [];
}

-- "Line 10 taken as 'keep mybuf'": 0l 5(0.) 1l 1! 1s7 1! 0! 0l 0!, whose last LL would then show 5
abbrev kept_line10 : Run
kept_line10 = record {
  n = 2;
  w = 1;
  k = 5;
  entries = 41;
  commands = l 0 ++ steps 5 0 ++ l 1 ++ steps 10 1 ++ s 1 1 7 ++ steps 8 1 ++ steps 4 0 ++ l 0 ++ steps 10 0;
  shows = answer 1 (ll_words (5 ∷ [])) 10 ∷ answer 1 (sc_truth true) 8 ∷ answer 0 (ll_words (5 ∷ [])) 9 ∷ answer 0 (ll_words (7 ∷ [])) 10 ∷ [];
}

-- "The helper's second check, VL(X) in line 14, left out": 1l 1! 1s7 1! 0l 0. 1s8 1! 5(0.) 1l 1! 1s9 1! 0!, whose last LL would then show 0 after 15 steps
abbrev unchecked_line14 : Run
unchecked_line14 = record {
  n = 2;
  w = 1;
  k = 5;
  entries = 57;
  commands = l 1 ++ steps 10 1 ++ s 1 1 7 ++ steps 6 1 ++ l 0 ++ steps 1 0 ++ s 1 1 8 ++ steps 7 1 ++ steps 5 0 ++ l 1 ++ steps 10 1 ++ s 1 1 9 ++ steps 8 1 ++ steps 4 0;
  shows =
      answer 1 (ll_words (5 ∷ [])) 10 ∷ answer 1 (sc_truth true) 6 ∷ answer 1 (sc_truth false) 7
      ∷ answer 1 (ll_words (7 ∷ [])) 10 ∷ answer 1 (sc_truth true) 8 ∷ answer 0 (ll_words (7 ∷ [])) 10 ∷ [];
}

-- "Lines 6 and 7 skipped and the handed-over words taken": 0l 0. 1l 1! 1s7 1! 0! 0v 0!, whose LL would then show 5 after 12 steps
abbrev skipped_lines6_and7 : Run
skipped_lines6_and7 = record {
  n = 2;
  w = 1;
  k = 5;
  entries = 36;
  commands = l 0 ++ steps 1 0 ++ l 1 ++ steps 10 1 ++ s 1 1 7 ++ steps 8 1 ++ steps 12 0 ++ v 0 ++ steps 1 0;
  shows = answer 1 (ll_words (5 ∷ [])) 10 ∷ answer 1 (sc_truth true) 8 ∷ answer 0 (ll_words (7 ∷ [])) 13 ∷ answer 0 (vl_truth true) 1 ∷ [];
}

-- "The sequence number taken modulo N": 1l 1! 1s7 2(1.) 0l 2(0.) 1! 1l 1! 1s8 1! 1s9 4(1.) 0!, whose last LL would then show 9
abbrev sequence_modulo_n : Run
sequence_modulo_n = record {
  n = 2;
  w = 1;
  k = 5;
  entries = 54;
  commands = l 1 ++ steps 10 1 ++ s 1 1 7 ++ steps 2 1 ++ l 0 ++ steps 2 0 ++ steps 4 1 ++ l 1 ++ steps 10 1 ++ s 1 1 8 ++ steps 8 1 ++ s 1 1 9 ++ steps 4 1 ++ steps 8 0;
  shows = answer 1 (ll_words (5 ∷ [])) 10 ∷ answer 1 (sc_truth true) 6 ∷ answer 1 (ll_words (7 ∷ [])) 10 ∷ answer 1 (sc_truth true) 8 ∷ answer 0 (ll_words (5 ∷ [])) 10 ∷ [];
}

pub right_answers : Right (plain_line9 ∷ kept_line10 ∷ unchecked_line14 ∷ skipped_lines6_and7 ∷ sequence_modulo_n ∷ [])
unfolding command refusal in_range step_at obey set_up set_up_refusal events
right_answers = (refl, (refl, (refl, (refl, (refl, (refl, (refl, (refl, (refl, (refl, tt))))))))))
