-- Runs of Moir's bench over the definitions, computed, and a schedule for each reading of Figure 6 that tears the record.
use mathlib.Core.Path.{refl}
use mathlib.Core.List.{[], ◌∷◌, ◌++◌}
use mathlib.Core.Bool.{true, false}
use Rattle.moir_model.specs.Machine.{step_at, obey}
use Rattle.moir_model.specs.Refusals.{in_range}
use Rattle.moir_model.specs.Command.{command, refusal}
use Rattle.moir_model.specs.SetUp.{set_up, set_up_refusal}
use Rattle.moir_model.specs.Replies.{words, names, sc_truth, vl_truth}
use Rattle.moir_model.specs.History.{events}
use Rattle.moir_model.proofs.Schedules.{l, v, s, steps, answer, refusal as no, Run, Right}

-- A WLL that names a process, and the VL and the SC after it: 1l 1. 0l 0! 0s7 0! 1! 1v 1! 1s9 1!
abbrev naming : Run
naming = record {
  n = 2;
  w = 1;
  k = 5;
  entries = 21;
  commands = l 1 ++ steps 1 1 ++ l 0 ++ steps 3 0 ++ s 1 0 7 ++ steps 8 0 ++ steps 2 1 ++ v 1 ++ steps 1 1 ++ s 1 1 9 ++ steps 1 1;
  shows = answer 0 (words (5 ∷ [])) 3 ∷ answer 0 (sc_truth true) 8 ∷ answer 1 (names 0) 3 ∷ answer 1 (vl_truth false) 1 ∷ answer 1 (sc_truth false) 1 ∷ [];
}

-- A helped SC, past its CAS on the header: 0l 0! 0s7 3(0.) 1l 1! 1v 1! 0! 1v 1!
abbrev helped : Run
helped = record {
  n = 2;
  w = 1;
  k = 5;
  entries = 21;
  commands = l 0 ++ steps 3 0 ++ s 1 0 7 ++ steps 3 0 ++ l 1 ++ steps 6 1 ++ v 1 ++ steps 1 1 ++ steps 2 0 ++ v 1 ++ steps 1 1;
  shows = answer 0 (words (5 ∷ [])) 3 ∷ answer 1 (words (7 ∷ [])) 6 ∷ answer 1 (vl_truth true) 1 ∷ answer 0 (sc_truth true) 5 ∷ answer 1 (vl_truth true) 1 ∷ [];
}

-- An SC that is false at line 19: 0l 0! 1l 1! 1s7 1. 0s6 0! 1!
abbrev false_at19 : Run
false_at19 = record {
  n = 2;
  w = 1;
  k = 5;
  entries = 21;
  commands = l 0 ++ steps 3 0 ++ l 1 ++ steps 3 1 ++ s 1 1 7 ++ steps 1 1 ++ s 1 0 6 ++ steps 8 0 ++ steps 2 1;
  shows = answer 0 (words (5 ∷ [])) 3 ∷ answer 1 (words (5 ∷ [])) 3 ∷ answer 0 (sc_truth true) 8 ∷ answer 1 (sc_truth false) 3 ∷ [];
}

-- A second SC without a new WLL: 0l 0! 0s6 0! 0s7 0!
abbrev second : Run
second = record {
  n = 2;
  w = 1;
  k = 5;
  entries = 15;
  commands = l 0 ++ steps 3 0 ++ s 1 0 6 ++ steps 8 0 ++ s 1 0 7 ++ steps 1 0;
  shows = answer 0 (words (5 ∷ [])) 3 ∷ answer 0 (sc_truth true) 8 ∷ answer 0 (sc_truth false) 1 ∷ [];
}

-- On two words: 0l 0! 0s6 0! 1l 1!
abbrev two_words : Run
two_words = record {
  n = 2;
  w = 2;
  k = 5;
  entries = 27;
  commands = l 0 ++ steps 5 0 ++ s 2 0 6 ++ steps 14 0 ++ l 1 ++ steps 5 1;
  shows = answer 0 (words (5 ∷ 5 ∷ [])) 5 ∷ answer 0 (sc_truth true) 14 ∷ answer 1 (words (6 ∷ 6 ∷ [])) 5 ∷ [];
}

-- Rows 4, 8, 5, 6, 7, each before those that follow: no process 2, not even with a wrong value; an SC of two words where no
-- WLL was answered; the same at a busy process; a start at a busy process; a step at an idle one; an SC and a VL where no
-- WLL was answered.
abbrev refusals : Run
refusals = record {
  n = 2;
  w = 1;
  k = 5;
  entries = 9;
  commands = l 2 ++ s 2 2 7 ++ s 2 0 7 ++ l 0 ++ s 2 0 7 ++ s 1 0 7 ++ steps 1 1 ++ s 1 1 7 ++ v 1;
  shows = no 4 ∷ no 4 ∷ no 8 ∷ no 8 ∷ no 5 ∷ no 6 ∷ no 7 ∷ no 7 ∷ [];
}

pub right_answers : Right (naming ∷ helped ∷ false_at19 ∷ second ∷ two_words ∷ refusals ∷ [])
unfolding command refusal in_range step_at obey set_up set_up_refusal events
right_answers = (refl, (refl, (refl, (refl, (refl, (refl, (refl, (refl, (refl, (refl, (refl, (refl, tt))))))))))))

-- Readings of Figure 6 that tear the record: for each a run on which the wrong reading answers otherwise, with the right
-- answers. Line 5 as a plain write: 0l 3(0.) 0s5 5(0.) 1l 2(1.) 3(0.) 0l 3(0.) 0s6 2(0.) 4(1.), whose last WLL would then
-- answer 6, never written
abbrev plain_line5 : Run
plain_line5 = record {
  n = 2;
  w = 1;
  k = 5;
  entries = 27;
  commands = l 0 ++ steps 3 0 ++ s 1 0 5 ++ steps 5 0 ++ l 1 ++ steps 2 1 ++ steps 3 0 ++ l 0 ++ steps 3 0 ++ s 1 0 6 ++ steps 2 0 ++ steps 4 1;
  shows = answer 0 (words (5 ∷ [])) 3 ∷ answer 0 (sc_truth true) 8 ∷ answer 0 (words (5 ∷ [])) 3 ∷ answer 1 (words (5 ∷ [])) 6 ∷ [];
}

-- Line 7 without the look at the header: 0l 5(0.) 0s6 3(0.) 1l 1. 4(0.) 4(1.), whose last WLL would then answer 6 5
abbrev unlooked_line7 : Run
unlooked_line7 = record {
  n = 2;
  w = 2;
  k = 5;
  entries = 20;
  commands = l 0 ++ steps 5 0 ++ s 2 0 6 ++ steps 3 0 ++ l 1 ++ steps 1 1 ++ steps 4 0 ++ steps 4 1;
  shows = answer 0 (words (5 ∷ 5 ∷ [])) 5 ∷ answer 1 (names 0) 3 ∷ no 6 ∷ no 6 ∷ [];
}

-- Line 15 left out: 0l 3(0.) 0s6 2(0.) 1l 1. 0. 2(1.) 1s7 3(1.): the WLL names 0, yet the SC would succeed
abbrev unchecked_line15 : Run
unchecked_line15 = record {
  n = 2;
  w = 1;
  k = 5;
  entries = 16;
  commands = l 0 ++ steps 3 0 ++ s 1 0 6 ++ steps 2 0 ++ l 1 ++ steps 1 1 ++ steps 1 0 ++ steps 2 1 ++ s 1 1 7 ++ steps 3 1;
  shows = answer 0 (words (5 ∷ [])) 3 ∷ answer 1 (names 0) 3 ∷ answer 1 (sc_truth false) 1 ∷ no 6 ∷ no 6 ∷ [];
}

-- Line 3 as 'y.tag differs from hdr.tag': 0l 3(0.) 0s5 2(0.) 1l 1. 6(0.) 0l 3(0.) 0s6 2(0.) 5(1.) 1l 6(1.), whose last WLL
-- would then answer 6
abbrev differing_line3 : Run
differing_line3 = record {
  n = 2;
  w = 1;
  k = 5;
  entries = 34;
  commands = l 0 ++ steps 3 0 ++ s 1 0 5 ++ steps 2 0 ++ l 1 ++ steps 1 1 ++ steps 6 0 ++ l 0 ++ steps 3 0
      ++ s 1 0 6 ++ steps 2 0 ++ steps 5 1 ++ l 1 ++ steps 6 1;
  shows = answer 0 (words (5 ∷ [])) 3 ∷ answer 0 (sc_truth true) 8 ∷ answer 0 (words (5 ∷ [])) 3
      ∷ answer 1 (names 0) 3 ∷ no 6 ∷ no 6 ∷ no 6 ∷ answer 1 (words (5 ∷ [])) 3 ∷ no 6 ∷ no 6 ∷ no 6 ∷ [];
}

pub torn_otherwise : Right (plain_line5 ∷ unlooked_line7 ∷ unchecked_line15 ∷ differing_line3 ∷ [])
unfolding command refusal in_range step_at obey set_up set_up_refusal events
torn_otherwise = (refl, (refl, (refl, (refl, (refl, (refl, (refl, (refl, tt))))))))
