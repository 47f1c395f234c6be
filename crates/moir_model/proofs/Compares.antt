-- What a CAS and line 7 compare, on memory that no run reaches, and what a set-up leaves, by computation: a tag alone is
-- not enough, the process that is named is the one that wrote, A[0] holds the value and the tags from W on stay.
use mathlib.Core.Path.{◌≡◌, refl}
use mathlib.Core.List.{[], ◌∷◌, ◌++◌}
use lib.ListN.{replicate}
use Rattle.moir_model.specs.declared.Header.{Header}
use Rattle.moir_model.specs.declared.Segment.{Segment}
use Rattle.moir_model.specs.declared.Process.{Process}
use Rattle.moir_model.specs.declared.Reply.TheVariants.{Accepted, WllNamed, ScAnswered}
use Rattle.moir_model.specs.Lines.{do_line5, do_line7, do_line7_copy, do_line13, do_line19, cas_header}
use Rattle.moir_model.specs.Machine.{step_at, obey}
use Rattle.moir_model.specs.Refusals.{in_range}
use Rattle.moir_model.specs.Command.{command, refusal}
use Rattle.moir_model.specs.SetUp.{set_up, set_up_refusal}
use Rattle.moir_model.specs.Replies.{words, names, sc_truth}
use Rattle.moir_model.specs.History.{events}
use mathlib.Core.Bool.{true, false}
use Rattle.moir_model.proofs.Schedules.{l, s, steps, answer, dirty, Run, Right}

-- two headers and two segments of one tag
abbrev zero : Header
zero = record { tag = 3; pid = record { 0 = 0 } }

abbrev one : Header
one = record { tag = 3; pid = record { 0 = 1 } }

abbrev eight : Segment
eight = record { tag = 3; val = 8 }

abbrev nine : Segment
nine = record { tag = 3; val = 9 }

-- process q read header `zero` and segment `eight`, and brings others
abbrev q : Process
q = record {
  line = 7;
  word = 0;
  count = 2;
  answered = true;
  keep = 3;
  x = zero;
  oldhdr = zero;
  newhdr = record { tag = 4; pid = record { 0 = 0 } };
  h = zero;
  y = eight;
  z = record { tag = 4; val = 7 };
}

record Whole : Type 0 where
  line_5_other_word : do_line5 nine q ≡ nine
  line_5_same : do_line5 eight q ≡ record { tag = 4; val = 7 }
  line_7_other_process : (do_line7 1 one q).reply ≡ WllNamed (record { 0 = 1 }) 3
  line_7_of_copy_other_process : (do_line7_copy 2 (record { tag = 4; pid = record { 0 = 1 } }) q).reply ≡ ScAnswered true 3
  line_7_of_copy_same : (do_line7_copy 2 q.newhdr q).reply ≡ Accepted
  line_19_other_process : cas_header one q ≡ one
  line_19_answers : (do_line19 one q).reply ≡ ScAnswered false 3

whole : Whole
whole = record {
  line_5_other_word = refl;
  line_5_same = refl;
  line_7_other_process = refl;
  line_7_of_copy_other_process = refl;
  line_7_of_copy_same = refl;
  line_19_other_process = refl;
  line_19_answers = refl;
}

-- the word place is 0 after every answer, a VL's too (docs/DECISIONS.md, "The word place at an answer")
rests : (do_line13 zero (record q { word = 1 })).process.word ≡ 0
rests = refl

-- the process named is the one that wrote, not the one that the WLL found in the header: 0l 0. 1l 1! 1s7 1! 0!
abbrev names_the_writer : Run
names_the_writer = record {
  n = 2;
  w = 1;
  k = 5;
  entries = 17;
  commands = l 0 ++ steps 1 0 ++ l 1 ++ steps 3 1 ++ s 1 1 7 ++ steps 8 1 ++ steps 2 0;
  shows = answer 1 (words (5 ∷ [])) 3 ∷ answer 1 (sc_truth true) 8 ∷ answer 0 (names 1) 3 ∷ [];
}

names_the_writer_lem : Right (names_the_writer ∷ [])
unfolding command refusal in_range step_at obey set_up set_up_refusal events
names_the_writer_lem = (refl, (refl, tt))

-- "the segments and A[0] hold the given value": A's two rows, the segments, the return areas, the offer areas, for two
-- words; what lies beyond stays, and so do the tags from W on
record SetUp : Type 0 where
  values : (set_up dirty 2 2 (5 ∷ 6 ∷ [])).1.words ≡ 5 ∷ 6 ∷ 0 ∷ 0 ∷ 5 ∷ 6 ∷ 0 ∷ 0 ∷ 0 ∷ 0 ∷ 0 ∷ 0 ∷ 0 ∷ 0 ∷ 1234 ∷ []
  tags : (set_up dirty 2 2 (5 ∷ 6 ∷ [])).1.bench.tags ≡ 0 ∷ 0 ∷ replicate 62 79

set_up_lem : SetUp
unfolding set_up set_up_refusal
set_up_lem = record { values = refl; tags = refl }
