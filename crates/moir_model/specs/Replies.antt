-- What a reply says: 01's number and values for each of its cases.
use Rattle.std.specs.Prelude.{ℕ, List, Bool}
use Rattle.llsc.specs.declared.ProcessNumber.{ProcessNumber}
use Rattle.llsc.specs.Answers.{SaidOf, refused, accepted, answered}
use Rattle.moir_model.specs.declared.Reply.{Reply}
use Rattle.moir_model.specs.declared.Reply.TheVariants.{Refused, Accepted, WllAnswered, WllNamed, ScAnswered, VlAnswered}
use Rattle.moir_model.specs.Words.{return_area}
use Rattle.moir_model.specs.Machine.{Memory}

-- an answer: "WLL answers the words or the number of a process that wrote during it"; the truth of an SC or of a VL
pub data Answer : Type 0 where
  words : List ℕ → Answer
  names : ℕ → Answer
  sc_truth vl_truth : Bool → Answer

abbrev pub Said : Type 0
Said = SaidOf Answer

-- the number of a refusal, 0 for none
abbrev pub number_of : Reply → ℕ
number_of (Refused c) = c
number_of Accepted = 0
number_of (WllAnswered k) = 0
number_of (WllNamed q k) = 0
number_of (ScAnswered t k) = 0
number_of (VlAnswered t k) = 0

-- what the reply to process p says, with the memory as the command left it
abbrev pub says : Memory → ProcessNumber → Reply → Said
says m p (Refused c) = refused c
says m p Accepted = accepted
says m p (WllAnswered k) = answered (words (return_area m.bench.n m.bench.w p m.words)) k
says m p (WllNamed q k) = answered (names q.0) k
says m p (ScAnswered t k) = answered (sc_truth t) k
says m p (VlAnswered t k) = answered (vl_truth t) k
