-- What a reply says: 01's number and values for each of its cases.
use Rattle.std.specs.Prelude.{ℕ}
use Rattle.llsc.specs.declared.ProcessNumber.{ProcessNumber}
use Rattle.model.specs.declared.Reply.{Reply}
use Rattle.model.specs.declared.Reply.TheVariants.{Refused, Accepted, LlAnswered, ScAnswered, VlAnswered}
use Rattle.llsc.specs.Answers.{ll_words, sc_truth, vl_truth, Said, refused, accepted, answered}
use Rattle.model.specs.Words.{return_area}
use Rattle.model.specs.Machine.{Memory}

-- the number of a refusal, 0 for none
abbrev pub number_of : Reply → ℕ
number_of (Refused c) = c
number_of Accepted = 0
number_of (LlAnswered k) = 0
number_of (ScAnswered t k) = 0
number_of (VlAnswered t k) = 0

-- what the reply to process p says, with the memory as the command left it ("The answer is the return area.")
abbrev pub says : Memory → ProcessNumber → Reply → Said
says m p (Refused c) = refused c
says m p Accepted = accepted
says m p (LlAnswered k) = answered (ll_words (return_area m.bench.n m.bench.w p m.words)) k
says m p (ScAnswered t k) = answered (sc_truth t) k
says m p (VlAnswered t k) = answered (vl_truth t) k
