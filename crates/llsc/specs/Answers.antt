-- What a reply says: an answer of Figure 1's object, or no answer.
use Rattle.std.specs.Prelude.{ℕ, List, Bool}

-- an answer: the words of an LL, the truth of an SC or of a VL
pub data Answer : Type 0 where
  ll_words : List ℕ → Answer
  sc_truth vl_truth : Bool → Answer

-- refused with a number; accepted with no answer; or an answer with the count of own steps. A bench whose LL can answer
-- more than words has answers of its own.
pub data SaidOf (A : Type 0) : Type 0 where
  refused : ℕ → SaidOf A
  accepted : SaidOf A
  answered : A → ℕ → SaidOf A

abbrev pub Said : Type 0
Said = SaidOf Answer
