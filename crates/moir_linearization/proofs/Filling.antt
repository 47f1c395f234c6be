-- The calls as `model` has them: a WLL that names a process gets the words that the object holds where it takes effect.
use mathlib.Core.Path.{◌≡◌, refl, ap}
use mathlib.Core.List.{List, [], ◌∷◌, ◌++◌}
use Prim.Native.Nat.{ℕ}
use Rattle.llsc.specs.Answers as R
use Rattle.llsc.specs.Object.{fresh}
use Rattle.llsc.specs.Linearizable.{Timed, insert, sort_into}
use Rattle.serving.proofs.Serving.{after}
use Rattle.serving.proofs.Sorting.{upto}
use Rattle.moir_model.specs.Replies.{Answer, words, names, sc_truth, vl_truth}
use Rattle.moir_linearization.proofs.GhostRuns.{Effect}

abbrev pub filled_answer : List ℕ → Answer → R.Answer
filled_answer v (words w) = R.Answer.ll_words w
filled_answer v (names q) = R.Answer.ll_words v
filled_answer v (sc_truth b) = R.Answer.sc_truth b
filled_answer v (vl_truth b) = R.Answer.vl_truth b

abbrev pub filled : List ℕ → Effect → Timed
filled v e = record {
  call = record {
    process = e.call.process;
    kind = e.call.kind;
    start = e.call.start;
    end = e.call.end;
    steps = 0;
    answer = filled_answer v e.call.answer;
    count = 0;
  };
  moment = e.at;
}

-- with the words at its place in the log
abbrev pub placed : List ℕ → List Timed → Effect → Timed
placed v0 log e = filled (after (fresh v0) (upto e.at log)).words e

abbrev pub fill_all : List ℕ → List Effect → List Timed → List Timed
fill_all v0 [] log = []
fill_all v0 (e ∷ es) log = placed v0 log e ∷ fill_all v0 es (insert (placed v0 log e) log)

pub fill_all_append : (v0 : List ℕ) (es fs : List Effect) (log : List Timed)
    → fill_all v0 (es ++ fs) log ≡ fill_all v0 es log ++ fill_all v0 fs (sort_into (fill_all v0 es log) log)
fill_all_append v0 [] fs log = refl
fill_all_append v0 (e ∷ es) fs log = ap (placed v0 log e ∷◌) (fill_all_append v0 es fs (insert (placed v0 log e) log))
