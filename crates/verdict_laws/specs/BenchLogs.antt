-- The log of answered calls with moments, so many places to a command (02, CR 1).
use Rattle.std.specs.Prelude.{ℕ, ◌*◌, List, [], ◌∷◌, ◌++◌, cond, replicate}
use Rattle.llsc.specs.Answers.{Answer, ll_words, sc_truth, vl_truth}
use Rattle.llsc.specs.Object.{Kind, ll, sc, vl}
use Rattle.llsc.specs.Linearizable.{Timed}
use Rattle.verdicts.specs.Log.{Entry}

-- "1 for LL, 2 for SC or 3 for VL"
abbrev pub kind_number : Kind → ℕ
kind_number ll = 1
kind_number (sc offered) = 2
kind_number vl = 3

-- "words offered or answered": those of an LL's answer, those that an SC offers; of a VL, which has none, zeros
abbrev pub answered_words : ℕ → Answer → List ℕ
answered_words w (ll_words words) = words
answered_words w (sc_truth t) = replicate w 0
answered_words w (vl_truth t) = replicate w 0

abbrev pub words_for : ℕ → Kind → Answer → List ℕ
words_for w ll a = answered_words w a
words_for w (sc offered) a = offered
words_for w vl a = replicate w 0

-- "SC's or VL's 1 or 0"; 0 stands for an LL's
abbrev pub truth_for : Answer → ℕ
truth_for (ll_words words) = 0
truth_for (sc_truth t) = cond t 1 0
truth_for (vl_truth t) = cond t 1 0

-- "places being 1,024 times the command's number"
abbrev pub entry_for : ℕ → ℕ → Timed → Entry
entry_for w places t = record {
  process = t.call.process;
  kind = kind_number t.call.kind;
  start = t.call.start * places;
  answer = t.call.end * places;
  truth = truth_for t.call.answer;
  moment = t.moment;
  words = words_for w t.call.kind t.call.answer;
}

abbrev pub numbers_of : Entry → List ℕ
numbers_of e = e.process ∷ e.kind ∷ e.start ∷ e.answer ∷ e.truth ∷ e.moment ∷ e.words

abbrev pub log_for : ℕ → ℕ → List Timed → List ℕ
log_for w places [] = []
log_for w places (t ∷ ts) = numbers_of (entry_for w places t) ++ log_for w places ts
