-- Reasons by computation. N is 2, W is 1, the value 5; a call is process, kind, start, answer, truth, moment, word.
use mathlib.Core.Path.{◌≡◌, refl}
use mathlib.Core.List.{List, [], ◌∷◌, ◌++◌}
use mathlib.Core.Bool.{true, false}
use Prim.Native.Nat.{ℕ}
use Rattle.verdicts.specs.declared.LogRefusal.TheVariants.{WOutOfRange, NoSuchProcess, ValueNotWWords, AnswerNotAfterStart}
use Rattle.verdicts.specs.declared.Shown.TheVariants.{Value as Value·shown, WordsOf, Truth}
use Rattle.verdicts.specs.declared.Fault.TheVariants.{Unknown, Overlap, Moment, Outside, Answer, Unled}
use Rattle.verdicts.specs.declared.Place.TheVariants.{Value, Call}
use Rattle.verdicts.specs.declared.Judgement.{Judgement}
use Rattle.verdicts.specs.declared.Judgement.TheVariants.{Refused, Yes, No}
use Rattle.verdicts.specs.Reasons.{reason_of_no, condition_of, log_refused, judged_with_reason}
use Rattle.verdicts.proofs.Needed.{call}

abbrev why : List ℕ → Judgement
why log = judged_with_reason 2 1 (5 ∷ []) log

-- the number of the condition that a no tells
abbrev condition_told : Judgement → ℕ
condition_told (Refused r) = 0
condition_told Yes = 0
condition_told (No f) = condition_of f

-- process 0 links and writes 7
abbrev begin : List ℕ
begin = call 0 1 10 20 0 20 5 ++ call 0 2 30 40 1 40 7

record Reasons : Type 0 where
  -- the second call has kind 4, the third kind 0
  kind : why (call 0 1 10 20 0 20 5 ++ call 0 4 30 40 1 40 0 ++ call 0 0 50 60 1 60 0) ≡ No (Unknown 1)
  -- calls 1, 2 and 3 overlap; 0 is of another process
  overlap : why (call 1 1 10 90 0 11 5 ++ call 0 1 10 20 0 20 5 ++ call 0 1 12 30 0 30 5 ++ call 0 1 14 40 0 40 5) ≡ No (Overlap 1 2)
  -- call 0 and the last have one moment
  moment : why (call 0 1 10 20 0 15 5 ++ call 0 1 21 30 0 30 5 ++ call 1 1 10 20 0 15 5) ≡ No (Moment 0 2)
  -- of two moments outside the first
  outside : why (call 0 1 10 20 0 20 5 ++ call 0 1 30 40 0 30 5 ++ call 0 1 50 60 0 61 5) ≡ No (Outside 1)
  -- an LL that saw 6: the object holds the value
  value_held : why (call 0 1 10 20 0 20 6) ≡ No (Answer 0 Value·shown)
  -- an LL that saw 5 after the SC: the object holds the words of call 1
  words_held : why (begin ++ call 1 1 30 60 0 50 5) ≡ No (Answer 2 (WordsOf 1))
  -- an SC that fails in between leaves them there
  words_left : why (begin ++ call 0 2 50 60 0 60 8 ++ call 1 1 70 80 0 80 5) ≡ No (Answer 3 (WordsOf 1))
  -- an SC without a new LL that claims to have written: the object says false; one of a linked process that claims not to
  no_link : why (begin ++ call 0 2 50 60 1 60 8) ≡ No (Answer 2 (Truth false))
  linked : why (call 0 1 10 20 0 20 5 ++ call 0 2 30 40 0 40 7) ≡ No (Answer 1 (Truth true))
  -- a truth of 2 where the object says false
  truth_2 : why (begin ++ call 0 3 50 60 2 60 0) ≡ No (Answer 2 (Truth false))
  -- two calls that are not answered alike, the first in the log later in moment order
  by_moment : why (call 1 1 30 60 0 60 6 ++ call 0 1 10 20 0 20 6) ≡ No (Answer 1 Value·shown)
  -- VLs of a process that never linked, rightly told false
  no_ll : why (call 0 1 10 20 0 20 5 ++ call 1 3 30 40 0 40 0 ++ call 1 3 50 60 0 60 0) ≡ No (Unled 1)

reasons : Reasons
unfolding log_refused reason_of_no
reasons = record {
  kind = refl;
  overlap = refl;
  moment = refl;
  outside = refl;
  value_held = refl;
  words_held = refl;
  words_left = refl;
  no_link = refl;
  linked = refl;
  truth_2 = refl;
  by_moment = refl;
  no_ll = refl;
}

-- two conditions fail, the later one at an earlier call
record InOrder : Type 0 where
  one_of_two : condition_told (why (call 0 1 10 20 0 20 5 ++ call 0 1 15 30 0 30 5 ++ call 1 4 10 20 0 15 5)) ≡ 1
  two_of_three : condition_told (why (call 1 1 10 20 0 20 5 ++ call 0 1 10 20 0 20 5 ++ call 0 1 15 30 0 30 5)) ≡ 2
  three_of_four : condition_told (why (call 1 1 10 20 0 10 5 ++ call 1 1 30 40 0 40 5 ++ call 0 1 30 40 0 40 5)) ≡ 3
  four_of_five : condition_told (why (call 0 1 10 20 0 20 6 ++ call 0 1 30 40 0 30 5)) ≡ 4
  five_of_six : condition_told (why (call 0 3 10 20 0 20 0 ++ call 1 1 30 40 0 40 6)) ≡ 5

in_order : InOrder
unfolding log_refused reason_of_no
in_order = record { one_of_two = refl; two_of_three = refl; three_of_four = refl; four_of_five = refl; five_of_six = refl }

-- the call that a refusal is about, or the value
record Refusals : Type 0 where
  four : judged_with_reason 2 1 (5 ∷ []) (call 0 1 10 20 0 20 5 ++ call 2 1 10 20 0 20 5 ++ call 3 1 10 20 0 20 5) ≡ Refused (NoSuchProcess 1)
  four_cut : judged_with_reason 2 1 (5 ∷ []) (call 0 1 10 20 0 20 5 ++ 2 ∷ []) ≡ Refused (NoSuchProcess 1)
  eight_value : judged_with_reason 2 1 [] (call 0 1 10 20 0 20 5 ++ 0 ∷ []) ≡ Refused (ValueNotWWords Value)
  eight_cut : judged_with_reason 2 1 (5 ∷ []) (call 0 1 10 20 0 20 5 ++ 1 ∷ []) ≡ Refused (ValueNotWWords (Call 1))
  seventeen : judged_with_reason 2 1 (5 ∷ []) (call 0 1 10 20 0 20 5 ++ call 1 1 10 10 0 10 5 ++ call 1 1 9 9 0 9 5) ≡ Refused (AnswerNotAfterStart 1)
  one_two : judged_with_reason 2 65 [] (call 3 1 10 10 0 10 5) ≡ Refused WOutOfRange

refusals : Refusals
unfolding log_refused reason_of_no
refusals = record { four = refl; four_cut = refl; eight_value = refl; eight_cut = refl; seventeen = refl; one_two = refl }
