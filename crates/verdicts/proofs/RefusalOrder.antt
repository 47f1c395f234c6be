-- The refusals of a log come in the order 1, 2, 4, 8, 16, 17, each over the whole log: logs in which two causes hold,
-- by computation.
use mathlib.Core.Path.{◌≡◌, refl}
use mathlib.Core.List.{List, [], ◌∷◌, ◌++◌}
use Prim.Native.Nat.{ℕ, zero, suc, ◌+◌, ◌*◌}
use Rattle.verdicts.specs.declared.Verdict.TheVariants.{Refused}
use Rattle.llsc.specs.declared.refusals.Refusal.TheVariants.{NOutOfRange, WOutOfRange, NoSuchProcess, ValueNotWWords}
use Rattle.llsc.specs.declared.refusals.Refusal.TheVariants.{TooManyCalls, AnswerNotAfterStart}
use Rattle.verdicts.specs.Verdicts.{log_refusal, log_checked, judged}

-- n LLs of process p, one after the other, W being 1; and one that is answered where it starts
abbrev lls : ℕ → ℕ → ℕ → List ℕ
lls zero p k = []
lls (suc n) p k = p ∷ 1 ∷ (k * 10) ∷ (k * 10 + 9) ∷ 0 ∷ (k * 10 + 9) ∷ 5 ∷ lls n p (suc k)

abbrev backward : ℕ → List ℕ
backward p = p ∷ 1 ∷ 10 ∷ 10 ∷ 0 ∷ 10 ∷ 5 ∷ []

pub one_before_two : judged 0 65 [] (backward 0) ≡ Refused NOutOfRange
unfolding judged log_checked
one_before_two = refl

pub seventeen_processes : judged 17 0 [] [] ≡ Refused NOutOfRange
unfolding judged log_checked
seventeen_processes = refl

pub two_before_four : judged 1 65 (5 ∷ []) (backward 1) ≡ Refused WOutOfRange
unfolding judged log_checked
two_before_four = refl

-- a process of 2 in the last call, with a value of no words
pub four_before_eight : judged 2 1 [] (backward 0 ++ lls 1 2 1) ≡ Refused NoSuchProcess
unfolding judged log_checked
four_before_eight = refl

-- a call that is cut off after its first number
pub cut_call_of_2 : judged 2 1 (5 ∷ []) (lls 1 0 1 ++ 2 ∷ []) ≡ Refused NoSuchProcess
unfolding judged log_checked
cut_call_of_2 = refl

pub cut_call : judged 2 1 (5 ∷ []) (backward 0 ++ 1 ∷ []) ≡ Refused ValueNotWWords
unfolding judged log_checked
cut_call = refl

-- 512 calls are not refused, one more is too many: whatever its places are, but not where the value has no word
pub most_calls : log_refusal 2 1 (5 ∷ []) (lls 512 0 1) ≡ 0
unfolding log_refusal
most_calls = refl

pub too_many_calls : judged 2 1 (5 ∷ []) (lls 513 0 1) ≡ Refused TooManyCalls
unfolding judged log_checked
too_many_calls = refl

pub sixteen_before_seventeen : judged 2 1 (5 ∷ []) (lls 512 0 1 ++ backward 1) ≡ Refused TooManyCalls
unfolding judged log_checked
sixteen_before_seventeen = refl

pub eight_before_sixteen : judged 2 1 [] (lls 513 0 1) ≡ Refused ValueNotWWords
unfolding judged log_checked
eight_before_sixteen = refl

-- a call past the 512th is looked at for its process, too
pub four_past_512 : judged 2 1 (5 ∷ []) (lls 513 0 1 ++ lls 1 2 1) ≡ Refused NoSuchProcess
unfolding judged log_checked
four_past_512 = refl

pub seventeen : judged 2 1 (5 ∷ []) (lls 1 0 1 ++ backward 1) ≡ Refused AnswerNotAfterStart
unfolding judged log_checked
seventeen = refl
