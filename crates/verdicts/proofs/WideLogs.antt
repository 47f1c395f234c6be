-- Logs of three words, by computation: every word is compared, an LL's truth and a VL's words are not looked at, a call
-- that is cut off is one of nine numbers. N is 2, the value 5 6 7.
use mathlib.Core.Path.{◌≡◌, refl}
use mathlib.Core.List.{List, [], ◌∷◌, ◌++◌}
use Prim.Native.Nat.{ℕ}
use Rattle.verdicts.specs.declared.Verdict.{Verdict}
use Rattle.verdicts.specs.declared.Verdict.TheVariants.{Refused, Yes, No}
use Rattle.llsc.specs.declared.refusals.Refusal.TheVariants.{NoSuchProcess, ValueNotWWords}
use Rattle.verdicts.specs.Verdicts.{earns_yes, log_checked, judged}

abbrev said : List ℕ → Verdict
said log = judged 2 3 (5 ∷ 6 ∷ 7 ∷ []) log

-- process 0 links, with the truth given, and writes 8 9 10
written : ℕ → List ℕ
written t = 0 ∷ 1 ∷ 10 ∷ 20 ∷ t ∷ 20 ∷ 5 ∷ 6 ∷ 7 ∷ 0 ∷ 2 ∷ 30 ∷ 40 ∷ 1 ∷ 40 ∷ 8 ∷ 9 ∷ 10 ∷ []

-- process 1 then sees these words
seen : List ℕ → List ℕ
seen ws = 1 ∷ 1 ∷ 50 ∷ 60 ∷ 0 ∷ 60 ∷ ws

record Words : Type 0 where
  all_three : said (written 0 ++ seen (8 ∷ 9 ∷ 10 ∷ [])) ≡ Yes
  first_differs : said (written 0 ++ seen (5 ∷ 9 ∷ 10 ∷ [])) ≡ No
  second_differs : said (written 0 ++ seen (8 ∷ 6 ∷ 10 ∷ [])) ≡ No
  last_differs : said (written 0 ++ seen (8 ∷ 9 ∷ 7 ∷ [])) ≡ No
  truth_of_an_ll : said (written 7) ≡ Yes
  words_of_a_vl : said (written 0 ++ 0 ∷ 3 ∷ 50 ∷ 60 ∷ 0 ∷ 60 ∷ 1 ∷ 2 ∷ 3 ∷ []) ≡ Yes

words : Words
unfolding written seen judged log_checked earns_yes
words = record { all_three = refl; first_differs = refl; second_differs = refl; last_differs = refl; truth_of_an_ll = refl; words_of_a_vl = refl }

-- a last call of eight numbers; of seven, which would be whole where W is 1; of its process alone, which is none of two
record Cut : Type 0 where
  eight_numbers : said (written 0 ++ seen (8 ∷ 9 ∷ [])) ≡ Refused ValueNotWWords
  seven_numbers : said (written 0 ++ seen (8 ∷ [])) ≡ Refused ValueNotWWords
  process_alone : said (written 0 ++ 2 ∷ []) ≡ Refused NoSuchProcess

cut : Cut
unfolding written seen judged log_checked earns_yes
cut = record { eight_numbers = refl; seven_numbers = refl; process_alone = refl }
