-- Answers that are alike are equal, and what keeps the moments keeps the moment order.
use mathlib.Core.Path.{◌≡◌, refl, sym, ap, ap₂, ◌∙◌}
use mathlib.Core.Bool.{Bool, true, false, cond}
use mathlib.Core.List.{List, [], ◌∷◌, map}
use Prim.Native.Nat.{ℕ}
use lib.Dec.{eqb, leb}
use borrow.Author.Tests.{eqb-true, eq-eqb}
use Rattle.llsc.specs.Answers.{Answer, ll_words, sc_truth, vl_truth}
use Rattle.llsc.specs.Linearizable.{Timed, insert, sort_into, in_moment_order}
use Rattle.laws.proofs.Updates.{contra}
use Rattle.laws.proofs.AndLaws.{left, right}
use Rattle.laws.proofs.AllLaws.{and_both}
use Rattle.verdicts.specs.Verdicts.{same_words, same_truth, answers_alike, same_answers}

words_same : (a : List ℕ) → same_words a a ≡ true
words_same [] = refl
words_same (x ∷ xs) = and_both (eq-eqb x x refl) (words_same xs)

same_words_lem : (a b : List ℕ) → same_words a b ≡ true → a ≡ b
same_words_lem [] [] e = refl
same_words_lem [] (y ∷ ys) e = absurd (contra e refl)
same_words_lem (x ∷ xs) [] e = absurd (contra e refl)
same_words_lem (x ∷ xs) (y ∷ ys) e = ap₂ ◌∷◌ (eqb-true x y (left (eqb x y) _ e)) (same_words_lem xs ys (right (eqb x y) _ e))

truth_same : (t : Bool) → same_truth t t ≡ true
truth_same true = refl
truth_same false = refl

same_truth_lem : (s t : Bool) → same_truth s t ≡ true → s ≡ t
same_truth_lem true t e = sym e
same_truth_lem false true e = e
same_truth_lem false false e = refl

answer_same : (a : Answer) → answers_alike a a ≡ true
answer_same (ll_words v) = words_same v
answer_same (sc_truth t) = truth_same t
answer_same (vl_truth t) = truth_same t

same_answer : (a b : Answer) → answers_alike a b ≡ true → a ≡ b
same_answer (ll_words v) (ll_words u) e = ap ll_words (same_words_lem v u e)
same_answer (ll_words v) (sc_truth t) e = absurd (contra e refl)
same_answer (ll_words v) (vl_truth t) e = absurd (contra e refl)
same_answer (sc_truth s) (ll_words u) e = absurd (contra e refl)
same_answer (sc_truth s) (sc_truth t) e = ap sc_truth (same_truth_lem s t e)
same_answer (sc_truth s) (vl_truth t) e = absurd (contra e refl)
same_answer (vl_truth s) (ll_words u) e = absurd (contra e refl)
same_answer (vl_truth s) (sc_truth t) e = absurd (contra e refl)
same_answer (vl_truth s) (vl_truth t) e = ap vl_truth (same_truth_lem s t e)

answers_same : (xs : List Answer) → same_answers xs xs ≡ true
answers_same [] = refl
answers_same (a ∷ rest) = and_both (answer_same a) (answers_same rest)

pub answers_equal : (xs ys : List Answer) → xs ≡ ys → same_answers xs ys ≡ true
answers_equal xs ys e = ap (same_answers xs) (sym e) ∙ answers_same xs

pub equal_answers : (xs ys : List Answer) → same_answers xs ys ≡ true → xs ≡ ys
equal_answers [] [] e = refl
equal_answers [] (y ∷ ys) e = absurd (contra e refl)
equal_answers (x ∷ xs) [] e = absurd (contra e refl)
equal_answers (x ∷ xs) (y ∷ ys) e = ap₂ ◌∷◌ (same_answer x y (left (answers_alike x y) _ e)) (equal_answers xs ys (right (answers_alike x y) _ e))

-- the moment order
module _ (g : Timed → Timed) (e : (t : Timed) → (g t).moment ≡ t.moment) where
  insert_map : (t : Timed) (us : List Timed) → insert (g t) (map g us) ≡ map g (insert t us)
  insert_map t [] = refl
  insert_map t (u ∷ us) =
      ap₂ (λ i j. cond (leb i j) (g u ∷ insert (g t) (map g us)) (g t ∷ g u ∷ map g us)) (e u) (e t) ∙ go (leb u.moment t.moment) (insert_map t us)
    where
      go : (b : Bool) → insert (g t) (map g us) ≡ map g (insert t us)
          → cond b (g u ∷ insert (g t) (map g us)) (g t ∷ g u ∷ map g us) ≡ map g (cond b (u ∷ insert t us) (t ∷ u ∷ us))
      go true z = ap (g u ∷◌) z
      go false z = refl

  sort_map : (ts us : List Timed) → sort_into (map g ts) (map g us) ≡ map g (sort_into ts us)
  sort_map [] us = refl
  sort_map (t ∷ ts) us = ap (sort_into (map g ts)) (insert_map t us) ∙ sort_map ts (insert t us)

  pub order_map : (ts : List Timed) → in_moment_order (map g ts) ≡ map g (in_moment_order ts)
  order_map ts = sort_map ts []
