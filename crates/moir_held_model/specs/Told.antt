-- Replies as the numbers that a caller gets. Orders are named as for the first bench (`held_model/specs/Told`).
use Rattle.std.specs.Prelude.{ℕ, Bool, false}
use Rattle.moir_model.specs.declared.Reply.{Reply}
use Rattle.moir_model.specs.declared.Reply.TheVariants.{Refused, Accepted, WllAnswered, WllNamed, ScAnswered, VlAnswered}
use Rattle.moir_held_model.specs.declared.Told.{Told}
use Rattle.moir_held_model.specs.Layout.{answer_place}

-- what shows no words
abbrev pub told_with : ℕ → ℕ → Bool → ℕ → ℕ → Told
told_with number kind truth named count =
    record { number = number; kind = kind; truth = truth; named = named; count = count; at = 0; words = 0 }

-- what the reply to process p says, in a list of n processes and words of w
abbrev pub told : ℕ → ℕ → ℕ → Reply → Told
told n w p (Refused k) = told_with k 0 false 0 0
told n w p Accepted = told_with 0 0 false 0 0
told n w p (WllAnswered k) =
    record { number = 0; kind = 1; truth = false; named = 0; count = k; at = answer_place n w p; words = w }
told n w p (WllNamed q k) = told_with 0 4 false q.0 k
told n w p (ScAnswered t k) = told_with 0 2 t 0 k
told n w p (VlAnswered t k) = told_with 0 3 t 0 k
