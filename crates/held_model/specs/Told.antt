-- Orders and replies as the numbers that a caller gives and gets.
use Rattle.std.specs.Prelude.{ℕ, Bool, false, cond, eqb}
use Rattle.llsc.specs.declared.Order.{Order}
use Rattle.llsc.specs.declared.Order.TheVariants.{StartLl, StartSc, StartVl, Step}
use Rattle.model.specs.declared.Reply.{Reply}
use Rattle.model.specs.declared.Reply.TheVariants.{Refused, Accepted, LlAnswered, ScAnswered, VlAnswered}
use Rattle.held_model.specs.declared.Told.{Told}
use Rattle.held_model.specs.Layout.{answer_place}

-- "order (1: 0 step, 1 LL, 2 SC, 3 VL)", as a board's trace file has them; every other number is a step
abbrev pub order_named : ℕ → Order
order_named k = cond (eqb k 1) StartLl (cond (eqb k 2) StartSc (cond (eqb k 3) StartVl Step))

-- "every kind is 1 for LL, 2 for SC or 3 for VL", and 0 where nothing was answered
abbrev pub told_with : ℕ → ℕ → Bool → ℕ → Told
told_with number kind truth count = record { number = number; kind = kind; truth = truth; count = count; at = 0; words = 0 }

-- what the reply to process p says, in a list of n processes, words of w and r records
abbrev pub told : ℕ → ℕ → ℕ → ℕ → Reply → Told
told n w r p (Refused k) = told_with k 0 false 0
told n w r p Accepted = told_with 0 0 false 0
told n w r p (LlAnswered k) = record { number = 0; kind = 1; truth = false; count = k; at = answer_place n w r p; words = w }
told n w r p (ScAnswered t k) = told_with 0 2 t k
told n w r p (VlAnswered t k) = told_with 0 3 t k
