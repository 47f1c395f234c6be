-- Both translations undo each other, said of the replies that a caller gets.
use mathlib.Core.Path.{◌≡◌, refl, sym, ap, ◌∙◌}
use Prim.Native.Nat.{ℕ, ◌-◌}
use mathlib.Core.List.{List, [], ◌∷◌, ◌++◌}
use mathlib.Core.Bool.{true, cond}
use lib.ListN.{length, take, replicate}
use Rattle.std.specs.Prelude.{Some, None, Ok, ok_or}
use Rattle.llsc.specs.declared.refusals.Refusal.TheVariants.{NotASchedule}
use Rattle.enumeration.specs.declared.Schedule.{Schedule}
use Rattle.enumeration_model.specs.Schedules.{is_schedule, schedule_for, number_for}
use Rattle.enumeration.specs.Replies.{kept, turns_in, found_for, numbered_for}
use Rattle.enumeration.proofs.ScheduleFacts.{built, turns_length}
use Rattle.enumeration.proofs.Theorems.{schedule_of_number, number_undoes, number_of_schedule, schedule_undoes}
use Rattle.enumeration.proofs.ReplyLaws.{Taken, found_0, found_is, numbered_placed, numbered_is}

take_all : (ts us : List ℕ) → take (length ts) (ts ++ us) ≡ ts
take_all [] us = refl
take_all (t ∷ ts) us = ap (t ∷◌) (take_all ts us)

-- a schedule that was handed out holds its turns
pub turns_in_lem : (a b : ℕ) (ts : List ℕ) → is_schedule a b ts ≡ true → turns_in (kept a b ts) ≡ ts
turns_in_lem a b ts e =
    let zeros : List ℕ = replicate (64 - length ts) 0 in
    ap (λ n. take n (ts ++ zeros)) (sym (turns_length (built a b ts e))) ∙ take_all ts zeros

numbered : (a b : ℕ) (ts : List ℕ) → Taken a b ts → numbered_for a b ts ≡ Ok (number_for a b ts)
numbered a b ts t =
    sym (numbered_placed a b ts t.less_a t.less_b) ∙ ap (λ x. ok_or (cond x (Some (number_for a b ts)) None) NotASchedule) t.test

-- A schedule found for a number has that number,
pub number_of_found : (a b k : ℕ) (s : Schedule) → found_for a b k ≡ Ok s → numbered_for a b (turns_in s) ≡ Ok k
number_of_found a b k s e =
    let f = found_is a b k s e in
    let ts = schedule_for a b k in
    let is = schedule_of_number a b k f.0.below in
    let t : Taken a b ts = record { less_a = f.0.less_a; less_b = f.0.less_b; test = is } in
    ap (λ (s : Schedule). numbered_for a b (turns_in s)) (sym f.1) ∙ ap (numbered_for a b) (turns_in_lem a b ts is)
    ∙ numbered a b ts t ∙ ap Ok (number_undoes a b k f.0.below)

-- and for the number of a schedule that schedule is found.
pub found_of_number : (a b : ℕ) (ts : List ℕ) (k : ℕ) → numbered_for a b ts ≡ Ok k → found_for a b k ≡ Ok (kept a b ts)
found_of_number a b ts k e =
    let n = numbered_is a b ts k e in
    let t = n.0 in
    let own = number_for a b ts in
    ap (found_for a b) (sym n.1) ∙ sym (found_0 a b own t.less_a t.less_b (number_of_schedule a b ts t.test))
    ∙ ap (λ us. Ok (kept a b us)) (schedule_undoes a b ts t.test)
