-- The definitions of a held list on small lists, by computation: a list as a set-up leaves it, a WLL from its start to its
-- answer, a tag that is too large, and a number that a command does not look at.
use mathlib.Core.Path.{◌≡◌, refl}
use mathlib.Core.List.{List, [], ◌∷◌, ◌++◌}
use mathlib.Core.Bool.{true, false}
use Prim.Native.Nat.{ℕ}
use lib.ListN.{replicate, set}
use Rattle.llsc.specs.declared.Order.{Order}
use Rattle.llsc.specs.declared.Order.TheVariants.{StartLl, Step}
use Rattle.moir_model.specs.declared.Reply.{Reply}
use Rattle.moir_model.specs.declared.Reply.TheVariants.{Accepted, WllAnswered}
use Rattle.moir_model.specs.Machine.{Memory, obey, step_at}
use Rattle.moir_model.specs.Refusals.{in_range}
use Rattle.moir_model.specs.Command.{refusal, command}
use Rattle.moir_model.specs.SetUp.{set_up, set_up_refusal}
use Rattle.moir_held_model.specs.declared.Told.{Told}
use Rattle.moir_held_model.specs.Layout.{process_place, mark_place, words_place, answer_place}
use Rattle.moir_held_model.specs.Memory.{memory_of}
use Rattle.moir_held_model.specs.Told.{told}
use Rattle.moir_held_model.specs.Ranges.{held_refusal, held_command, near_refusal, near_command}

-- N = 1, W = 1 and the value 5: the header, the tags, a process, those that N does not need, A[0], the segment, two areas
before : List ℕ
before = replicate 344 9

begun : List ℕ
begun = 1 ∷ 1 ∷ 0 ∷ 0 ∷ 0 ∷ replicate 63 9 ++ replicate 17 0 ++ replicate 255 9 ++ (5 ∷ 5 ∷ 0 ∷ 0 ∷ [])

record Places : Type 0 where
  last_process : process_place 15 ≡ 323
  behind_it : process_place 16 ≡ words_place
  mark : mark_place 1 ≡ 88
  answer : answer_place 2 3 1 ≡ 352

places : Places
places = record { last_process = refl; behind_it = refl; mark = refl; answer = refl }

set_up_is : set_up (memory_of before) 1 1 (5 ∷ []) ≡ (0, memory_of begun)
unfolding set_up set_up_refusal before begun
set_up_is = refl

-- one command after another, by a look at what each reads alone
after : List Order → Memory → Memory
after [] m = m
after (o ∷ os) m = after os (near_command m 0 o []).1

-- line 10, line 2, line 7
abbrev two_steps : List Order
two_steps = StartLl ∷ Step ∷ Step ∷ []

answers : (near_command (after two_steps (memory_of begun)) 0 Step []).0 ≡ WllAnswered 3
unfolding near_command near_refusal obey step_at after begun
answers = refl

told_is : told 1 1 0 (WllAnswered 3) ≡ record { number = 0; kind = 1; truth = false; named = 0; count = 3; at = 342; words = 1 }
told_is = refl

-- a tag of 65,536 that the process keeps: row 9 of a held list, and no row of `moir_model`
large : List ℕ
large = set begun 72 65536

record TooLarge : Type 0 where
  held : held_refusal (memory_of large) 0 StartLl [] ≡ 9
  near : near_refusal (memory_of large) 0 StartLl [] ≡ 9
  model : refusal (memory_of large) 0 StartLl [] ≡ 0
  right : held_refusal (memory_of begun) 0 StartLl [] ≡ 0

too_large : TooLarge
unfolding held_refusal near_refusal refusal in_range large begun
too_large = record { held = refl; near = refl; model = refl; right = refl }

-- of two processes, a line of the other one that is none: the whole list is looked at by a command, not by a step
two : List ℕ
two = 2 ∷ 1 ∷ 0 ∷ 0 ∷ 0 ∷ replicate 63 9 ++ replicate 17 0 ++ (3 ∷ replicate 16 0) ++ replicate 238 9 ++ replicate 7 5

record Unread : Type 0 where
  held : held_refusal (memory_of two) 0 StartLl [] ≡ 9
  near : near_refusal (memory_of two) 0 StartLl [] ≡ 0
  model : refusal (memory_of two) 0 StartLl [] ≡ 9

unread : Unread
unfolding held_refusal near_refusal refusal in_range two
unread = record { held = refl; near = refl; model = refl }
