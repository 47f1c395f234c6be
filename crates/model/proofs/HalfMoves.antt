-- A word moved in halves, seen in the lent words: low half first, and the other half stays. N = 1, W = 1.
use mathlib.Core.Path.{◌≡◌, refl}
use Prim.Native.Nat.{ℕ}
use mathlib.Core.List.{List, [], ◌∷◌, ◌++◌}
use lib.ListN.{get_or}
use Rattle.model.specs.Machine.{Memory, step_at, obey}
use Rattle.model.specs.Refusals.{in_range}
use Rattle.model.specs.Command.{command, refusal}
use Rattle.model.specs.SetUp.{set_up, set_up_refusal}
use Rattle.llsc.specs.History.{Command}
use Rattle.model.proofs.Schedules.{l, s, steps, dirty}

abbrev after : Memory → List Command → Memory
after m [] = m
after m (c ∷ cs) = after (command m c.process c.order c.value).1 cs

-- the lent word at i, after the commands; the set-up value has halves 5 (low) and 3 (high)
abbrev word_after : ℕ → List Command → ℕ
word_after i cs = get_or (after (set_up dirty 1 1 (12884901893 ∷ [])).1 cs).words i 0

-- Line 3 into the return area, word 3 of those lent. Then line 17, with the halves 6 and 4, into BUF[2], which holds the value from line 11.
pub half_moves :
    (word_after 3 (l 0 ++ steps 2 0) ≡ 0)
    × ((word_after 3 (l 0 ++ steps 3 0) ≡ 5)
    × ((word_after 3 (l 0 ++ steps 4 0) ≡ 12884901893)
    × ((word_after 2 (l 0 ++ steps 10 0 ++ s 1 0 17179869190 ++ steps 2 0) ≡ 12884901893)
    × ((word_after 2 (l 0 ++ steps 10 0 ++ s 1 0 17179869190 ++ steps 3 0) ≡ 12884901894)
    × (word_after 2 (l 0 ++ steps 10 0 ++ s 1 0 17179869190 ++ steps 4 0) ≡ 17179869190)))))
unfolding command refusal in_range step_at obey set_up set_up_refusal
half_moves = (refl, (refl, (refl, (refl, (refl, refl)))))
