-- What a `!` comes to: two statements about `TextRun`, which has no number of steps for it (CR 11: "The guard on `!`
-- comes out").
use Rattle.std.specs.Prelude.{◌≡◌, cond, List, ℕ, ◌+◌, ◌≤◌}
use Rattle.model.specs.Machine.{Memory, Shaped}
use Rattle.model.specs.SetUp.{set_up}
use Rattle.llsc.specs.Object.{Kind}
use Rattle.llsc.specs.History.{Command, running, slots}
use Rattle.model.specs.History.{events}
use Rattle.model.specs.Linearizable.{largest}
use Rattle.after_commands.specs.After.{after}
use Rattle.notation.specs.declared.Entry.TheVariants.{Step, Finish}
use Rattle.text_model.specs.TextRun.{Progress, single, unanswered, finish, carry}

-- "`!` is steps until the call answers, at least one": a step, and where it did not answer, the same again.
abbrev pub UntilAnswered : Type 0
UntilAnswered = (p : ℕ) (s : Progress)
    → finish p s ≡ cond (unanswered p (single (Step p) s)) (finish p (single (Step p) s)) (single (Step p) s)

-- "the step counts say": after any set-up and any commands a `!` makes at most as many entries as the kind of its call
-- allows. With the steps that the open call of p has had they are no more than its kind's largest count.
abbrev pub FinishBounded : Type 0
FinishBounded =
    (m : Memory) → Shaped m → (n w : ℕ) (value : List ℕ) (cs : List Command) → (set_up m n w value).0 ≡ 0
    → (s : Progress) → s.memory ≡ after (set_up m n w value).1 cs
    → (p : ℕ) (kind : Kind) (start steps : ℕ) → slots (events (set_up m n w value).1 cs) p ≡ running kind start steps
    → (carry (Finish p) s).entries + steps ≤ s.entries + largest w kind
