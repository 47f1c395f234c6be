-- What the events after a set-up are does not depend on what the lent memory held.
use mathlib.Core.Path.{◌≡◌, refl, sym, ap, ap₂, ◌∙◌}
use mathlib.Core.List.{List, [], ◌∷◌}
use Prim.Native.Nat.{ℕ, suc, ◌<◌}
use native.Mathlib.Omega.{arith}
use native.Mathlib.Decide.{dec_lt}
use borrow.Author.Tests.{le-leb}
use Rattle.model.specs.Sizes.{halves}
use Rattle.model.specs.Machine.{Memory, Shaped}
use Rattle.llsc.specs.Rows.{is_start}
use Rattle.model.specs.Command.{refusal}
use Rattle.model.specs.SetUp.{set_up}
use Rattle.llsc.specs.Answers.{Said, refused}
use Rattle.llsc.specs.History.{Command}
use Rattle.model.specs.History.{event_of, events}
use Rattle.laws.proofs.Updates.{contra}
use Rattle.linearization.proofs.GhostMachine.{State}
use Rattle.linearization.proofs.InRange.{counts_in}
use Rattle.linearization.proofs.Outcome.{Outcome, refused_with, started, stepped}
use Rattle.linearization.proofs.CommandSimulation.{too_high, tests}
use Rattle.linearization.proofs.CommandRuns.{Holds, next_command, holds_after, set_up_holds}

module _ (N W : ℕ) (h_w : 0 < halves W) (k : ℕ) (m m' : Memory) (z : State) (h : Holds N W h_w k m z) (h' : Holds N W h_w k m' z) (c : Command) where
  refusal_same : refusal m c.process c.order c.value ≡ refusal m' c.process c.order c.value
  refusal_same = go (dec_lt c.process N)
    where
      go : Dec (c.process < N) → refusal m c.process c.order c.value ≡ refusal m' c.process c.order c.value
      go (yes b) =
          tests N W k m z h.related h.range (counts_in N W h_w k z h.inv h.count) h.place c.process b c.order c.value
          ∙ sym (tests N W k m' z h'.related h'.range (counts_in N W h_w k z h'.inv h'.count) h'.place c.process b c.order c.value)
      go (no b) =
          too_high N W k m z h.related h.range (counts_in N W h_w k z h.inv h.count) h.place c.process c.order c.value (le-leb N c.process (omega arith))
          ∙ sym (too_high N W k m' z h'.related h'.range (counts_in N W h_w k z h'.inv h'.count) h'.place c.process c.order c.value (le-leb N c.process (omega arith)))

  said_same : Outcome N W k m z c → Outcome N W k m' z c → (event_of m c).said ≡ (event_of m' c).said
  said_same (refused_with i r) (refused_with j s) = r.said ∙ ap refused (sym r.number ∙ refusal_same ∙ s.number) ∙ sym s.said
  said_same (refused_with i r) (started s) = absurd (r.not_0 (sym r.number ∙ refusal_same ∙ s.number))
  said_same (refused_with i r) (stepped s) = absurd (r.not_0 (sym r.number ∙ refusal_same ∙ s.number))
  said_same (started r) (refused_with j s) = absurd (s.not_0 (sym s.number ∙ sym refusal_same ∙ r.number))
  said_same (started r) (started s) = r.said ∙ sym s.said
  said_same (started r) (stepped s) = absurd (contra r.start (ap is_start s.step))
  said_same (stepped r) (refused_with j s) = absurd (s.not_0 (sym s.number ∙ sym refusal_same ∙ r.number))
  said_same (stepped r) (started s) = absurd (contra s.start (ap is_start r.step))
  said_same (stepped r) (stepped s) = r.said ∙ sym s.said

  event_same : event_of m c ≡ event_of m' c
  event_same = ap (λ (t : Said). record { command = c; said = t }) (said_same (next_command N W h_w k m z h c).outcome (next_command N W h_w k m' z h' c).outcome)

events_same : (N W : ℕ) (h_w : 0 < halves W) (cs : List Command) (k : ℕ) (m m' : Memory) (z : State) → Holds N W h_w k m z → Holds N W h_w k m' z → events m cs ≡ events m' cs
unfolding events
events_same N W h_w [] k m m' z h h' = refl
events_same N W h_w (c ∷ cs) k m m' z h h' =
    let after = holds_after N W h_w k m z h c in let after' = holds_after N W h_w k m' z h' c in
    ap₂ ◌∷◌ (event_same N W h_w k m m' z h h' c) (events_same N W h_w cs (suc k) _ _ _ after after')

pub any_memory : (m m' : Memory) → Shaped m → Shaped m' → (n w : ℕ) (value : List ℕ) → 0 < halves w → (set_up m n w value).0 ≡ 0 → (set_up m' n w value).0 ≡ 0
    → (cs : List Command) → events (set_up m n w value).1 cs ≡ events (set_up m' n w value).1 cs
any_memory m m' s s' n w value h_w e e' cs = events_same n w h_w cs 1 _ _ _ (set_up_holds m s n w value e h_w) (set_up_holds m' s' n w value e' h_w)
