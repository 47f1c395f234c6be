-- The history that model computes from the commands and the replies is that of the ghost machine: the same answered calls, the same open calls.
use mathlib.Core.Path.{◌≡◌, refl, sym, ap, ap₂, subst, ◌∙◌}
use mathlib.Core.Bool.{true}
use mathlib.Core.List.{List, [], ◌∷◌, ◌++◌, map}
use Prim.Native.Nat.{ℕ, suc, ◌≤◌, ◌<◌}
use native.Mathlib.Omega.{arith}
use native.Mathlib.Numerals.{add-one}
use lib.Dec.{ltb}
use lib.ListN.{length}
use Rattle.llsc.specs.declared.Order.{Order}
use Rattle.llsc.specs.declared.Order.TheVariants.{StartLl, StartSc, StartVl, Step}
use Rattle.model.specs.Sizes.{halves}
use Rattle.model.specs.Points.{Point, idle, line1, line2, line3, line4, line5, line6, line7, line7copy, line8, line9}
use Rattle.model.specs.Points.{line10, line11, line12, line12valid, line13, line14, line14valid, line15, line17, line18}
use Rattle.model.specs.Points.{line19, line23}
use Rattle.model.specs.Machine.{Memory}
use Rattle.model.specs.Command.{command}
use Rattle.llsc.specs.Answers.{Said}
use Rattle.llsc.specs.Object.{ll, sc, set_at}
use Rattle.llsc.specs.History.{Command, Slot, none, running, stepped, ordered, slot_after, slots_after, call_of, calls_from, slots_from}
use Rattle.model.specs.History.{event_of, events}
use Rattle.llsc.specs.Rows.{is_start, brings_value}
use Rattle.llsc.specs.Linearizable.{Timed}
use Rattle.laws.proofs.Updates.{Split, same, other, split, contra, ifb_eq, ifb_ne, by_test₂}
use Rattle.linearization.proofs.GhostMachine
use Rattle.linearization.proofs.GhostMachine.{Local, State}
use Rattle.linearization.proofs.WordLists.{words_of, cells}
use Rattle.linearization.proofs.GhostRuns.{exec, call_at, call_f, calls_f}
use Rattle.linearization.proofs.InvariantRuns.{execs}
use Rattle.linearization.proofs.Slots.{slot_of, slot_in, slot_after_step, SlotStep, slot_step, slot_start}
use Rattle.laws.proofs.ListFacts.{map_append}
use Rattle.linearization.proofs.ListFacts.{words_whole}
use Rattle.linearization.proofs.Simulation.{begun}
use Rattle.linearization.proofs.ReplySimulation.{said_at}
use Rattle.linearization.proofs.Outcome.{cmd_of, to_f, Outcome, refused_with, started, stepped as stepped_case}
use Rattle.linearization.proofs.GhostCommands.{silent_start, answers_step}
use Rattle.linearization.proofs.CommandRuns.{Holds, next_command, holds_after}

-- a process number below N has the machine's open call, any other none
pub record SlotsLike (N W : ℕ) (slots : ℕ → Slot) (z : State) : Type 0 where
  pub inside : (q : ℕ) → q < N → slots q ≡ slot_in W z q
  pub outside : (q : ℕ) → N ≤ q → slots q ≡ none

-- a step at the point y says what it does to its open call ..
module _ (W n : ℕ) (c : Command) (is_step : c.order ≡ Step) (st : ℕ) (w : List ℕ) (l : Local) where
  goes_on : (s : Slot) → ordered c.order n c.value s ≡ stepped s
  goes_on s = ap (λ o. ordered o n c.value s) is_step

  step_slot : (y : Point) → slot_after n c (said_at W y l) (slot_of y st l.count w) ≡ slot_after_step W y l.word (slot_of y st l.count w)
  step_slot idle = goes_on _
  step_slot line1 = goes_on _
  step_slot line2 = goes_on _
  step_slot line3 = goes_on _
  step_slot line4 = goes_on _
  step_slot line5 = goes_on _
  step_slot line6 = goes_on _
  step_slot line7 = goes_on _
  step_slot line7copy = goes_on _
  step_slot line8 = goes_on _
  step_slot line9 = goes_on _
  step_slot line10 = goes_on _
  step_slot line11 = by_test₂ (λ (t : Said) (u : Slot). slot_after n c t (running ll st l.count) ≡ u) (ltb (suc l.word) W) (λ _. goes_on _) (λ _. refl)
  step_slot line12 = goes_on _
  step_slot line12valid = goes_on _
  step_slot line13 = goes_on _
  step_slot line14 = goes_on _
  step_slot line14valid = goes_on _
  step_slot line15 = goes_on _
  step_slot line17 = goes_on _
  step_slot line18 = goes_on _
  step_slot line19 = refl
  step_slot line23 = refl

-- .. and which call it ends
module _ (N W n : ℕ) (c : Command) (z : State) where
  abbrev p : ℕ
  p = c.process

  step_call : (y : Point) → call_of n c (said_at W y (z.loc p)) (slot_of y (z.sh.start p) (z.loc p).count (words_of W (z.loc p).offered)) ≡ map (λ (t : Timed). t.call) (call_at N W y n p z)
  step_call idle = refl
  step_call line1 = refl
  step_call line2 = refl
  step_call line3 = refl
  step_call line4 = refl
  step_call line5 = refl
  step_call line6 = refl
  step_call line7 = refl
  step_call line7copy = refl
  step_call line8 = refl
  step_call line9 = refl
  step_call line10 = refl
  step_call line11 =
      by_test₂ (λ (t : Said) (us : List Timed). call_of n c t (running ll (z.sh.start p) (z.loc p).count) ≡ map (λ (t : Timed). t.call) us) (ltb (suc (z.loc p).word) W)
      (λ _. refl)
      (λ _. refl)
  step_call line12 = refl
  step_call line12valid = refl
  step_call line13 = refl
  step_call line14 = refl
  step_call line14valid = refl
  step_call line15 = refl
  step_call line17 = refl
  step_call line18 = refl
  step_call line19 = refl
  step_call line23 = refl

-- the slots after a command of p
module _ (N W p : ℕ) (hp : p < N) (slots : ℕ → Slot) (z z' : State) (new : Slot) where
  slots_after_is : SlotsLike N W slots z → SlotStep W p new z z' → SlotsLike N W (set_at p new slots) z'
  slots_after_is a b = record { inside = λ q hq. here q hq (split q p); outside = λ q hq. ifb_ne q p new (slots q) (λ e. omega arith) ∙ a.outside q hq }
    where
      here : (q : ℕ) → q < N → Split q p → set_at p new slots q ≡ slot_in W z' q
      here q hq (same e) = rw e (ifb_eq p p new (slots p) refl ∙ sym b.own)
      here q hq (other ne) = ifb_ne q p new (slots q) ne ∙ a.inside q hq ∙ sym (b.others q ne)

slots_kept : (N W p : ℕ) (slots : ℕ → Slot) (z : State) → SlotsLike N W slots z → SlotsLike N W (set_at p (slots p) slots) z
slots_kept N W p slots z a = record { inside = λ q hq. here q (split q p) ∙ a.inside q hq; outside = λ q hq. here q (split q p) ∙ a.outside q hq }
  where
    here : (q : ℕ) → Split q p → set_at p (slots p) slots q ≡ slots q
    here q (same e) = ifb_eq q p (slots p) (slots q) e ∙ ap slots (sym e)
    here q (other ne) = ifb_ne q p (slots p) (slots q) ne

-- a start opens the call that the command orders
started_slot : (W n : ℕ) (o : Order) (v : List ℕ) (s : Slot) (p : ℕ) (z : State) → is_start o ≡ true → (brings_value o ≡ true → length v ≡ W)
    → SlotStep (halves W) p (ordered o n v s) z (GhostMachine.noisy z p (GhostMachine.w_start p n z.sh) (λ l. l) (begun o v (z.loc p)))
started_slot W n StartLl v s p z e b = slot_start (halves W) p n line1 _ z
started_slot W n StartVl v s p z e b = slot_start (halves W) p n line23 _ z
started_slot W n StartSc v s p z e b =
    subst (λ w. SlotStep (halves W) p (running (sc w) n 0) z (GhostMachine.noisy z p (GhostMachine.w_start p n z.sh) (λ l. l) (begun StartSc v (z.loc p))))
    (words_whole W v (b refl)) (slot_start (halves W) p n line12 (cells v) z)
started_slot W n Step v s p z e b = absurd (contra e refl)

module _ (N W : ℕ) (h_w : 0 < halves W) where
  -- one command: the calls that it answers, and the open calls after it
  pub record Matched (n : ℕ) (m : Memory) (z : State) (slots : ℕ → Slot) (c : Command) : Type 0 where
    pub call : call_of n c (event_of m c).said (slots c.process) ≡ map (λ (t : Timed). t.call) (call_f N (halves W) n (to_f N W c) z)
    pub open_calls_lem : SlotsLike N (halves W) (slots_after n (event_of m c) slots) (exec N (halves W) n (to_f N W c) z)

  module _ (n : ℕ) (m : Memory) (z : State) (slots : ℕ → Slot) (h : Holds N W h_w n m z) (a : SlotsLike N (halves W) slots z) (c : Command) where
    matched_case : Outcome N W n m z c → Matched n m z slots c
    matched_case (refused_with k r) = record {
      call = ap (λ t. call_of n c t (slots c.process)) r.said ∙ sym (ap (map (λ (t : Timed). t.call)) r.silent);
      open_calls_lem = rw (r.said, r.follows) (slots_kept N (halves W) c.process slots z a);
    }
    matched_case (started r) = record {
      call = ap (λ t. call_of n c t (slots c.process)) r.said ∙ sym (ap (map (λ (t : Timed). t.call)) (silent_start N W n z c.process c.value c.order r.start));
      open_calls_lem = rw (r.said, r.follows) (slots_after_is N (halves W) c.process r.below slots z _ _ a
          (started_slot W n c.order c.value (slots c.process) c.process z r.start r.value));
    }
    matched_case (stepped_case r) = record {
      call = ap₂ (call_of n c) r.said (a.inside c.process r.below) ∙ step_call N (halves W) n c z (z.loc c.process).point ∙ sym (ap (map (λ (t : Timed). t.call)) answers);
      open_calls_lem = rw (r.said, a.inside c.process r.below, r.follows)
          (slots_after_is N (halves W) c.process r.below slots z _ _ a (subst (λ s. SlotStep (halves W) c.process s z (GhostMachine.step N (halves W) n c.process z))
          (sym (step_slot (halves W) n c r.step (z.sh.start c.process) (words_of (halves W) (z.loc c.process).offered) (z.loc c.process)
          (z.loc c.process).point)) (slot_step N (halves W) c.process n z)));
    }
      where
        answers : call_f N (halves W) n (to_f N W c) z ≡ call_at N (halves W) (z.loc c.process).point n c.process z
        answers = ap (λ o. call_f N (halves W) n (cmd_of N W c.process o c.value) z) r.step ∙ answers_step N W n z c.process c.value r.below

    matched : Matched n m z slots c
    matched = matched_case (next_command N W h_w n m z h c).outcome

  -- a list of commands
  pub calls_match : (cs : List Command) (n : ℕ) (m : Memory) (z : State) (slots : ℕ → Slot) → Holds N W h_w n m z → SlotsLike N (halves W) slots z
      → calls_from n (events m cs) slots ≡ map (λ (t : Timed). t.call) (calls_f N (halves W) n (map (to_f N W) cs) z)
  unfolding events calls_from calls_f
  calls_match [] n m z slots h a = refl
  calls_match (c ∷ cs) n m z slots h a =
      let k = matched n m z slots h a c in
      ap₂ ◌++◌ k.call (rw (add-one n) (calls_match cs (suc n) _ _ _ (holds_after N W h_w n m z h c) k.open_calls_lem))
      ∙ sym (map_append (λ (t : Timed). t.call) (call_f N (halves W) n (to_f N W c) z) (calls_f N (halves W) (suc n) (map (to_f N W) cs) (exec N (halves W) n (to_f N W c) z)))

  pub slots_match : (cs : List Command) (n : ℕ) (m : Memory) (z : State) (slots : ℕ → Slot) → Holds N W h_w n m z → SlotsLike N (halves W) slots z
      → SlotsLike N (halves W) (slots_from n (events m cs) slots) (execs N (halves W) n (map (to_f N W) cs) z)
  unfolding events slots_from
  slots_match [] n m z slots h a = a
  slots_match (c ∷ cs) n m z slots h a =
      subst (λ k. SlotsLike N (halves W) (slots_from k (events (command m c.process c.order c.value).1 cs) (slots_after n (event_of m c) slots))
      (execs N (halves W) n (map (to_f N W) (c ∷ cs)) z)) (sym (add-one n))
      (slots_match cs (suc n) _ _ _ (holds_after N W h_w n m z h c) (matched n m z slots h a c).open_calls_lem)
