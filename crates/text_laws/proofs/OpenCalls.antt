-- The open calls of memory that a set-up and commands have made. A busy process has one, with fewer steps than its kind's
-- largest (promise 3), and a step that leaves its process busy gives it one step more.
use mathlib.Core.Path.{◌≡◌, refl, sym, ap, subst, ◌∙◌}
use mathlib.Core.Bool.{Bool, true, false, cond}
use mathlib.Core.List.{List, [], ◌∷◌, ◌++◌, map}
use Prim.Native.Nat.{ℕ, suc, ◌+◌, ◌<◌}
use native.Mathlib.Nat.{add-zero}
use native.Mathlib.Omega.{arith}
use lib.Dec.{eqb, ltb}
use lib.ListN.{length}
use borrow.Author.Tests.{eq-eqb}
use Rattle.model.specs.declared.Process.{Process}
use Rattle.llsc.specs.declared.Order.TheVariants as order
use Rattle.model.specs.Sizes.{halves}
use Rattle.model.specs.Points.{Point, line_number, idle, line1, line2, line3, line4, line5, line6, line7, line7copy, line8, line9, line10}
use Rattle.model.specs.Points.{line11, line12, line12valid, line13, line14, line14valid, line15, line17, line18, line19, line23}
use Rattle.model.specs.Records.{record_at}
use Rattle.model.specs.Machine.{Memory}
use Rattle.model.specs.Refusals.{is_idle}
use Rattle.model.specs.Command.{command, refusal}
use Rattle.model.specs.SetUp.{set_up}
use Rattle.llsc.specs.Answers.{Said, Answer, accepted, answered}
use Rattle.llsc.specs.Object.{Kind, ll, sc, vl}
use Rattle.llsc.specs.History.{Command, Slot, none, running, slot_after, slots_after, slots_from, slots}
use Rattle.model.specs.History.{event_of, events}
use Rattle.model.specs.Linearizable.{OpenCounted}
use Rattle.after_commands.specs.After.{after}
use Rattle.linearization.proofs.Theorems.{promise_3}
use Rattle.linearization.proofs.GhostMachine.{Local, State}
use Rattle.linearization.proofs.GhostRuns.{setup}
use Rattle.linearization.proofs.InvariantRuns.{number_after, execs}
use Rattle.linearization.proofs.WordLists.{cells}
use Rattle.linearization.proofs.Slots.{slot_of}
use Rattle.linearization.proofs.SetUpSimulation.{set_up_halves}
use Rattle.linearization.proofs.ReplySimulation.{said_at}
use Rattle.linearization.proofs.Outcome.{to_f, Outcome, refused_with, started, stepped}
use Rattle.linearization.proofs.CommandRuns.{Holds, next_command, set_up_holds, holds_along}
use Rattle.linearization.proofs.Histories.{SlotsLike, slots_match}
use Rattle.text_model.specs.Reached.{Reached}
use Rattle.text_model.proofs.ReachedLaws.{reached_command}

-- a call that is open
pub record Open (s : Slot) : Type 0 where
  pub kind : Kind
  pub start : ℕ
  pub steps : ℕ
  pub is : s ≡ running kind start steps

as_kind : (k : Kind) (st c : ℕ) → Open (running k st c)
as_kind k st c = record { kind = k; start = st; steps = c; is = refl }

-- every point but idle is inside a call
slot_open : (y : Point) (st c : ℕ) (v : List ℕ) → (y ≡ idle → ⊥) → Open (slot_of y st c v)
slot_open idle st c v n = absurd (n refl)
slot_open line1 st c v n = as_kind ll st c
slot_open line2 st c v n = as_kind ll st c
slot_open line3 st c v n = as_kind ll st c
slot_open line4 st c v n = as_kind ll st c
slot_open line5 st c v n = as_kind ll st c
slot_open line6 st c v n = as_kind ll st c
slot_open line7 st c v n = as_kind ll st c
slot_open line7copy st c v n = as_kind ll st c
slot_open line8 st c v n = as_kind ll st c
slot_open line9 st c v n = as_kind ll st c
slot_open line10 st c v n = as_kind ll st c
slot_open line11 st c v n = as_kind ll st c
slot_open line12 st c v n = as_kind (sc v) st c
slot_open line12valid st c v n = as_kind (sc v) st c
slot_open line13 st c v n = as_kind (sc v) st c
slot_open line14 st c v n = as_kind (sc v) st c
slot_open line14valid st c v n = as_kind (sc v) st c
slot_open line15 st c v n = as_kind (sc v) st c
slot_open line17 st c v n = as_kind (sc v) st c
slot_open line18 st c v n = as_kind (sc v) st c
slot_open line19 st c v n = as_kind (sc v) st c
slot_open line23 st c v n = as_kind vl st c

-- a step goes on or answers
data SaysStep : Said → Type 0 where
  goes : SaysStep accepted
  answers : (a : Answer) (n : ℕ) → SaysStep (answered a n)

either : (t : Bool) (a : Answer) (n : ℕ) → SaysStep (cond t accepted (answered a n))
either true a n = goes
either false a n = answers a n

says_step : (W : ℕ) (y : Point) (f : Local) → SaysStep (said_at W y f)
says_step W idle f = goes
says_step W line1 f = goes
says_step W line2 f = goes
says_step W line3 f = goes
says_step W line4 f = goes
says_step W line5 f = goes
says_step W line6 f = goes
says_step W line7 f = goes
says_step W line7copy f = goes
says_step W line8 f = goes
says_step W line9 f = goes
says_step W line10 f = goes
says_step W line11 f = either (ltb (suc f.word) W) _ _
says_step W line12 f = goes
says_step W line12valid f = goes
says_step W line13 f = goes
says_step W line14 f = goes
says_step W line14valid f = goes
says_step W line15 f = goes
says_step W line17 f = goes
says_step W line18 f = goes
says_step W line19 f = answers _ _
says_step W line23 f = answers _ _

-- the open calls with one command more
slots_more : (k : ℕ) (m : Memory) (cs : List Command) (c : Command) (f : ℕ → Slot)
    → slots_from k (events m (cs ++ c ∷ [])) f ≡ slots_after (k + length cs) (event_of (after m cs) c) (slots_from k (events m cs) f)
unfolding events slots_from after
slots_more k m [] c f = ap (λ (i : ℕ). slots_after i (event_of m c) f) (sym (add-zero k))
slots_more k m (d ∷ cs) c f =
    let e = event_of m d in let next = (command m d.process d.order d.value).1 in
    let number : k + 1 + length cs ≡ k + suc (length cs) = omega arith in
    slots_more (k + 1) next cs c (slots_after k e f)
    ∙ ap (λ (i : ℕ). slots_after i (event_of (after next cs) c) (slots_from (k + 1) (events next cs) (slots_after k e f))) number

-- the open call of process p, from the commands and what their replies said
abbrev pub open_in : {m : Memory} → Reached m → ℕ → Slot
open_in r p = slots (events (set_up r.lent r.n r.w r.value).1 r.commands) p

module _ {m : Memory} (r : Reached m) where
  abbrev first : Memory
  first = (set_up r.lent r.n r.w r.value).1

  wide : 0 < halves r.w
  wide = set_up_halves r.lent r.n r.w r.value r.accepted

  abbrev ghost : State
  ghost = execs r.n (halves r.w) 1 (map (to_f r.n r.w) r.commands) (setup r.n (halves r.w) (cells r.value))

  abbrev number : ℕ
  number = number_after 1 (map (to_f r.n r.w) r.commands)

  holds : Holds r.n r.w wide number (after first r.commands) ghost
  holds = holds_along r.lent r.shaped r.n r.w r.value r.accepted wide r.commands

  like : SlotsLike r.n (halves r.w) (slots (events first r.commands)) ghost
  like =
      slots_match r.n r.w wide r.commands 1 _ _ _ (set_up_holds r.lent r.shaped r.n r.w r.value r.accepted wide)
      (record { inside = λ q hq. refl; outside = λ q hq. refl })

  pub reached_n : m.bench.n ≡ r.n
  reached_n = ap (λ (x : Memory). x.bench.n) r.is ∙ holds.related.n

  -- "open calls have fewer than their kind's largest"
  pub open_fewer : (p : ℕ) → OpenCounted r.w (open_in r p)
  open_fewer p = (promise_3 r.lent r.shaped r.n r.w r.value r.commands r.accepted).open_counted p

  -- a busy process has an open call
  pub busy_open : (p : ℕ) → p < m.bench.n → is_idle (record_at m.records (record { 0 = p })) ≡ false → Open (open_in r p)
  busy_open p h b =
      let below : p < r.n = omega (arith, h, reached_n) in
      let line : (record_at m.records (record { 0 = p })).line ≡ line_number (ghost.loc p).point =
      ap (λ (x : Memory). (record_at x.records (record { 0 = p })).line) r.is ∙ ap (λ (x : Process). x.line) (holds.related.process p below) in
      let busy : (ghost.loc p).point ≡ idle → ⊥ = λ e. not_both b (ap (λ (k : ℕ). eqb k 0) (line ∙ ap line_number e)) in
      subst Open (sym (like.inside p below)) (slot_open (ghost.loc p).point _ _ _ busy)
    where
      not_both : {t : Bool} → t ≡ false → t ≡ true → ⊥
      not_both x y = let zero_one : ◌≡◌ {A = ℕ} 0 1 = ap (λ (t : Bool). cond t 1 0) (sym x ∙ y) in omega arith

  -- a step of p that no row refuses
  module _ (p : ℕ) (z : refusal m p order.Step [] ≡ 0) where
    abbrev c : Command
    c = record { process = p; order = order.Step; value = [] }

    abbrev after_step : Reached (command m p order.Step []).1
    after_step = reached_command r p order.Step []

    said_step : SaysStep (event_of (after first r.commands) c).said
    said_step = by (next_command r.n r.w wide _ _ _ holds c).outcome
      where
        free : refusal (after first r.commands) p order.Step [] ≡ 0
        free = ap (λ (x : Memory). refusal x p order.Step []) (sym r.is) ∙ z

        by : Outcome r.n r.w number (after first r.commands) ghost c → SaysStep (event_of (after first r.commands) c).said
        by (refused_with k x) = absurd (x.not_0 (sym x.number ∙ free))
        by (started x) = let zero_one : ◌≡◌ {A = ℕ} 0 1 = ap (λ (t : Bool). cond t 1 0) x.start in absurd (let w : ⊥ = omega arith in w)
        by (stepped x) = subst SaysStep (sym x.said) (says_step (halves r.w) (ghost.loc p).point (ghost.loc p))

    -- its slot after what the step said
    abbrev after_said : Said → Slot
    after_said t = slot_after (1 + length r.commands) c t (open_in r p)

    own_slot : open_in after_step p ≡ after_said (event_of (after first r.commands) c).said
    unfolding reached_command
    own_slot = ap (λ (f : ℕ → Slot). f p) (slots_more 1 first r.commands c (λ q. none))
        ∙ ap (λ (t : Bool). cond t (after_said (event_of (after first r.commands) c).said) (open_in r p)) (eq-eqb p p refl)

    -- where it leaves p busy, the same call has one step more
    pub one_step_more : (o : Open (open_in r p)) → Open (open_in after_step p) → open_in after_step p ≡ running o.kind o.start (o.steps + 1)
    one_step_more o n = own_slot ∙ by said_step (subst Open own_slot n)
      where
        by : {t : Said} → SaysStep t → Open (after_said t) → after_said t ≡ running o.kind o.start (o.steps + 1)
        by goes x = rw o.is refl
        by (answers a k) x = closed x.is
          where
            tag : Slot → ℕ
            tag none = 0
            tag (running k s i) = 1

            closed : {k : Kind} {s i : ℕ} {A : Type 0} → none ≡ running k s i → A
            closed e = let zero_one : ◌≡◌ {A = ℕ} 0 1 = ap tag e in absurd (let w : ⊥ = omega arith in w)
