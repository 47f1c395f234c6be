-- What a `!` comes to: steps until its call answers, and no more of them than the kind of its call allows.
use mathlib.Core.Path.{◌≡◌, refl, sym, ap, subst, ◌∙◌}
use mathlib.Core.Bool.{Bool, true, false, cond}
use mathlib.Core.List.{[]}
use Prim.Native.Nat.{ℕ, zero, suc, ◌+◌, ◌-◌, ◌≤◌, ◌<◌}
use native.Mathlib.Omega.{arith}
use lib.Dec.{eqb}
use borrow.Author.Tests.{eq-eqb, ne_eqb}
use Rattle.llsc.specs.declared.Order.TheVariants as order
use Rattle.model.specs.Machine.{Memory}
use Rattle.model.specs.Linearizable.{largest, OpenCounted}
use Rattle.notation.specs.declared.Entry.TheVariants.{Step}
use Rattle.text_model.specs.Reached.{Reached}
use Rattle.text_runs.specs.TextRun.{most_entries}
use Rattle.text_runs.specs.TextRun as TR
use Rattle.text_model.specs.TextRun.{figure2, Progress, lines_of, counted, single, unanswered, steps, finish}
use Rattle.text_laws.specs.Finishing.{UntilAnswered, FinishBounded}
use Rattle.text_model.proofs.ReachedLaws.{reached_command}
use Rattle.text_laws.proofs.AcceptedSteps.{unrefused, stepped_busy}
use Rattle.text_laws.proofs.OpenCalls.{Open, open_in, open_fewer, busy_open, reached_n, one_step_more}
use Rattle.text_runs.proofs.UntilAnswered as R
use Rattle.text_runs.proofs.UntilAnswered.{busy_after}
use Rattle.text_runs.specs.TrueTraces.{outcome}
use Rattle.text_runs.proofs.SingleEntries.{Made, single_made, single_entries}

-- the run after an accepted step of p
abbrev next : ℕ → Progress → Progress
next p s = counted s (outcome figure2 (Step p) s).1 (lines_of s (Step p) (outcome figure2 (Step p) s))

-- a further step follows: the step was accepted, and left p busy
record Further (p : ℕ) (s : Progress) (r : Reached s.memory) : Type 0 where
  made : Made figure2 (Step p) s
  open_call_is : Open (open_in (reached_command r p order.Step []) p)

module _ (p : ℕ) (s : Progress) (r : Reached s.memory) (z : s.stop ≡ 0) where
  further : unanswered p (single (Step p) s) ≡ true → Further p s r
  unfolding reached_command
  further e =
      let made = single_made figure2 (Step p) s z (busy_after figure2 p (single (Step p) s) e).0 in
      let busy = (busy_after figure2 p (next p s) (ap (unanswered p) (sym made.is) ∙ e)).1 in
      let r' = reached_command r p order.Step [] in
      let below = (stepped_busy r p (unrefused s.memory p order.Step [] made.accepted)).0 in
      let sized : (outcome figure2 (Step p) s).1.bench.n ≡ s.memory.bench.n = reached_n r' ∙ sym (reached_n r) in
      record { made = made; open_call_is = busy_open r' p (omega (arith, below, sized)) busy }

-- a step, and where it did not answer, the same again
pub until_answered : UntilAnswered
until_answered p s = R.until_answered figure2 p s

open_counts : {m : Memory} (r : Reached m) (p : ℕ) (o : Open (open_in r p)) → o.steps < largest r.w o.kind
open_counts r p o = subst (OpenCounted r.w) o.is (open_fewer r p)

-- so many steps, by induction
steps_bounded : (left p : ℕ) (s : Progress) (r : Reached s.memory) → s.stop ≡ 0 → (o : Open (open_in r p)) → (steps left p s).entries + o.steps ≤ s.entries + largest r.w o.kind
unfolding TR.steps reached_command
steps_bounded zero p s r z o = omega (arith, open_counts r p o)
steps_bounded (suc left) p s r z o = by (steps_bounded left p (next p s) (reached_command r p order.Step []) refl) (unanswered p (single (Step p) s)) refl
  where
    by : ((o' : Open (open_in (reached_command r p order.Step []) p)) → (steps left p (next p s)).entries + o'.steps ≤ s.entries + 1 + largest r.w o'.kind)
        → (a : Bool) → unanswered p (single (Step p) s) ≡ a
        → (cond a (steps left p (single (Step p) s)) (single (Step p) s)).entries + o.steps ≤ s.entries + largest r.w o.kind
    by rest false e = omega (arith, open_counts r p o, single_entries figure2 (Step p) s)
    by rest true e =
        let f = further p s r z e in
        let more = one_step_more r p (unrefused s.memory p order.Step [] f.made.accepted) o f.open_call_is in
        let most = rest (record { kind = o.kind; start = o.start; steps = o.steps + 1; is = more }) in
        let same : (steps left p (single (Step p) s)).entries ≡ (steps left p (next p s)).entries = ap (λ (t : Progress). (steps left p t).entries) f.made.is in
        omega (arith, most, same)

pub finish_bounded : FinishBounded
unfolding TR.carry
finish_bounded m shaped n w value cs e s is p kind start count slot = by s.stop refl
  where
    r : Reached s.memory
    r = record { lent = m; shaped = shaped; n = n; w = w; value = value; accepted = e; commands = cs; is = is }

    o : Open (open_in r p)
    o = record { kind = kind; start = start; steps = count; is = slot }

    by : (k : ℕ) → s.stop ≡ k → (cond (eqb s.stop 0) (finish p s) s).entries + count ≤ s.entries + largest w kind
    by zero z = simp (eq-eqb s.stop 0 z) (steps_bounded (suc (most_entries - s.entries)) p s r z o)
    by (suc k) z = simp (ne_eqb s.stop 0 (λ y. omega (arith, y, z))) (omega (arith, open_counts r p o))
