-- A run goes on only by accepted entries, and may stop: what is so of each of them, on the memory that it finds, is so all
-- along the run. And where each line of a trace is true of its own command, so is a whole trace.
use mathlib.Core.Path.{◌≡◌, refl, sym, ap, subst, ◌∙◌}
use mathlib.Core.Bool.{Bool, true, false, cond}
use mathlib.Core.List.{List, [], ◌∷◌, ◌++◌}
use Prim.Native.Nat.{ℕ, zero, suc, ◌+◌, ◌-◌, ◌<◌}
use native.Mathlib.Omega.{arith}
use lib.Dec.{eqb, ltb, leb}
use lib.ListN.{length}
use lib.Seq.{sets}
use borrow.Author.Tests.{ne_eqb, leb-false}
use Rattle.notation.specs.declared.Entry.{Entry}
use Rattle.notation.specs.declared.Entry.TheVariants.{StartLl, StartVl, StartSc, Step, Finish}
use Rattle.text_runs.specs.Machines.{Machine}
use Rattle.text_runs.specs.TextRun.{most_entries, room_needed, process_of}
use Rattle.text_runs.specs.TextRun.{Progress, stopped, trace_line, lines_of, counted, commanded, single, unanswered, steps, carry, carry_all, begun}
use Rattle.text_runs.specs.TrueTraces.{outcome, TrueLine, Told, begins, writes, stops}
use Rattle.text_runs.proofs.SingleEntries.{made_commanded}

-- What a walk along a run asks: `Holds` is so of a run that is stopped, and of one after an accepted entry; and of such an
-- entry, with fewer than 60,000 done, `Line` is so.
pub record Walk (M : Machine) (Holds : Progress M → Type 0) (Line : Entry → Progress M → Type 0) : Type 0 where
  pub stopping : (k : ℕ) (t : Progress M) → Holds t → Holds (stopped M k t)
  pub keeping : (e : Entry) (t : Progress M) → Holds t → M.number_of (outcome M e t).0 ≡ 0 → Holds (commanded M e t)
  pub telling : (e : Entry) (t : Progress M) → Holds t → t.entries < most_entries → M.number_of (outcome M e t).0 ≡ 0 → Line e t

module _ (M : Machine) {Holds : Progress M → Type 0} {Line : Entry → Progress M → Type 0} (walk : Walk M Holds Line) (s : Progress M) where
  record Goes (t : Progress M) : Type 0 where
    told : Told M Line s t
    holds : Holds t

  halts : (k : ℕ) {t : Progress M} → Goes t → Goes (stopped M k t)
  halts k {t} g = record { told = stops g.told k; holds = walk.stopping k t g.holds }

  command_told : (e : Entry) {t : Progress M} → t.entries < most_entries → Goes t → Goes (commanded M e t)
  command_told e {t} few g = by (M.number_of (outcome M e t).0) refl
    where
      by : (k : ℕ) → M.number_of (outcome M e t).0 ≡ k → Goes (commanded M e t)
      by zero z = record { told = writes g.told e (walk.telling e t g.holds few z); holds = walk.keeping e t g.holds z }
      by (suc k) z =
          let halted : commanded M e t ≡ stopped M (M.number_of (outcome M e t).0) t = simp (ne_eqb (M.number_of (outcome M e t).0) 0 (λ y. omega (arith, y, z))) in
          subst Goes (sym halted) (halts (M.number_of (outcome M e t).0) g)

  single_told : (e : Entry) {t : Progress M} → Goes t → Goes (single M e t)
  unfolding single
  single_told e {t} g = by (eqb t.stop 0) (leb most_entries t.entries) refl (ltb (length t.listing - t.written) (room_needed t.traced))
    where
      by : (a b : Bool) → leb most_entries t.entries ≡ b → (c : Bool) → Goes (cond a (cond b (stopped M 12 t) (cond c (stopped M 14 t) (commanded M e t))) t)
      by false b l c = g
      by true true l c = halts 12 g
      by true false l true = halts 14 g
      by true false l false = command_told e (leb-false most_entries t.entries l) g

  either_told : (a : Bool) {t u : Progress M} → Goes t → Goes u → Goes (cond a t u)
  either_told true g f = g
  either_told false g f = f

  steps_told : (left p : ℕ) {t : Progress M} → Goes t → Goes (steps M left p t)
  unfolding steps
  steps_told zero p g = g
  steps_told (suc left) p {t} g = let next = single_told (Step p) g in either_told (unanswered M p (single M (Step p) t)) (steps_told left p next) next

  carry_told : (e : Entry) {t : Progress M} → Goes t → Goes (carry M e t)
  unfolding carry
  carry_told (StartLl p) g = single_told (StartLl p) g
  carry_told (StartVl p) g = single_told (StartVl p) g
  carry_told (StartSc p k) g = single_told (StartSc p k) g
  carry_told (Step p) g = single_told (Step p) g
  carry_told (Finish p) {t} g = either_told (eqb t.stop 0) (steps_told _ p g) g

  all_told : (es : List Entry) {t : Progress M} → Goes t → Goes (carry_all M es t)
  unfolding carry_all
  all_told [] g = g
  all_told (e ∷ es) g = all_told es (carry_told e g)

  -- the entries of any text
  pub walked : (es : List Entry) → Holds s → Told M Line s (carry_all M es s)
  walked es h = let first : Goes s = record { told = begins; holds = h } in (all_told es first).told

-- What makes every line true: `Inv` is kept by an accepted command of an entry, and `True` is so of such a command on a
-- memory with it.
pub record Truthful (M : Machine) (Inv : M.Memory → Type 0) (True : Entry → M.Memory → M.Reply × M.Memory → Type 0) : Type 0 where
  pub kept : (e : Entry) (s : Progress M) → Inv s.memory → M.number_of (outcome M e s).0 ≡ 0 → Inv (outcome M e s).1
  pub true_of : (e : Entry) (s : Progress M) → Inv s.memory → M.number_of (outcome M e s).0 ≡ 0 → True e s.memory (outcome M e s)

module _ (M : Machine) {Inv : M.Memory → Type 0} {True : Entry → M.Memory → M.Reply × M.Memory → Type 0} (h : Truthful M Inv True) where
  -- a traced run on such a memory
  record Traced (s : Progress M) : Type 0 where
    traced : s.traced ≡ true
    inv : Inv s.memory

  module _ (e : Entry) (s : Progress M) (g : Traced s) (z : M.number_of (outcome M e s).0 ≡ 0) where
    goes_on : commanded M e s ≡ counted M s (outcome M e s).1 (lines_of M s e (outcome M e s))
    goes_on = made_commanded M e s z

    line_is_true : TrueLine M True e s
    line_is_true =
        let answer = M.line_of (outcome M e s).1 (process_of e) (outcome M e s).0 in
        let lines = ap (λ (t : Bool). cond t (trace_line M (s.entries + 1) s.memory e (outcome M e s).0) [] ++ answer) g.traced in
        record {
          accepted = z;
          written = ap (λ (t : Progress M). t.listing) goes_on ∙ ap (sets s.listing s.written) lines;
          left = ap (λ (t : Progress M). t.memory) goes_on;
          truth = h.true_of e s g.inv z;
        }

    still_traced : Traced (commanded M e s)
    still_traced = record {
      traced = ap (λ (t : Progress M). t.traced) goes_on ∙ g.traced;
      inv = subst Inv (sym line_is_true.left) (h.kept e s g.inv z);
    }

  walks : Walk M Traced (TrueLine M True)
  walks = record {
    stopping = λ k t g. record { traced = g.traced; inv = g.inv };
    keeping = still_traced;
    telling = λ e t g few z. line_is_true e t g z;
  }

  -- over the entries of any text, from a memory with `Inv` on
  pub trace_told : (m : M.Memory) → Inv m → (listing : List ℕ) (es : List Entry)
      → Told M (TrueLine M True) (begun M true m listing 0) (carry_all M es (begun M true m listing 0))
  trace_told m i listing es = walked M walks (begun M true m listing 0) es (record { traced = refl; inv = i })
