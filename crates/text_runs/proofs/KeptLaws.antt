-- What the list of a text keeps of its entries runs as the whole does.
use mathlib.Core.Path.{◌≡◌, refl, sym, ap, ◌∙◌}
use mathlib.Core.Bool.{Bool, true, false, cond}
use mathlib.Core.List.{List, [], ◌∷◌, map}
use Prim.Native.Nat.{ℕ, zero, suc, ◌+◌, ◌-◌, ◌≤◌, ◌<◌}
use native.Mathlib.Omega.{arith}
use lib.Dec.{eqb, ltb, leb}
use lib.ListN.{length, take}
use borrow.Author.Tests.{eqb-true, eqb-false, leb-false, ne_eqb}
use Rattle.notation.specs.declared.Entry.{Entry}
use Rattle.notation.specs.declared.Entry.TheVariants.{StartLl, StartVl, StartSc, Step, Finish}
use Rattle.notation.specs.EntryWords.{kept_process, kept_entry}
use Rattle.text_runs.specs.Machines.{Machine}
use Rattle.text_runs.specs.TextRun.{most_entries, room_needed, process_of, order_of, value_of}
use Rattle.text_runs.specs.TextRun.{Progress, stopped, replied, commanded, single, unanswered, steps, finish, carry, carry_all}
use Rattle.text_runs.specs.StopPlaces.{stop_index}
use Rattle.text_runs.specs.KeptEntries.{FarRefused}
use Rattle.text_runs.specs.TrueTraces.{outcome}

-- what holds of both arms of a test, each where it is taken
pub either : {A : Type 0} (P : A → Type 0) (t : Bool) {a b : A} → (t ≡ true → P a) → (t ≡ false → P b) → P (cond t a b)
either P true f g = f refl
either P false f g = g refl

module _ (M : Machine) where
  -- what holds of a run that goes on after an entry that is one command: it went on before, fewer than 60,000 entries were done, and the command left it so
  single_goes : (e : Entry) (s : Progress M) (P : Progress M → Type 0)
      → (s.stop ≡ 0 → s.entries < most_entries → (commanded M e s).stop ≡ 0 → P (commanded M e s)) → (single M e s).stop ≡ 0 → P (single M e s)
  unfolding single
  single_goes e s P f =
      let Q : Progress M → Type 0 = λ x. x.stop ≡ 0 → P x in
      either Q (eqb s.stop 0) (λ q. either Q (leb most_entries s.entries) (λ l z. absurd (omega (arith, z))) (λ l.
      either Q (ltb (length s.listing - s.written) (room_needed s.traced)) (λ r z. absurd (omega (arith, z))) (λ r. f (eqb-true s.stop 0 q) (leb-false most_entries s.entries l))))
      (λ q z. absurd (eqb-false s.stop 0 q z))

  -- a run that goes on after an entry has done one more or several, and at most 60,000
  record More (s after : Progress M) : Type 0 where
    before : s.stop ≡ 0
    more : s.entries < after.entries
    few : after.entries ≤ most_entries

  abbrev Goes : Progress M → Progress M → Type 0
  Goes s after = after.stop ≡ 0 → More s after

  replied_more : (s : Progress M) (e : Entry) (out : M.Reply × M.Memory) → s.stop ≡ 0 → s.entries < most_entries → Goes s (replied M s e out)
  replied_more s e out b l =
      either (Goes s) (eqb (M.number_of out.0) 0) (λ q z. record { before = b; more = omega arith; few = omega (arith, l) }) (λ q z. absurd (eqb-false (M.number_of out.0) 0 q z))

  single_more : (e : Entry) (s : Progress M) → Goes s (single M e s)
  single_more e s = single_goes e s (More s) (replied_more s e (outcome M e s))

  -- steps M that go on have done none or several
  record Least (s after : Progress M) : Type 0 where
    before : s.stop ≡ 0
    least : s.entries ≤ after.entries
    few : s.entries ≤ most_entries → after.entries ≤ most_entries

  steps_least : (left p : ℕ) (s : Progress M) → (steps M left p s).stop ≡ 0 → Least s (steps M left p s)
  unfolding steps
  steps_least zero p s = λ z. record { before = z; least = omega arith; few = λ l. l }
  steps_least (suc left) p s =
      let one = single_more (Step p) s in
      either (λ (t : Progress M). t.stop ≡ 0 → Least s t) (unanswered M p (single M (Step p) s)) (λ q z.
      let b = steps_least left p (single M (Step p) s) z in
      let a = one b.before in record { before = a.before; least = omega (arith, a.more, b.least); few = λ l. b.few a.few })
      (λ q z. let a = one z in record { before = a.before; least = omega (arith, a.more); few = λ l. a.few })

  finish_more : (p : ℕ) (s : Progress M) → Goes s (finish M p s)
  unfolding steps
  finish_more p s =
      let one = single_more (Step p) s in
      either (Goes s) (unanswered M p (single M (Step p) s)) (λ q z.
      let b = steps_least (most_entries - s.entries) p (single M (Step p) s) z in
      let a = one b.before in record { before = a.before; more = omega (arith, a.more, b.least); few = b.few a.few })
      (λ q. one)

  carry_more : (e : Entry) (s : Progress M) → Goes s (carry M e s)
  unfolding carry
  carry_more (StartLl p) s = single_more (StartLl p) s
  carry_more (StartVl p) s = single_more (StartVl p) s
  carry_more (StartSc p k) s = single_more (StartSc p k) s
  carry_more (Step p) s = single_more (Step p) s
  carry_more (Finish p) s = either (Goes s) (eqb s.stop 0) (λ q. finish_more p s) (λ q z. absurd (eqb-false s.stop 0 q z))

  -- "After a refused entry nothing more runs."
  carry_stays : (e : Entry) (s : Progress M) → (s.stop ≡ 0 → ⊥) → carry M e s ≡ s
  unfolding carry single
  carry_stays (StartLl p) s n = simp (ne_eqb s.stop 0 n)
  carry_stays (StartVl p) s n = simp (ne_eqb s.stop 0 n)
  carry_stays (StartSc p k) s n = simp (ne_eqb s.stop 0 n)
  carry_stays (Step p) s n = simp (ne_eqb s.stop 0 n)
  carry_stays (Finish p) s n = simp (ne_eqb s.stop 0 n)

  pub all_stay : (es : List Entry) (s : Progress M) → (s.stop ≡ 0 → ⊥) → carry_all M es s ≡ s
  unfolding carry_all
  all_stay [] s n = refl
  all_stay (e ∷ es) s n = ap (carry_all M es) (carry_stays e s n) ∙ all_stay es s n

  index_stays : (es : List Entry) (s : Progress M) → (s.stop ≡ 0 → ⊥) → stop_index M es s ≡ 0
  unfolding stop_index
  index_stays [] s n = refl
  index_stays (e ∷ es) s n = let still : eqb (carry M e s).stop 0 ≡ false = ne_eqb (carry M e s).stop 0 (rw (carry_stays e s n) n) in simp still

  module _ (far : (m : M.Memory) → FarRefused M m) where
    far_commanded : (e : Entry) (s : Progress M) → 16 ≤ process_of e → commanded M e s ≡ stopped M (far s.memory).number s
    far_commanded e s h =
        let is = (far s.memory).refused (process_of e) (order_of e) (value_of (M.width s.memory) e) h in
        simp (is, ne_eqb (far s.memory).number 0 (far s.memory).some)

    -- so an entry of such a process stops the run, in one way for all of them
    far_single : (e e' : Entry) (s : Progress M) → 16 ≤ process_of e → 16 ≤ process_of e' → single M e s ≡ single M e' s
    unfolding single
    far_single e e' s h h' = rw (far_commanded e s h, far_commanded e' s h')

    far_stops : (e : Entry) (s : Progress M) → 16 ≤ process_of e → eqb (single M e s).stop 0 ≡ false
    far_stops e s h =
        let k : (far s.memory).number ≡ (commanded M e s).stop = ap (λ (x : Progress M). x.stop) (sym (far_commanded e s h)) in
        ne_eqb (single M e s).stop 0 (single_goes e s (λ x. ⊥) (λ b l z. (far s.memory).some (k ∙ z)))

    far_steps : (left p : ℕ) (s : Progress M) → 16 ≤ p → steps M left 16 s ≡ steps M left p s
    unfolding steps
    far_steps zero p s h = refl
    far_steps (suc left) p s h =
        simp (far_stops (Step 16) s (omega arith), far_stops (Step p) s h) (far_single (Step 16) (Step p) s (omega arith) h)

    kept_process_lem : (f : ℕ → Progress M) (p : ℕ) → (16 ≤ p → f 16 ≡ f p) → f (kept_process p) ≡ f p
    kept_process_lem f p far = either (λ x. f x ≡ f p) (leb p 15) (λ e. refl) (λ e. far (leb-false p 15 e))

    kept_carry : (e : Entry) (s : Progress M) → carry M (kept_entry e) s ≡ carry M e s
    unfolding carry
    kept_carry (StartLl p) s = kept_process_lem (λ x. single M (StartLl x) s) p (far_single (StartLl 16) (StartLl p) s (omega arith))
    kept_carry (StartVl p) s = kept_process_lem (λ x. single M (StartVl x) s) p (far_single (StartVl 16) (StartVl p) s (omega arith))
    kept_carry (StartSc p k) s = kept_process_lem (λ x. single M (StartSc x k) s) p (far_single (StartSc 16 k) (StartSc p k) s (omega arith))
    kept_carry (Step p) s = kept_process_lem (λ x. single M (Step x) s) p (far_single (Step 16) (Step p) s (omega arith))
    kept_carry (Finish p) s =
        kept_process_lem (λ x. carry M (Finish x) s) p (λ h. ap (λ (x : Progress M). cond (eqb s.stop 0) x s) (far_steps (suc (most_entries - s.entries)) p s h))

    -- so what is kept of the first k entries is enough where k and those done are more than 60,000, or k are all
    record Left (k all : ℕ) (s : Progress M) : Type 0 where
      few : s.entries ≤ most_entries
      enough : k + s.entries ≤ most_entries → all ≤ k

    left_next : {k all : ℕ} (e : Entry) {s : Progress M} → (s.stop ≡ 0 → Left (suc k) (suc all) s) → (carry M e s).stop ≡ 0 → Left k all (carry M e s)
    left_next {k} {all} e {s} h z =
        let m = carry_more e s z in
        record { few = m.few; enough = λ l. omega (arith, (h m.before).enough (omega (arith, m.more))) }

    left_none : {more : ℕ} {s : Progress M} → (s.stop ≡ 0 → Left 0 (suc more) s) → s.stop ≡ 0 → ⊥
    left_none h z = let x = h z in omega (arith, x.enough (omega (arith, x.few)))

    kept_first : (k : ℕ) (es : List Entry) (s : Progress M) → (s.stop ≡ 0 → Left k (length es) s)
        → carry_all M (map kept_entry (take k es)) s ≡ carry_all M es s
    unfolding carry_all
    kept_first zero [] s h = refl
    kept_first zero (e ∷ es) s h = sym (all_stay (e ∷ es) s (left_none h))
    kept_first (suc k) [] s h = refl
    kept_first (suc k) (e ∷ es) s h =
        ap (carry_all M (map kept_entry (take k es))) (kept_carry e s) ∙ kept_first k es (carry M e s) (left_next e h)

    -- and the run stops at the same entry
    kept_first_index : (k : ℕ) (es : List Entry) (s : Progress M) → (s.stop ≡ 0 → Left k (length es) s)
        → stop_index M (map kept_entry (take k es)) s ≡ stop_index M es s
    unfolding stop_index
    kept_first_index zero [] s h = refl
    kept_first_index zero (e ∷ es) s h = sym (index_stays (e ∷ es) s (left_none h))
    kept_first_index (suc k) [] s h = refl
    kept_first_index (suc k) (e ∷ es) s h =
        let next = carry M e s in
        ap (λ (x : Progress M). cond (eqb x.stop 0) (suc (stop_index M (map kept_entry (take k es)) x)) 0) (kept_carry e s)
        ∙ ap (λ (i : ℕ). cond (eqb next.stop 0) (suc i) 0) (kept_first_index k es next (left_next e h))

    -- what a list of k numbers keeps of a text runs as the whole does, where it lacks none or has more than 60,000: an
    -- entry after the 60,000th is 12 whatever it says, and a process number above 15 is refused alike
    module _ (k : ℕ) (es : List Entry) (enough : k ≤ most_entries → length es ≤ k) where
      at_first : {s : Progress M} → s.entries ≡ 0 → Left k (length es) s
      at_first z = record { few = omega (arith, z); enough = λ l. enough (omega (arith, z)) }

      pub kept_run : (s : Progress M) → s.entries ≡ 0 → carry_all M (map kept_entry (take k es)) s ≡ carry_all M es s
      kept_run s z = kept_first k es s (λ y. at_first z)

      pub kept_index : (s : Progress M) → s.entries ≡ 0 → stop_index M (map kept_entry (take k es)) s ≡ stop_index M es s
      kept_index s z = kept_first_index k es s (λ y. at_first z)
