-- A turn of the run's loop, on any bench: the entry made, refused or not yet over.
use mathlib.Core.Path.{◌≡◌, sym, ap, subst, ◌∙◌}
use mathlib.Core.Bool.{Bool, true, false, cond}
use mathlib.Core.List.{List}
use Prim.Native.Nat.{ℕ, ◌+◌, ◌≤◌, ◌<◌}
use native.Mathlib.Omega.{arith}
use lib.Dec.{eqb}
use lib.ListN.{length, get_or, length-map, get_or-map}
use Rattle.notation.specs.declared.Entry.{Entry}
use Rattle.notation.specs.declared.Entry.TheVariants.{StartLl, StartVl, StartSc, Step, Finish}
use Rattle.notation.specs.Grammar.{largest}
use Rattle.notation.specs.EntryWords.{entry_in, entry_of_kind, kind_in, process_in, number_in}
use Rattle.notation.specs.Stretches.{Small}
use Rattle.text_runs.specs.Machines.{Machine}
use Rattle.text_runs.specs.TextRun.{Progress, most_entries, single}
use Rattle.text_runs.specs.KeptEntries.{entries_in}
use Rattle.listing.specs.declared.Writer.{Writer}
use Rattle.whole_runs.specs.Carrying.{Kept, Over, gone_on}
use Rattle.text_runs.proofs.SingleEntries.{single_made}
use Rattle.whole_runs.proofs.MiddleLaws.{Middle, middle_none, middle_all, middle_refused, middle_over, middle_further}

-- the numbers of a kept entry are small
either_small : (t : Bool) (a b : Entry) → Small a → Small b → Small (cond t a b)
either_small true a b x y = x
either_small false a b x y = y

kind_small : (kind p k : ℕ) → p ≤ largest → k ≤ largest → Small (entry_of_kind kind p k)
kind_small kind p k x y =
    either_small (eqb kind 0) (StartLl p) _ x (either_small (eqb kind 1) (StartVl p) _ x (either_small (eqb kind 2) (StartSc p k) _ (x, y) (either_small (eqb kind 3) (Step p) (Finish p) x x)))

kept_small : (word : ℕ) → Small (entry_in word)
unfolding entry_in
kept_small word = kind_small (kind_in word) (process_in word) (number_in word) (omega arith) (omega arith)

pub kept_as : (e : Entry) (word : ℕ) → e ≡ entry_in word → Small e
kept_as e word q = subst Small (sym q) (kept_small word)

-- as much is lent as before, after two turns
pub kept_then : {ws ws₁ ws₂ : List ℕ} {to to₁ to₂ : Writer} → Kept ws to ws₁ to₁ → Kept ws₁ to₁ ws₂ to₂ → Kept ws to ws₂ to₂
kept_then p q = record { words = q.words ∙ p.words; listing = q.listing ∙ p.listing; same = q.same ∙ p.same }

-- at the head of the loop
pub record Turning (M : Machine) (kept : List ℕ) (first : Progress M) (at : ℕ) (s : Progress M) : Type 0 where
  pub middle : Middle M (entries_in kept) first at s
  pub goes : s.stop ≡ 0

-- before the first entry
pub turning_none : (M : Machine) (kept : List ℕ) (s : Progress M) → s.stop ≡ 0 → Turning M kept s 0 s
turning_none M kept s z = record { middle = middle_none M (entries_in kept) s; goes = z }

-- behind the last entry
pub turning_all : (M : Machine) {kept : List ℕ} {at : ℕ} {first s : Progress M} → Turning M kept first at s → length kept ≤ at → Over M (entries_in kept) first at s
turning_all M {kept} t l = middle_all M t.middle (omega (arith, length-map kept entry_in, l))

module _ (M : Machine) {kept : List ℕ} {at : ℕ} {first s : Progress M} (t : Turning M kept first at s) (more : at < length kept) {e : Entry} (ee : e ≡ entry_in (get_or kept at 0))
    {s' : Progress M} (es : s' ≡ single M e s) where
  -- a run that goes on has done one entry more
  pub turn_more : s'.stop ≡ 0 → (s.entries < s'.entries) × (s'.entries ≤ most_entries)
  turn_more z =
      let made = single_made M e s t.goes (ap (λ (x : Progress M). x.stop) (sym es) ∙ z) in
      let one : s'.entries ≡ s.entries + 1 = ap (λ (x : Progress M). x.entries) (es ∙ made.is) in
      (omega (arith, one), omega (arith, one, made.fewer))

  here : e ≡ get_or (entries_in kept) at (entry_in 0)
  here = ee ∙ sym (get_or-map entry_in kept at 0)

  inside : at < length (entries_in kept)
  inside = omega (arith, length-map kept entry_in, more)

  is_single : s' ≡ single M (get_or (entries_in kept) at (entry_in 0)) s
  is_single = es ∙ ap (λ (x : Entry). single M x s) here

  goes_on : gone_on M (get_or (entries_in kept) at (entry_in 0)) s' ≡ gone_on M e s'
  goes_on = ap (λ (x : Entry). gone_on M x s') (sym here)

  pub turn_ends : (s'.stop ≡ 0 → ⊥) → Over M (entries_in kept) first at s'
  turn_ends n = middle_refused M t.middle t.goes inside (entry_in 0) is_single n

  pub turn_over : s'.stop ≡ 0 → gone_on M e s' ≡ false → Turning M kept first (at + 1) s'
  turn_over z q = record { middle = middle_over M t.middle t.goes inside (entry_in 0) is_single z (goes_on ∙ q); goes = z }

  pub turn_further : s'.stop ≡ 0 → gone_on M e s' ≡ true → Turning M kept first at s'
  turn_further z q = record { middle = middle_further M t.middle t.goes inside (entry_in 0) is_single (goes_on ∙ q); goes = z }

-- what the loop rests on
pub ruleset turning_laws = (kept_as, turning_none, turning_all)
