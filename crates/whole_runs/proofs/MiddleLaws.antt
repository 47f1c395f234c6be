-- A run in the middle of its list: what an entry that is made, refused or not yet over leaves to do.
use mathlib.Core.Path.{◌≡◌, refl, sym, ap, ◌∙◌}
use mathlib.Core.Bool.{Bool, true, false, not, cond, ◌&&◌}
use mathlib.Core.List.{List, [], ◌∷◌}
use Prim.Native.Nat.{ℕ, zero, suc, ◌+◌, ◌≤◌, ◌<◌}
use native.Mathlib.Omega.{arith}
use native.Mathlib.Nat.{not-suc-le-zero}
use lib.Dec.{eqb}
use lib.ListN.{length, get_or, drop}
use borrow.Author.Tests.{eq-eqb, ne_eqb}
use Rattle.notation.specs.declared.Entry.{Entry}
use Rattle.notation.specs.declared.Entry.TheVariants.{StartLl, StartVl, StartSc, Step, Finish}
use Rattle.text_runs.specs.Machines.{Machine}
use Rattle.text_runs.specs.TextRun.{Progress, single, finish, carry, carry_all}
use Rattle.text_runs.specs.StopPlaces.{stop_index}
use Rattle.whole_runs.specs.Carrying.{gone_on, Over}
use Rattle.text_runs.proofs.UntilAnswered.{until_answered}
use Rattle.text_runs.proofs.KeptLaws.{all_stay}

drop_at : {A : Type 0} (l : List A) (i : ℕ) (d : A) → i < length l → drop i l ≡ get_or l i d ∷ drop (i + 1) l
drop_at [] i d h = absurd (not-suc-le-zero h)
drop_at (a ∷ l) zero d h = refl
drop_at (a ∷ l) (suc i) d h =
    let one : i + 1 ≡ suc i = omega arith in
    let two : suc i + 1 ≡ suc (suc i) = omega arith in
    drop_at l i d (omega arith) ∙ ap (λ (k : ℕ). get_or l i d ∷ drop k l) one ∙ ap (λ (k : ℕ). get_or l i d ∷ drop k (a ∷ l)) (sym two)

drop_all : {A : Type 0} (l : List A) (i : ℕ) → length l ≤ i → drop i l ≡ []
drop_all [] zero h = refl
drop_all [] (suc i) h = refl
drop_all (a ∷ l) zero h = absurd (not-suc-le-zero h)
drop_all (a ∷ l) (suc i) h = drop_all l i (omega arith)

-- what is left to do from place `at` of the list on, now, is what the whole list does from the first
pub record Middle (M : Machine) (es : List Entry) (first : Progress M) (at : ℕ) (now : Progress M) : Type 0 where
  pub same : carry_all M (drop at es) now ≡ carry_all M es first
  pub index : at + stop_index M (drop at es) now ≡ stop_index M es first

module _ (M : Machine) where
  -- how many entries are carried out whole, once the first has left the run so
  abbrev index_after : List Entry → Progress M → ℕ
  index_after es s = cond (eqb s.stop 0) (suc (stop_index M es s)) 0

  -- an entry that goes on is carried out whole, one that stops the run is not
  index_goes : (es : List Entry) (s : Progress M) → s.stop ≡ 0 → index_after es s ≡ suc (stop_index M es s)
  index_goes es s z = simp (eq-eqb s.stop 0 z)

  index_stops : (es : List Entry) (s : Progress M) → (s.stop ≡ 0 → ⊥) → index_after es s ≡ 0
  index_stops es s n = simp (ne_eqb s.stop 0 n)

  -- one step of an entry, and where `!` goes on, the rest of it
  one_step : (e : Entry) (s s' : Progress M) → s.stop ≡ 0 → s' ≡ single M e s → carry M e s ≡ cond (gone_on M e s') (carry M e s') s'
  unfolding carry single gone_on
  one_step (StartLl p) s s' z q = sym q
  one_step (StartVl p) s s' z q = sym q
  one_step (StartSc p k) s s' z q = sym q
  one_step (Step p) s s' z q = sym q
  one_step (Finish p) s s' z q =
      let goes : carry M (Finish p) s ≡ finish M p s = simp (eq-eqb s.stop 0 z) in
      let s₁ = single M (Step p) s in
      rw q (goes ∙ until_answered M p s ∙ by s₁ (eqb s₁.stop 0) (M.idle s₁.memory p))
    where
      by : (s₁ : Progress M) (a b : Bool) → cond (a && not b) (finish M p s₁) s₁ ≡ cond (a && not b) (cond a (finish M p s₁) s₁) s₁
      by s₁ true true = refl
      by s₁ true false = refl
      by s₁ false b = refl

  goes_not : (e : Entry) (s : Progress M) → (s.stop ≡ 0 → ⊥) → gone_on M e s ≡ false
  unfolding gone_on
  goes_not (StartLl p) s n = refl
  goes_not (StartVl p) s n = refl
  goes_not (StartSc p k) s n = refl
  goes_not (Step p) s n = refl
  goes_not (Finish p) s n = simp (ne_eqb s.stop 0 n)

  -- before the first entry
  pub middle_none : (es : List Entry) (s : Progress M) → Middle M es s 0 s
  middle_none es s = record { same = refl; index = omega arith }

  -- behind the last
  pub middle_all : {at : ℕ} {es : List Entry} {s s' : Progress M} → Middle M es s at s' → length es ≤ at → Over M es s at s'
  unfolding carry_all stop_index
  middle_all {at} {es} {s} {s'} c l = record {
    same = sym (ap (λ (x : List Entry). carry_all M x s') (drop_all es at l)) ∙ c.same;
    index = omega (arith, c.index, ap (λ (x : List Entry). stop_index M x s') (drop_all es at l));
  }

  -- at an entry, which makes a step or is refused
  module _ {at : ℕ} {es : List Entry} {s s₁ s' : Progress M} (c : Middle M es s at s₁) (g : s₁.stop ≡ 0) (l : at < length es) (d : Entry) (b : s' ≡ single M (get_or es at d) s₁) where
    abbrev e : Entry
    e = get_or es at d

    abbrev rest : List Entry
    rest = drop (at + 1) es

    -- the run after the whole entry, where a further step follows or not
    abbrev ahead : Bool → Progress M
    ahead t = cond t (carry M e s') s'

    stepped : carry M e s₁ ≡ ahead (gone_on M e s')
    stepped = one_step e s₁ s' g b

    opened : carry_all M rest (ahead (gone_on M e s')) ≡ carry_all M es s
    unfolding carry_all
    opened = ap (carry_all M rest) (sym stepped) ∙ sym (ap (λ (x : List Entry). carry_all M x s₁) (drop_at es at d l)) ∙ c.same

    opened_index : at + index_after rest (ahead (gone_on M e s')) ≡ stop_index M es s
    unfolding stop_index
    opened_index =
        ap (λ (x : Progress M). at + index_after rest x) (sym stepped)
        ∙ sym (ap (λ (x : List Entry). at + stop_index M x s₁) (drop_at es at d l)) ∙ c.index

    -- with what is known of the further step
    open_with : (t : Bool) → gone_on M e s' ≡ t → carry_all M rest (ahead t) ≡ carry_all M es s
    open_with t q = ap (λ (x : Bool). carry_all M rest (ahead x)) (sym q) ∙ opened

    index_with : (t : Bool) → gone_on M e s' ≡ t → at + index_after rest (ahead t) ≡ stop_index M es s
    index_with t q = ap (λ (x : Bool). at + index_after rest (ahead x)) (sym q) ∙ opened_index

    -- "After a refused entry nothing more runs."
    pub middle_refused : (s'.stop ≡ 0 → ⊥) → Over M es s at s'
    middle_refused n =
        let over = goes_not e s' n in
        record {
          same = sym (all_stay M rest s' n) ∙ open_with false over;
          index = omega (arith, index_with false over, index_stops rest s' n);
        }

    -- it is over: the next entry begins
    pub middle_over : s'.stop ≡ 0 → gone_on M e s' ≡ false → Middle M es s (at + 1) s'
    middle_over z q = record {
      same = open_with false q;
      index = omega (arith, index_goes rest s' z, index_with false q);
    }

    -- it stays, and the rest of it is the same entry again
    pub middle_further : gone_on M e s' ≡ true → Middle M es s at s'
    unfolding carry_all stop_index
    middle_further q = record {
      same = ap (λ (x : List Entry). carry_all M x s') (drop_at es at d l) ∙ open_with true q;
      index = ap (λ (x : List Entry). at + stop_index M x s') (drop_at es at d l) ∙ index_with true q;
    }
