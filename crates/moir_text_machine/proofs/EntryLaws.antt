-- What an entry brings, and whether `!` stays.
use mathlib.Core.Path.{◌≡◌, refl, sym, ap, ◌∙◌}
use mathlib.Core.List.{◌∷◌}
use Rattle.std.specs.Prelude.{Option, Some, None}
use Prim.Native.Nat.{ℕ, zero, suc, ◌≤◌}
use native.Mathlib.Omega.{arith}
use native.Mathlib.Nat.{not-suc-le-zero}
use lib.ListN.{length, take, replicate, length-replicate}
use borrow.Author.Tests.{eq-eqb}
use Rattle.notation.specs.declared.Entry.{Entry}
use Rattle.notation.specs.declared.Entry.TheVariants.{StartLl, StartVl, StartSc, Step, Finish}
use Rattle.text_runs.specs.TextRun.{value_of}
use Rattle.whole_runs.specs.Carrying.{gone_on}
use Rattle.moir_text_model.specs.TextRun.{figure6, Progress}
use Rattle.moir_text_machine.specs.Turned.{brought_by, words_brought, stays_in}

take_replicate : {A : Type 0} (a b : ℕ) (x : A) → a ≤ b → take a (replicate b x) ≡ replicate a x
take_replicate zero b x h = refl
take_replicate (suc a) zero x h = absurd (not-suc-le-zero h)
take_replicate (suc a) (suc b) x h = ap (λ l. x ∷ l) (take_replicate a b x (omega arith))

pub first_words : (w k : ℕ) → w ≤ 64 → take w (replicate 64 k) ≡ replicate w k
first_words w k h = take_replicate w 64 k h

-- "The value k has k in all W words"
abbrev number_or : Option ℕ → ℕ
number_or None = 0
number_or (Some k) = k

abbrev brings : Option ℕ → ℕ
brings None = 0
brings (Some k) = 1

none_some : {k : ℕ} → ◌≡◌ {A = Option ℕ} None (Some k) → ⊥
none_some q = let w : ◌≡◌ {A = ℕ} 0 1 = ap brings q in omega (arith, w)

pub value_some : (e : Entry) (w : ℕ) {k : ℕ} → w ≤ 64 → brought_by e ≡ Some k → take w (replicate 64 k) ≡ value_of w e
value_some (StartLl p) w h q = absurd (none_some q)
value_some (StartVl p) w h q = absurd (none_some q)
value_some (StartSc p j) w {k} h q = first_words w k h ∙ ap (λ (i : ℕ). replicate w i) (sym (ap number_or q))
value_some (Step p) w h q = absurd (none_some q)
value_some (Finish p) w h q = absurd (none_some q)

pub value_count : (e : Entry) (w : ℕ) → words_brought e w ≡ length (value_of w e)
value_count (StartLl p) w = refl
value_count (StartVl p) w = refl
value_count (StartSc p k) w = sym (length-replicate w k)
value_count (Step p) w = refl
value_count (Finish p) w = refl

-- whether `!` stays is seen in the records
pub goes_stays : (e : Entry) (s : Progress) → s.stop ≡ 0 → gone_on figure6 e s ≡ stays_in e s.memory.records
unfolding gone_on
goes_stays (StartLl p) s z = refl
goes_stays (StartVl p) s z = refl
goes_stays (StartSc p k) s z = refl
goes_stays (Step p) s z = refl
goes_stays (Finish p) s z = simp (eq-eqb s.stop 0 z)
