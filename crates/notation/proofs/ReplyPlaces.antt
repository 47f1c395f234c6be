-- The place that a reader replies for a text that is not right is the place of the text's fault.
use Prim.Native.Nat.{ℕ, suc, ◌+◌, ◌-◌}
use mathlib.Core.Path.{◌≡◌}
use mathlib.Core.List.{List}
use native.Mathlib.Omega.{arith}
use lib.ListN.{length, drop, length-drop}
use Rattle.notation.specs.declared.Entry.{Entry}
use Rattle.notation.specs.Grammar.{deepest}
use Rattle.notation.specs.Right.{Fault}
use Rattle.notation.specs.Readers.{Headed, NotHeaded}
use Rattle.notation.specs.Groups.{ItemsClosed, ItemsBroken}
use Rattle.notation.proofs.GroupLaws.{not_headed, text_closed, text_broken}
use Rattle.notation.proofs.HeaderLaws.{not_headed_inside}
use Rattle.notation.proofs.Theorems.{wrong_has_fault, wrong_at_fault}

module _ {s : List ℕ} where
  -- the first line
  pub no_first_fault : {place : ℕ} → NotHeaded s place → Fault s 10
  no_first_fault h = wrong_has_fault s 10 _ (not_headed h)

  pub no_first_place : {place j : ℕ} → NotHeaded s place → (p : Fault s j) → p.at ≡ place
  no_first_place {place} {j} h p = omega (arith, wrong_at_fault s j 10 (length s - place) p (not_headed h), not_headed_inside h)

  -- the items
  module _ {n w v items : ℕ} (h : Headed s n w v items) where
    pub broken_fault : {k place : ℕ} → ItemsBroken s items deepest k place → Fault s k
    broken_fault {k} i = wrong_has_fault s k _ (text_broken h i)

    pub broken_place : {k place j : ℕ} → ItemsBroken s items deepest k place → (p : Fault s j) → p.at ≡ place
    broken_place {k} {place} {j} i p = omega (arith, wrong_at_fault s j k (length s - place) p (text_broken h i), i.within)

    -- a `)` that closes nothing: it stands before `next`
    pub closed_fault : {next : ℕ} {es : List Entry} → ItemsClosed s items deepest next es → Fault s 10
    closed_fault i = wrong_has_fault s 10 _ (text_closed h i)

    pub closed_at : {next j : ℕ} {es : List Entry} → ItemsClosed s items deepest next es → (p : Fault s j) → p.at + 1 ≡ next
    closed_at {next} {j} i p = omega (arith, wrong_at_fault s j 10 (suc (length (drop next s))) p (text_closed h i), length-drop next s, i.within)
