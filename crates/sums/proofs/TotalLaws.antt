-- The sums of right listings are totals over their answers.
use Prim.Native.Nat.{ℕ, ◌+◌, ◌≤◌, ◌<◌}
use mathlib.Core.Path.{◌≡◌, refl, sym, ap, subst, ◌∙◌}
use mathlib.Core.List.{List, [], ◌∷◌, ◌++◌}
use mathlib.Core.Bool.{Bool, true, false, cond}
use native.Mathlib.Omega.{arith}
use borrow.Author.Tests.{eqb-true, eqb-false}
use lib.Dec.{eqb}
use lib.ListN.{length, get_or, set, length-set}
use lib.Seq.{get_or-set_same, get_or-set_other}
use Rattle.answers.specs.declared.Sum.{Sum}
use Rattle.answers.specs.Shape.{Answer}
use Rattle.answers.specs.Gains.{no_sum, plus, gain_of, process_of, tally, gained}
use Rattle.sums.specs.declared.Sums.{Sums}
use Rattle.sums.specs.Season.{most_listings, taking, add_all}
use Rattle.sums.specs.SeasonTable.{Listing, bytes_of, answers_of, total}
use Rattle.sums.proofs.Order.{of_right, Fine, takes, gains, taking_fine}

-- the answers of two listings are gained one after the other
gained_append : (l : List Sum) (xs ys : List Answer) → gained (gained l xs) ys ≡ gained l (xs ++ ys)
unfolding gained
gained_append l [] ys = refl
gained_append l (x ∷ xs) ys = gained_append (tally l (process_of x) (gain_of x)) xs ys

-- One of the four sums, g, and what an answer counts for it, f.
module _ (g : Sum → ℕ) (f : Answer → ℕ) (adds : (s t : Sum) → g (plus s t) ≡ g s + g t) (worth : (a : Answer) → g (gain_of a) ≡ f a) where
  gain_pick : (l : List Sum) (a : Answer) (p : ℕ) → p < length l → (t : Bool) → eqb (process_of a) p ≡ t
      → g (get_or (tally l (process_of a) (gain_of a)) p no_sum) ≡ g (get_or l p no_sum) + cond t (f a) 0
  unfolding tally
  gain_pick l a p h true e =
      subst (λ (q : ℕ). g (get_or (set l q (plus (get_or l q no_sum) (gain_of a))) p no_sum) ≡ g (get_or l p no_sum) + f a)
      (sym (eqb-true (process_of a) p e))
      (ap g (get_or-set_same l p (plus (get_or l p no_sum) (gain_of a)) no_sum h) ∙ adds (get_or l p no_sum) (gain_of a)
      ∙ ap (λ (x : ℕ). g (get_or l p no_sum) + x) (worth a))
  gain_pick l a p h false e =
      ap g (get_or-set_other l (process_of a) p (plus (get_or l (process_of a) no_sum) (gain_of a)) no_sum (λ z. eqb-false (process_of a) p e (sym z)))
      ∙ omega arith

  longer : (l : List Sum) (a : Answer) → length (tally l (process_of a) (gain_of a)) ≡ length l
  unfolding tally
  longer l a = length-set l (process_of a) (plus (get_or l (process_of a) no_sum) (gain_of a))

  pub totals : (l : List Sum) (told : List Answer) (p : ℕ) → p < length l → g (get_or (gained l told) p no_sum) ≡ g (get_or l p no_sum) + total f p told
  unfolding gained
  totals l [] p h = omega arith
  totals l (a ∷ more) p h =
      let m : List Sum = tally l (process_of a) (gain_of a) in
      let x = totals m more p (omega (arith, longer l a)) in
      let y = gain_pick l a p h (eqb (process_of a) p) refl in
      omega (arith, x, y)

-- Right listings added one after the other are all taken, and the sums gain all their answers.
module _ (n w : ℕ) where
  abbrev sums : ℕ → List Sum → Sums
  sums taken each = record { n = n; w = w; taken = taken; each = each }

  pub all_gained : (season : List (Listing n w)) (k : ℕ) (l : List Sum) → Fine (sums k l) → k + length season ≤ most_listings
      → add_all (sums k l) (bytes_of season) ≡ sums (k + length season) (gained l (answers_of season))
  unfolding add_all taking gained
  all_gained [] k l f h = ap (λ (x : ℕ). sums x l) (omega arith)
  all_gained (x ∷ more) k l f h =
      let s : Sums = sums k l in
      let r = of_right n w x.bytes f.few_n x.right in
      let told : List Answer = x.right.shaped.answers in
      let e : taking s x.bytes ≡ sums (k + 1) (gained l told) = ap (λ (z : List Sum). sums (k + 1) z) (gains s f x.bytes x.right) in
      let d = takes s f x.bytes r (omega arith) ∙ e in
      let next = subst Fine e (taking_fine s f x.bytes r (omega arith)) in
      ap (λ (z : Sums). add_all z (bytes_of more)) d ∙ all_gained more (k + 1) (gained l told) next (omega arith)
      ∙ ap (λ (z : List Sum). sums (k + 1 + length more) z) (gained_append l told (answers_of more))
      ∙ ap (λ (z : ℕ). sums z (gained l (told ++ answers_of more))) (omega arith)
