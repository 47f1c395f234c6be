-- Laws of the sums: gains are added in any order, and how much they add.
use Prim.Native.Nat.{ℕ, zero, suc, ◌+◌, ◌≤◌}
use mathlib.Core.Path.{◌≡◌, refl, ap, ◌∙◌}
use mathlib.Core.List.{List, [], ◌∷◌}
use native.Mathlib.Omega.{arith}
use native.Mathlib.Nat.{add_right_comm}
use lib.ListN.{get_or}
use Rattle.answers.specs.declared.Sum.{Sum}
use Rattle.answers.specs.Shape.{Answer}
use Rattle.answers.specs.Gains.{no_sum, plus, gain_of, process_of, tally, gained}
use Rattle.answers.specs.Ranges.{Below, AllBelow}

plus_comm : (s a b : Sum) → plus (plus s a) b ≡ plus (plus s b) a
plus_comm s a b =
    ap (λ (x : ℕ). record { successes = x; scs = s.scs + a.scs + b.scs; steps = s.steps + a.steps + b.steps; lls = s.lls + a.lls + b.lls })
    (add_right_comm s.successes a.successes b.successes)
    ∙ ap (λ (x : ℕ). record { successes = s.successes + b.successes + a.successes; scs = x; steps = s.steps + a.steps + b.steps; lls = s.lls + a.lls + b.lls })
    (add_right_comm s.scs a.scs b.scs)
    ∙ ap (λ (x : ℕ). record { successes = s.successes + b.successes + a.successes; scs = s.scs + b.scs + a.scs; steps = x; lls = s.lls + a.lls + b.lls })
    (add_right_comm s.steps a.steps b.steps)
    ∙ ap (λ (x : ℕ). record { successes = s.successes + b.successes + a.successes; scs = s.scs + b.scs + a.scs; steps = s.steps + b.steps + a.steps; lls = x })
    (add_right_comm s.lls a.lls b.lls)

tally_comm : (l : List Sum) (p q : ℕ) (a b : Sum) → tally (tally l p a) q b ≡ tally (tally l q b) p a
unfolding tally
tally_comm [] p q a b = refl
tally_comm (s ∷ l) zero zero a b = ap (λ (x : Sum). x ∷ l) (plus_comm s a b)
tally_comm (s ∷ l) zero (suc q) a b = refl
tally_comm (s ∷ l) (suc p) zero a b = refl
tally_comm (s ∷ l) (suc p) (suc q) a b = ap (λ (x : List Sum). s ∷ x) (tally_comm l p q a b)

tally_gained : (l : List Sum) (p : ℕ) (a : Sum) (ys : List Answer) → gained (tally l p a) ys ≡ tally (gained l ys) p a
unfolding gained
tally_gained l p a [] = refl
tally_gained l p a (y ∷ ys) =
    ap (λ (x : List Sum). gained x ys) (tally_comm l p (process_of y) a (gain_of y)) ∙ tally_gained (tally l (process_of y) (gain_of y)) p a ys

-- the answers of two listings in either order
pub gained_comm : (l : List Sum) (xs ys : List Answer) → gained (gained l xs) ys ≡ gained (gained l ys) xs
unfolding gained
gained_comm l [] ys = refl
gained_comm l (x ∷ xs) ys =
    gained_comm (tally l (process_of x) (gain_of x)) xs ys ∙ ap (λ (z : List Sum). gained z xs) (tally_gained l (process_of x) (gain_of x) ys)

-- a property of one sum after a gain
gain_at : (P : Sum → Type 0) (gain : Sum) (l : List Sum) (p q : ℕ)
    → P (get_or l q no_sum) → P (plus (get_or l q no_sum) gain) → P (get_or (tally l p gain) q no_sum)
unfolding tally
gain_at P gain [] p q h k = h
gain_at P gain (s ∷ l) zero zero h k = k
gain_at P gain (s ∷ l) zero (suc q) h k = h
gain_at P gain (s ∷ l) (suc p) zero h k = h
gain_at P gain (s ∷ l) (suc p) (suc q) h k = gain_at P gain l p q h k

more_below : (b m : ℕ) (s : Sum) → Below b s → Below (b + m) s
more_below b m s h = record { successes = omega arith; scs = omega arith; steps = omega arith; lls = omega arith }

plus_below : (b m : ℕ) (s gain : Sum) → Below b s → Below m gain → Below (b + m) (plus s gain)
plus_below b m s gain h k = record {
  successes = omega (arith, h.successes, k.successes);
  scs = omega (arith, h.scs, k.scs);
  steps = omega (arith, h.steps, k.steps);
  lls = omega (arith, h.lls, k.lls);
}

pub tally_below : (n b m : ℕ) (l : List Sum) (p : ℕ) (gain : Sum) → Below m gain → AllBelow n b l → AllBelow n (b + m) (tally l p gain)
tally_below n b m l p gain h k q r =
    let s : Sum = get_or l q no_sum in gain_at (Below (b + m)) gain l p q (more_below b m s (k q r)) (plus_below b m s gain (k q r) h)

pub weaker : (n b c : ℕ) (l : List Sum) → b ≤ c → AllBelow n b l → AllBelow n c l
weaker n b c l h k q r = let s = k q r in record {
  successes = omega (arith, s.successes);
  scs = omega (arith, s.scs);
  steps = omega (arith, s.steps);
  lls = omega (arith, s.lls);
}
