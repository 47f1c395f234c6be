-- The successes up to a command, counted over a whole list of events, one event after the other.
use mathlib.Core.Path.{◌≡◌, refl, sym, ap, ap₂, ◌∙◌}
use mathlib.Core.Logic.{inl, inr}
use mathlib.Core.Bool.{Bool, true, false, ◌&&◌, cond}
use mathlib.Core.List.{List, [], ◌∷◌}
use Prim.Native.Nat.{ℕ, suc, ◌+◌, ◌≤◌, ◌<◌}
use native.Mathlib.Nat.{add-zero}
use native.Mathlib.Numerals.{add-one}
use native.Mathlib.Omega.{arith}
use lib.Dec.{leb}
use borrow.Author.Tests.{le-leb, lt-leb, leb-true}
use Rattle.laws.proofs.Updates.{contra}
use Rattle.moir_model.specs.History.{Event, successes_from, WonFrom}

-- S counts them, from the event of command number m + 1 on
abbrev pub Counting : (ℕ → ℕ) → ℕ → List Event → Type 0
Counting S m [] = Unit {0}
Counting S m (e ∷ es) = (S (suc m) ≡ cond e.won (suc (S m)) (S m)) × Counting S (suc m) es

-- each success is in the relation R of processes and command numbers
abbrev pub Winning : (ℕ → ℕ → Type 0) → ℕ → List Event → Type 0
Winning R m [] = Unit {0}
Winning R m (e ∷ es) = (e.won ≡ true → R e.command.process (suc m)) × Winning R (suc m) es

-- none up to a number before the first
none_yet : (es : List Event) (n k : ℕ) → k < n → successes_from n es k ≡ 0
none_yet [] n k h = refl
none_yet (e ∷ es) n k h = ap₂ ◌+◌ (one e.won (lt-leb n k h)) (none_yet es (suc n) k (omega arith))
  where
    one : (b : Bool) {c : Bool} → c ≡ false → ◌≡◌ {A = ℕ} (cond (b && c) 1 0) 0
    one true e = ap (λ c. cond {A = ℕ} c 1 0) e
    one false e = refl

pub none_before : (es : List Event) → successes_from 1 es 0 ≡ 0
none_before es = none_yet es 1 0 (omega arith)

next_count : (b : Bool) (c : ℕ) → c + cond b 1 0 ≡ cond b (suc c) c
next_count true c = add-one c
next_count false c = add-zero c

counting_from : (es : List Event) (m b : ℕ) (S : ℕ → ℕ) → ((k : ℕ) → m ≤ k → S k ≡ b + successes_from (suc m) es k) → Counting S m es
counting_from [] m b S h = tt
counting_from (e ∷ es) m b S h = (first, counting_from es (suc m) (b + cond e.won 1 0) S later)
  where
    here : (k : ℕ) → m < k → ◌≡◌ {A = ℕ} (cond (e.won && leb (suc m) k) 1 0) (cond e.won 1 0)
    here k hk = go e.won (le-leb (suc m) k hk)
      where
        go : (t : Bool) {c : Bool} → c ≡ true → ◌≡◌ {A = ℕ} (cond (t && c) 1 0) (cond t 1 0)
        go true x = ap (λ c. cond {A = ℕ} c 1 0) x
        go false x = refl

    later : (k : ℕ) → suc m ≤ k → S k ≡ b + cond e.won 1 0 + successes_from (suc (suc m)) es k
    later k hk = let z = here k hk in let y = h k (omega arith) in omega arith

    first : S (suc m) ≡ cond e.won (suc (S m)) (S m)
    first =
        let y = later (suc m) (omega arith) in let w = none_yet es (suc (suc m)) (suc m) (omega arith) in
        let v = h m (omega arith) in let u = none_yet (e ∷ es) (suc m) m (omega arith) in
        let c : S m ≡ b = omega arith in let d : S (suc m) ≡ b + cond e.won 1 0 = omega arith in
        d ∙ ap (◌+ cond e.won 1 0) (sym c) ∙ next_count e.won (S m)

pub counting : (es : List Event) → Counting (successes_from 1 es) 0 es
counting es = counting_from es 0 0 (successes_from 1 es) (λ k _. let z : successes_from 1 es k ≡ 0 + successes_from 1 es k = omega arith in z)

winning_from : (es : List Event) (m : ℕ) (R : ℕ → ℕ → Type 0) → ((q k : ℕ) → WonFrom (suc m) es q k → R q k) → Winning R m es
winning_from [] m R h = tt
winning_from (e ∷ es) m R h = ((λ w. h e.command.process (suc m) (inl (refl, (w, refl)))), winning_from es (suc m) R (λ q k x. h q k (inr x)))

pub winning : (es : List Event) → Winning (WonFrom 1 es) 0 es
winning es = winning_from es 0 (WonFrom 1 es) (λ q k x. x)

pub growing : (es : List Event) (n j k : ℕ) → j ≤ k → successes_from n es j ≤ successes_from n es k
growing [] n j k h = omega arith
growing (e ∷ es) n j k h = let z = growing es (suc n) j k h in let y = one e.won (leb n j) (leb n k)
    (λ x. le-leb n k (let w = leb-true n j x in omega arith)) in omega arith
  where
    one : (b c d : Bool) → (c ≡ true → d ≡ true) → cond (b && c) 1 0 ≤ cond (b && d) 1 0
    one false c d f = omega arith
    one true false d f = omega arith
    one true true true f = omega arith
    one true true false f = absurd (contra (f refl) refl)
