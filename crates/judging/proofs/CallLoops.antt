-- The loops over the calls of a log, by their index.
use mathlib.Core.Path.{◌≡◌, refl, sym, ap, ◌∙◌}
use Prim.Native.Nat.{ℕ, zero, suc, ◌+◌, ◌*◌, ◌/◌, ◌≤◌, ◌<◌}
use mathlib.Core.List.{List, [], ◌∷◌}
use mathlib.Core.Bool.{Bool, true, false, not, ◌||◌, cond}
use native.Mathlib.Omega.{arith}
use native.Mathlib.Nat.{suc-mul}
use lib.ListN.{length, drop, drop_of_length-le}
use lib.Seq.{drop-drop}
use borrow.Author.Tests.{ne_eqb}
use Rattle.std.specs.Prelude.{Option, Some, None}
use Rattle.std.specs.Option.{is_some}
use Rattle.llsc.specs.Rows.{some}
use Rattle.verdicts.specs.Log.{Entry, width, entry_of, rows, entries}
use Rattle.verdicts.specs.Reasons.{first_with, one_at_fault, two_at_fault}
use Rattle.judging.specs.declared.heads.Head.{Head}
use Rattle.judging.specs.Heads.{head, entry_at, leads, first_from, lacks_ll}

-- an index counted from 0
pub from_0 : (f : Entry → Bool) (es : List Entry) → first_from f 0 es ≡ one_at_fault f es
from_0 f es = ap (λ k. cond (some f es) (Some k) None) (let z : 0 + first_with f es ≡ first_with f es = omega arith in z)

pub rows_length : (k w : ℕ) (ns : List ℕ) → length (rows k w ns) ≡ k
rows_length zero w ns = refl
rows_length (suc k) w ns = ap suc (rows_length k w (drop (width w) ns))

front : (w k n : ℕ) (ns : List ℕ) → k < n → drop k (rows n w ns) ≡ entry_of w (drop (k * width w) ns) ∷ drop (suc k) (rows n w ns)
front w k zero ns h = absurd (omega arith)
front w zero (suc n) ns h = ap (λ i. entry_of w (drop i ns) ∷ rows n w (drop (width w) ns)) (let z : 0 ≡ 0 * width w = omega arith in z)
front w (suc k) (suc n) ns h =
    let far : width w + k * width w ≡ suc k * width w = let z = suc-mul k (width w) in omega (arith, z) in
    front w k n (drop (width w) ns) (omega arith)
    ∙ ap (λ ms. entry_of w ms ∷ drop (suc k) (rows n w (drop (width w) ns))) (drop-drop (k * width w) (width w) ns ∙ ap (λ i. drop i ns) far)

-- what no entry passes, none of an index passes
some_front : (f : Entry → Bool) (w k n : ℕ) (ns : List ℕ) → k < n → some f (rows n w ns) ≡ false → f (entry_of w (drop (k * width w) ns)) ≡ false
some_front f w k zero ns h e = absurd (omega arith)
some_front f w zero (suc n) ns h e = ap (λ i. f (entry_of w (drop i ns))) (let z : 0 * width w ≡ 0 = omega arith in z) ∙ first (f (entry_of w ns)) e
  where
    first : (b : Bool) → (b || some f (rows n w (drop (width w) ns))) ≡ false → b ≡ false
    first true h = h
    first false h = refl
some_front f w (suc k) (suc n) ns h e =
    let far : width w + k * width w ≡ suc k * width w = let z = suc-mul k (width w) in omega (arith, z) in
    ap (λ ms. f (entry_of w ms)) (sym (drop-drop (k * width w) (width w) ns ∙ ap (λ i. drop i ns) far))
    ∙ some_front f w k n (drop (width w) ns) (omega arith) (later (f (entry_of w ns)) e)
  where
    later : (b : Bool) → (b || some f (rows n w (drop (width w) ns))) ≡ false → some f (rows n w (drop (width w) ns)) ≡ false
    later true h = absurd (let z : ◌≡◌ {A = ℕ} 1 0 = ap (λ b. cond b 1 0) h in omega arith)
    later false h = h

module _ (w : ℕ) (log : List ℕ) where
  abbrev pub count : ℕ
  count = length log / width w

  abbrev pub es : List Entry
  es = entries w log

  pub entries_length : length es ≡ count
  entries_length = rows_length count w log

  -- the calls from an index on
  pub calls_from : (k : ℕ) → k < count → drop k es ≡ entry_at w log k ∷ drop (k + 1) es
  calls_from k h = front w k count log h ∙ ap (λ j. entry_at w log k ∷ drop j es) (let z : suc k ≡ k + 1 = omega arith in z)

  pub no_more : (k : ℕ) → count ≤ k → drop k es ≡ []
  no_more k h = drop_of_length-le es {i = k} (let z = entries_length in omega arith)

  pub none_of : (f : Entry → Bool) (k : ℕ) → k < count → some f es ≡ false → f (entry_at w log k) ≡ false
  none_of f k h e = some_front f w k count log h e

  -- the first that passes, from an index on
  module _ (f : Entry → Bool) (k : ℕ) where
    abbrev chosen : Bool → Option ℕ
    chosen b = cond (b || some f (drop (k + 1) es)) (Some (k + cond b 0 (suc (first_with f (drop (k + 1) es))))) None

    pub first_stop : k < count → f (entry_at w log k) ≡ true → Some k ≡ first_from f k (drop k es)
    first_stop h e = ap Some (let z : k ≡ k + 0 = omega arith in z) ∙ sym (ap (first_from f k) (calls_from k h) ∙ ap chosen e)

    pub first_go : k < count → f (entry_at w log k) ≡ false → first_from f (k + 1) (drop (k + 1) es) ≡ first_from f k (drop k es)
    first_go h e =
        let rest = drop (k + 1) es in
        ap (λ j. cond (some f rest) (Some j) None) (let z : (k + 1) + first_with f rest ≡ k + suc (first_with f rest) = omega arith in z)
        ∙ sym (ap (first_from f k) (calls_from k h) ∙ ap chosen e)

    pub first_end : count ≤ k → None ≡ first_from f k (drop k es)
    first_end h = sym (ap (first_from f k) (no_more k h))

  -- the first two
  module _ (r : Entry → Entry → Bool) (k : ℕ) where
    abbrev pub others : List Entry
    others = drop (k + 1) es

    -- were another found as told
    abbrev two : Option ℕ → Option (ℕ × ℕ)
    two (Some j) = Some (k, j)
    two None = two_at_fault r (k + 1) others

    two_is : k < count → two (first_from (r (entry_at w log k)) (k + 1) others) ≡ two_at_fault r k (drop k es)
    two_is h = go (some (r (entry_at w log k)) others) ∙ sym (ap (two_at_fault r k) (calls_from k h))
      where
        next : k + 1 ≡ suc k
        next = omega arith

        go : (b : Bool) → two (cond b (Some ((k + 1) + first_with (r (entry_at w log k)) others)) None)
            ≡ cond b (Some (k, suc k + first_with (r (entry_at w log k)) others)) (two_at_fault r (suc k) others)
        go true = ap (λ j. Some (k, j + first_with (r (entry_at w log k)) others)) next
        go false = ap (λ j. two_at_fault r j others) next

    pub two_stop : k < count → (j : ℕ) → Some j ≡ first_from (r (entry_at w log k)) (k + 1) others → Some (k, j) ≡ two_at_fault r k (drop k es)
    two_stop h j e = ap two e ∙ two_is h

    pub two_go : k < count → None ≡ first_from (r (entry_at w log k)) (k + 1) others → two_at_fault r (k + 1) others ≡ two_at_fault r k (drop k es)
    two_go h e = ap two e ∙ two_is h

    pub two_end : count ≤ k → None ≡ two_at_fault r k (drop k es)
    two_end h = sym (ap (two_at_fault r k) (no_more k h))

-- something is found where an entry passes
pub found_some : (f : Entry → Bool) (k : ℕ) (es : List Entry) (r : Option ℕ) → r ≡ first_from f k es → is_some r ≡ some f es
found_some f k es r e = ap is_some e ∙ go (some f es)
  where
    go : (b : Bool) → is_some (cond b (Some (k + first_with f es)) None) ≡ b
    go true = refl
    go false = refl

-- what is not unlike is alike
pub twice : (b c : Bool) → b ≡ c → b ≡ not (not c)
twice b c e = e ∙ go c
  where
    go : (c : Bool) → c ≡ not (not c)
    go true = refl
    go false = refl

pub found_none : (f : Entry → Bool) (k : ℕ) (es : List Entry) (r : Option ℕ) → r ≡ first_from f k es → (b : Bool) → is_some r ≡ not b → b ≡ not (some f es)
found_none f k es r e b h = twice b b refl ∙ ap not (sym h ∙ found_some f k es r e)

-- e lacks its LL where it is none, and none is found
pub lacks_none : (all : List Entry) (e : Head) → (e.kind ≡ 1 → ⊥)
    → (r : Option ℕ) → r ≡ first_from (λ f. leads e (head f)) 0 all → (b : Bool) → is_some r ≡ not b → b ≡ lacks_ll all e
lacks_none all e ne r z b h =
    found_none (λ f. leads e (head f)) 0 all r z b h ∙ sym (ap (λ c. not (c || some (λ f. leads e (head f)) all)) (ne_eqb e.kind 1 ne))

-- what `first` rests on
pub ruleset first_laws = (first_stop, first_go, first_end)
