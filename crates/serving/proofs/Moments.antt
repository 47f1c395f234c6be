-- From command numbers to moments that are all different, for calls each of which takes effect at a command from its start to its answer.
-- With M places to a command, the call with index i (from 0, in the order of the answers) that takes effect at command number m gets the moment (m - 1) * M + (i + 1).
-- Sorted by these moments the calls stand as sorted by command numbers.
use mathlib.Core.Path.{◌≡◌, refl, sym, ap, ◌∙◌}
use mathlib.Core.List.{List, [], ◌∷◌, map}
use mathlib.Core.Bool.{Bool, true, false, cond}
use Prim.Native.Nat.{ℕ, suc, ◌+◌, ◌-◌, ◌*◌, ◌≤◌, ◌<◌}
use native.Mathlib.Nat.{mul-le-mul_right}
use native.Mathlib.Decide.{dec_lt, dec_le}
use native.Mathlib.Omega.{arith}
use lib.Dec.{leb}
use lib.ListN.{length}
use borrow.Author.Tests.{le-leb, lt-leb}
use Rattle.llsc.specs.Object.{Object, fresh}
use Rattle.llsc.specs.Linearizable.{All, Timed, insert, sort_into, in_moment_order, Distinct, Inside, Linearization}
use Rattle.serving.proofs.Serving.{Served, served_answers, feeds}

-- a call takes effect after the command that starts it, and not after the one that answers it
abbrev pub Within : Timed → Type 0
Within t = (t.call.start < t.moment) × (t.moment ≤ t.call.end)

module _ (M : ℕ) where
  abbrev retimed : ℕ → Timed → Timed
  retimed i t = record { call = t.call; moment = (t.moment - 1) * M + (i + 1) }

  abbrev retime : ℕ → List Timed → List Timed
  retime i [] = []
  retime i (t ∷ ts) = retimed i t ∷ retime (suc i) ts

  retime_calls : (i : ℕ) (ts : List Timed) → map (λ (t : Timed). t.call) (retime i ts) ≡ map (λ (t : Timed). t.call) ts
  retime_calls i [] = refl
  retime_calls i (t ∷ ts) = ap (t.call ∷◌) (retime_calls (suc i) ts)

  retime_inside : (i : ℕ) (ts : List Timed) → i + length ts ≤ M → All Within ts → All (Inside M) (retime i ts)
  retime_inside i [] h w = tt
  retime_inside i (t ∷ ts) h w =
      let u = w.0.0 in let v = w.0.1 in
      let a : t.call.start * M ≤ (t.moment - 1) * M = mul-le-mul_right M (omega arith) in
      let b : suc (t.moment - 1) * M ≤ t.call.end * M = mul-le-mul_right M (omega arith) in
      (record { after_start = omega arith; by_answer = omega arith }, retime_inside (suc i) ts (omega arith) w.1)

  -- places with different indexes are different
  apart : (a b i j : ℕ) → i < j → j < M → a * M + (i + 1) ≡ b * M + (j + 1) → ⊥
  apart a b i j h k e = go (dec_lt a b) (dec_lt b a)
    where
      go : Dec (a < b) → Dec (b < a) → ⊥
      go (yes x) y = let z : suc a * M ≤ b * M = mul-le-mul_right M x in omega arith
      go (no x) (yes y) = let z : suc b * M ≤ a * M = mul-le-mul_right M y in omega arith
      go (no x) (no y) = let z : a * M ≡ b * M = ap (◌* M) (omega arith) in omega arith

  retime_distinct : (i : ℕ) (ts : List Timed) → i + length ts ≤ M → Distinct (map (λ (t : Timed). t.moment) (retime i ts))
  retime_distinct i [] h = tt
  retime_distinct i (t ∷ ts) h = (others (suc i) ts (omega arith) (omega arith), retime_distinct (suc i) ts (omega arith))
    where
      others : (j : ℕ) (us : List Timed) → i < j → j + length us ≤ M → All (λ k. (t.moment - 1) * M + (i + 1) ≡ k → ⊥) (map (λ (u : Timed). u.moment) (retime j us))
      others j [] a b = tt
      others j (u ∷ us) a b = (apart (t.moment - 1) (u.moment - 1) i j a (omega arith), others (suc j) us (omega arith) (omega arith))

  -- r is u, with a moment of an index below i
  record Like (i : ℕ) (u r : Timed) : Type 0 where
    call : r.call ≡ u.call
    low : (u.moment - 1) * M < r.moment
    high : r.moment ≤ (u.moment - 1) * M + i
    pos : 0 < u.moment

  data AllLike (i : ℕ) : List Timed → List Timed → Type 0 where
    none : AllLike i [] []
    more : {u r : Timed} {us rs : List Timed} → Like i u r → AllLike i us rs → AllLike i (u ∷ us) (r ∷ rs)

  like_suc : {i : ℕ} {u r : Timed} → Like i u r → Like (suc i) u r
  like_suc a = record { call = a.call; low = a.low; high = omega arith; pos = a.pos }

  all_like_suc : {i : ℕ} {us rs : List Timed} → AllLike i us rs → AllLike (suc i) us rs
  all_like_suc none = none
  all_like_suc (more a b) = more (like_suc a) (all_like_suc b)

  -- the comparison of moments is that of command numbers
  same_test : (i : ℕ) (t u r : Timed) → i < M → 0 < t.moment → Like i u r → leb r.moment (retimed i t).moment ≡ leb u.moment t.moment
  same_test i t u r h p a = go (dec_le u.moment t.moment)
    where
      go : Dec (u.moment ≤ t.moment) → leb r.moment ((t.moment - 1) * M + (i + 1)) ≡ leb u.moment t.moment
      go (yes x) =
          let z : (u.moment - 1) * M ≤ (t.moment - 1) * M = mul-le-mul_right M (omega arith) in
          let y : r.moment ≤ (t.moment - 1) * M + (i + 1) = omega arith in
          le-leb _ _ y ∙ sym (le-leb _ _ x)
      go (no x) =
          let z : suc (t.moment - 1) * M ≤ (u.moment - 1) * M = mul-le-mul_right M (omega arith) in
          let y : (t.moment - 1) * M + (i + 1) < r.moment = omega arith in
          let w : t.moment < u.moment = omega arith in
          lt-leb _ _ y ∙ sym (lt-leb _ _ w)

  new : (i : ℕ) (t : Timed) → 0 < t.moment → Like (suc i) t (retimed i t)
  new i t p = record { call = refl; low = omega arith; high = omega arith; pos = p }

  -- so a call is inserted at the same place
  insert_like : (i : ℕ) (t : Timed) → i < M → 0 < t.moment → {us rs : List Timed} → AllLike i us rs → AllLike (suc i) (insert t us) (insert (retimed i t) rs)
  insert_like i t h p none = more (new i t p) none
  insert_like i t h p (more {u} {r} {us} {rs} a b) = rw (same_test i t u r h p a) (go (leb u.moment t.moment) (insert_like i t h p b))
    where
      go : (c : Bool) → AllLike (suc i) (insert t us) (insert (retimed i t) rs)
          → AllLike (suc i) (cond c (u ∷ insert t us) (t ∷ u ∷ us)) (cond c (r ∷ insert (retimed i t) rs) (retimed i t ∷ r ∷ rs))
      go true d = more (like_suc a) d
      go false d = more (new i t p) (all_like_suc (more a b))

  served_like : {i : ℕ} (o : Object) {us rs : List Timed} → AllLike i us rs → Served o us → Served o rs
  served_like o none v = tt
  served_like o (more {u} a b) v = rw a.call (v.0, served_like (feeds u o) b v.1)

  sort_served : (o : Object) (i : ℕ) (ts us rs : List Timed) → AllLike i us rs → All Within ts → i + length ts ≤ M → Served o (sort_into ts us) → Served o (sort_into (retime i ts) rs)
  sort_served o i [] us rs a w h v = served_like o a v
  sort_served o i (t ∷ ts) us rs a w h v =
      let u = w.0.0 in
      sort_served o (suc i) ts (insert t us) (insert (retimed i t) rs) (insert_like i t (omega arith) (omega arith) a) w.1 (omega arith) v

-- THE MOMENTS
pub moments : (value : List ℕ) (ts : List Timed) → Served (fresh value) (sort_into ts []) → All Within ts → (places : ℕ) → length ts ≤ places
    → Linearization places value (map (λ (t : Timed). t.call) ts)
moments value ts v w places h = record {
  timed = retime places 0 ts;
  same_calls = retime_calls places 0 ts;
  distinct = retime_distinct places 0 ts (omega arith);
  inside = retime_inside places 0 ts (omega arith) w;
  served = served_answers (fresh value) (in_moment_order (retime places 0 ts)) (sort_served places (fresh value) 0 ts [] [] none w (omega arith) v);
}
