-- Timed calls in moment order: insertion, and the parts up to a moment and past it.
use mathlib.Core.Path.{◌≡◌, refl, ap}
use mathlib.Core.Bool.{Bool, true, false, cond}
use mathlib.Core.List.{List, [], ◌∷◌, ◌++◌}
use Prim.Native.Nat.{ℕ, ◌≤◌, ◌<◌}
use native.Mathlib.Omega.{arith}
use lib.Dec.{leb}
use borrow.Author.Tests.{leb-true, leb-false, le-leb, lt-leb}
use Rattle.llsc.specs.Linearizable.{All, Timed, insert, sort_into}
use Rattle.laws.proofs.Updates.{by_test}
use Rattle.serving.proofs.Serving.{Free}

-- every call
pub all_map : (P R : Timed → Type 0) → ((t : Timed) → P t → R t) → (ts : List Timed) → All P ts → All R ts
all_map P R f [] a = tt
all_map P R f (t ∷ ts) a = (f t a.0, all_map P R f ts a.1)

pub all_append : (P : Timed → Type 0) (ss ts : List Timed) → All P ss → All P ts → All P (ss ++ ts)
all_append P [] ts a b = b
all_append P (s ∷ ss) ts a b = (a.0, all_append P ss ts a.1 b)

pub all_insert : (P : Timed → Type 0) (t : Timed) (us : List Timed) → P t → All P us → All P (insert t us)
all_insert P t [] p a = (p, tt)
all_insert P t (u ∷ us) p a = by_test (All P) (leb u.moment t.moment) (λ _. (a.0, all_insert P t us p a.1)) (λ _. (p, a))

-- in moment order
abbrev pub Sorted : List Timed → Type 0
Sorted [] = Unit {0}
Sorted (t ∷ ts) = All (λ u. t.moment ≤ u.moment) ts × Sorted ts

pub sorted_insert : (t : Timed) (us : List Timed) → Sorted us → Sorted (insert t us)
sorted_insert t [] s = (tt, tt)
sorted_insert t (u ∷ us) s = by_test Sorted (leb u.moment t.moment)
    (λ q. (all_insert (λ x. u.moment ≤ x.moment) t us (leb-true _ _ q) s.0, sorted_insert t us s.1))
    (λ q. let z = leb-false u.moment t.moment q in ((omega arith, all_map (λ x. u.moment ≤ x.moment) (λ x. t.moment ≤ x.moment) (λ x w. omega arith) us s.0), s))

pub sort_into_append : (ss ts us : List Timed) → sort_into (ss ++ ts) us ≡ sort_into ts (sort_into ss us)
sort_into_append [] ts us = refl
sort_into_append (s ∷ ss) ts us = sort_into_append ss ts (insert s us)

-- the part up to a moment, and the part past it
abbrev pub upto : ℕ → List Timed → List Timed
upto m [] = []
upto m (t ∷ ts) = cond (leb t.moment m) (t ∷ upto m ts) []

abbrev pub past : ℕ → List Timed → List Timed
past m [] = []
past m (t ∷ ts) = cond (leb t.moment m) (past m ts) (t ∷ ts)

pub upto_past : (m : ℕ) (ts : List Timed) → upto m ts ++ past m ts ≡ ts
upto_past m [] = refl
upto_past m (t ∷ ts) = go (leb t.moment m) (upto_past m ts)
  where
    go : (b : Bool) → upto m ts ++ past m ts ≡ ts → cond b (t ∷ upto m ts) [] ++ cond b (past m ts) (t ∷ ts) ≡ t ∷ ts
    go true e = ap (t ∷◌) e
    go false e = refl

-- a call is inserted between the two parts
pub insert_between : (t : Timed) (us : List Timed) → insert t us ≡ upto t.moment us ++ t ∷ past t.moment us
insert_between t [] = refl
insert_between t (u ∷ us) = go (leb u.moment t.moment) (insert_between t us)
  where
    go : (b : Bool) → insert t us ≡ upto t.moment us ++ t ∷ past t.moment us
        → cond b (u ∷ insert t us) (t ∷ u ∷ us) ≡ cond b (u ∷ upto t.moment us) [] ++ t ∷ cond b (past t.moment us) (u ∷ us)
    go true e = ap (u ∷◌) e
    go false e = refl

-- at the end, if no call is later
pub insert_end : (t : Timed) (us : List Timed) → All (λ u. u.moment ≤ t.moment) us → insert t us ≡ us ++ t ∷ []
insert_end t [] a = refl
insert_end t (u ∷ us) a = rw (le-leb u.moment t.moment a.0) (ap (u ∷◌) (insert_end t us a.1))

pub upto_all : (m : ℕ) (ts : List Timed) → All (λ t. t.moment ≤ m) ts → upto m ts ≡ ts
upto_all m [] a = refl
upto_all m (t ∷ ts) a = rw (le-leb t.moment m a.0) (ap (t ∷◌) (upto_all m ts a.1))

pub upto_low : (m : ℕ) (ts : List Timed) → All (λ t. t.moment ≤ m) (upto m ts)
upto_low m [] = tt
upto_low m (t ∷ ts) = by_test (All (λ t. t.moment ≤ m)) (leb t.moment m) (λ q. (leb-true _ _ q, upto_low m ts)) (λ q. tt)

pub upto_append : (m : ℕ) (ss ts : List Timed) → All (λ t. t.moment ≤ m) ss → upto m (ss ++ ts) ≡ ss ++ upto m ts
upto_append m [] ts a = refl
upto_append m (s ∷ ss) ts a = rw (le-leb s.moment m a.0) (ap (s ∷◌) (upto_append m ss ts a.1))

-- a later call changes no part up to an earlier moment
pub upto_before : (m : ℕ) (t : Timed) (us : List Timed) → m < t.moment → upto m (insert t us) ≡ upto m us
upto_before m t [] h = rw (lt-leb t.moment m h)
upto_before m t (u ∷ us) h = by_test (λ z. upto m z ≡ upto m (u ∷ us)) (leb u.moment t.moment)
    (λ q. ap (λ z. cond (leb u.moment m) (u ∷ z) []) (upto_before m t us h))
    (λ q. let z = leb-false u.moment t.moment q in rw (lt-leb t.moment m h, lt-leb u.moment m (omega arith)))

-- the calls of one process
pub free_upto : (p m : ℕ) (ts : List Timed) → Free p ts → Free p (upto m ts)
free_upto p m [] f = tt
free_upto p m (t ∷ ts) f = by_test (Free p) (leb t.moment m) (λ q. (f.0, free_upto p m ts f.1)) (λ q. tt)

free_all : (p b m : ℕ) (ts : List Timed) → b < m → All (λ t. t.call.process ≡ p → t.moment ≤ b) ts → All (λ t. m ≤ t.moment) ts → Free p ts
free_all p b m [] h a c = tt
free_all p b m (t ∷ ts) h a c = (λ e. let z = a.0 e in let w = c.0 in omega arith, free_all p b m ts h a.1 c.1)

-- if p's calls are below m, none of them is past m
pub free_past : (p b m : ℕ) (ts : List Timed) → b < m → All (λ t. t.call.process ≡ p → t.moment ≤ b) ts → Sorted ts → Free p (past m ts)
free_past p b m [] h a s = tt
free_past p b m (t ∷ ts) h a s = by_test (Free p) (leb t.moment m) (λ q. free_past p b m ts h a.1 s.1)
    (λ q. let z = leb-false t.moment m q in free_all p b m (t ∷ ts) h a (omega arith, all_map (λ u. t.moment ≤ u.moment) (λ u. m ≤ u.moment) (λ u w. omega arith) ts s.0))
