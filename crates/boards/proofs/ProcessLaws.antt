-- Row 27 by a table: a process of the second file is marked where the first file has it.
use mathlib.Core.Path.{◌≡◌, refl, sym, ap, ap₂, ◌∙◌}
use mathlib.Core.List.{List, [], ◌∷◌}
use mathlib.Core.Bool.{Bool, true, false, ◌||◌}
use Prim.Native.Nat.{ℕ, ◌+◌, ◌≤◌, ◌<◌}
use Rattle.std.proofs.lemmas.List.{drop_all}
use native.Mathlib.Omega.{arith}
use lib.Dec.{eqb}
use borrow.Author.Tests.{eqb-true, eqb-false}
use lib.ListN.{length, get_or, set, drop, replicate, length-set, length-replicate, get_or-replicate}
use lib.Seq.{drop-cons, get_or-set_same, get_or-set_other}
use native.Mathlib.Numerals.{add-one}
use Rattle.std.specs.List.{list_any}
use Rattle.llsc.specs.Rows.{some}
use Rattle.llsc.specs.Linearizable.{All}
use Rattle.laws.proofs.AllLaws.{or_right}
use Rattle.boards.specs.Files.{BoardRecord, record_of}
use Rattle.boards.specs.Merging.{share_process}
use Rattle.boards.specs.Places.{read, marks}
use Rattle.boards.specs.Promises.{of_these}

-- tests over two lists, in either order
module _ {A : Type 0} where
  never : (xs : List A) → some (λ x. false) xs ≡ false
  never [] = refl
  never (x ∷ xs) = never xs

  alike : (f g : A → Bool) (P : A → Type 0) → ((a : A) → P a → f a ≡ g a) → (xs : List A) → All P xs → some f xs ≡ some g xs
  alike f g P e [] p = refl
  alike f g P e (x ∷ xs) p = ap₂ ◌||◌ (e x p.0) (alike f g P e xs p.1)

  either : (f g : A → Bool) (xs : List A) → (some f xs || some g xs) ≡ some (λ x. f x || g x) xs
  either f g [] = refl
  either f g (x ∷ xs) = mixed (f x) (some f xs) (g x) (some g xs) ∙ ap (λ (t : Bool). (f x || g x) || t) (either f g xs)
    where
      mixed : (a b c d : Bool) → ((a || b) || (c || d)) ≡ ((a || c) || (b || d))
      mixed true b c d = refl
      mixed false true true d = refl
      mixed false true false d = refl
      mixed false false true d = refl
      mixed false false false d = refl

  pub swap : (f : A → A → Bool) (xs ys : List A) → some (λ x. some (f x) ys) xs ≡ some (λ y. some (λ x. f x y) xs) ys
  swap f [] ys = sym (never ys)
  swap f (x ∷ xs) ys = ap (λ (t : Bool). some (f x) ys || t) (swap f xs ys) ∙ either (f x) (λ y. some (λ z. f z y) xs) ys

-- one mark more
marked_at : (t : List Bool) (q p : ℕ) (a : Bool) → p < length t → (a || get_or (set t q true) p false) ≡ ((eqb q p || a) || get_or t p false)
marked_at t q p a h = go (eqb q p) refl
  where
    go : (k : Bool) → eqb q p ≡ k → (a || get_or (set t q true) p false) ≡ ((k || a) || get_or t p false)
    go true e =
        let same : q ≡ p = eqb-true q p e in
        let z : q < length t = omega arith in
        or_right a (ap (λ (i : ℕ). get_or (set t q true) i false) (sym same) ∙ get_or-set_same t q true false z)
    go false e = ap (λ (b : Bool). a || b) (get_or-set_other t q p true false (λ z. eqb-false q p e (sym z)))

marks_at : (xs : List BoardRecord) (t : List Bool) (p : ℕ) → p < length t → get_or (marks xs t) p false ≡ (some (λ x. eqb x.process p) xs || get_or t p false)
unfolding marks
marks_at [] t p h = refl
marks_at (x ∷ xs) t p h =
    marks_at xs (set t x.process true) p (let z = length-set t x.process true in omega arith)
    ∙ marked_at t x.process p (some (λ z. eqb z.process p) xs) h

-- so the table has the processes of those records, and no other
pub in_table : (xs : List BoardRecord) (p : ℕ) → p < 256 → get_or (marks xs (replicate 256 false)) p false ≡ some (λ x. eqb x.process p) xs
in_table xs p h =
    marks_at xs (replicate 256 false) p (let z = length-replicate 256 false in omega arith)
    ∙ ap (λ (b : Bool). some (λ x. eqb x.process p) xs || b) (get_or-replicate 256 p false false h)
    ∙ or_false (some (λ x. eqb x.process p) xs)
  where
    or_false : (a : Bool) → (a || false) ≡ a
    or_false true = refl
    or_false false = refl

pub shared : (xs ys : List BoardRecord) → some (of_these xs) ys ≡ share_process xs ys
shared xs ys = sym (swap (λ x y. eqb x.process y.process) xs ys)

-- the loop that marks: what is left to be marked
module _ (rs : List (List ℕ)) (table : List Bool) (i : ℕ) where
  pub mark_next : i < length rs → {p : ℕ} → p ≡ (record_of (get_or rs i [])).process
      → marks (read (drop i rs)) table ≡ marks (read (drop (i + 1) rs)) (set table p true)
  unfolding marks
  mark_next h e = rw (e, drop-cons rs i [] h, add-one i) refl

  pub all_marked : length rs ≤ i → marks (read (drop i rs)) table ≡ table
  unfolding marks
  all_marked h = rw (drop_all i rs h) refl

pub in_marks : (xs : List BoardRecord) {t : List Bool} → t ≡ marks xs (replicate 256 false)
    → (p q : ℕ) → p ≡ q → p < 256 → get_or t p false ≡ some (λ x. eqb x.process q) xs
in_marks xs f p q e h = ap (λ (u : List Bool). get_or u p false) f ∙ in_table xs p h ∙ ap (λ (q : ℕ). some (λ x. eqb x.process q) xs) e

-- row 27 as the library asks it of the records
pub any_shares : (xs : List BoardRecord) (rs : List (List ℕ)) → list_any (λ r. of_these xs (record_of r)) rs ≡ share_process xs (read rs)
any_shares xs rs = one rs ∙ shared xs (read rs)
  where
    one : (rs : List (List ℕ)) → list_any (λ r. of_these xs (record_of r)) rs ≡ some (of_these xs) (read rs)
    one [] = refl
    one (r ∷ rs) = ap (λ (t : Bool). of_these xs (record_of r) || t) (one rs)
