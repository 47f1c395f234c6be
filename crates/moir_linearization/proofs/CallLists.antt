-- Facts about each call of a list of them.
use mathlib.Core.Path.{◌≡◌, refl, sym, ap, ◌∙◌}
use mathlib.Core.List.{List, [], ◌∷◌, ◌++◌, append_assoc, map}
use Prim.Native.Nat.{ℕ, zero, suc, ◌<◌}
use native.Mathlib.Omega.{arith}
use Rattle.llsc.specs.Linearizable.{All}
use Rattle.laws.proofs.Updates.{Split, same, other, split}
use Rattle.moir_model.specs.History.{Known, Call, open_of, open_calls}
use Rattle.moir_linearization.specs.Linearizable.{Served, served_as, served_calls}
use Rattle.moir_linearization.proofs.Watching.{called}

pub all_join : {A : Type 0} (P : A → Type 0) (xs ys : List A) → All P xs → All P ys → All P (xs ++ ys)
all_join P [] ys a b = b
all_join P (x ∷ xs) ys a b = (a.0, all_join P xs ys a.1 b)

pub all_split : {A : Type 0} (P : A → Type 0) (xs ys : List A) → All P (xs ++ ys) → All P xs × All P ys
all_split P [] ys a = (tt, a)
all_split P (x ∷ xs) ys a = let z = all_split P xs ys a.1 in ((a.0, z.0), z.1)

pub all_map : {A B : Type 0} (P : B → Type 0) (f : A → B) (xs : List A) → All (λ x. P (f x)) xs → All P (map f xs)
all_map P f [] a = tt
all_map P f (x ∷ xs) a = (a.0, all_map P f xs a.1)

pub all_imply : {A : Type 0} (P Q : A → Type 0) (xs : List A) → ((x : A) → P x → Q x) → All P xs → All Q xs
all_imply P Q [] f a = tt
all_imply P Q (x ∷ xs) f a = (f x a.0, all_imply P Q xs f a.1)

-- the open calls, process by process
pub all_open : (P : Call → Type 0) (m : ℕ) (x : ℕ → Known) → ((q : ℕ) → q < m → All P (open_of q (x q) (x q).slot)) → All P (open_calls m x)
all_open P zero x f = tt
all_open P (suc m) x f = all_join P (open_calls m x) _ (all_open P m x (λ q h. f q (omega arith))) (f m (omega arith))

pub open_of_lem : (P : Call → Type 0) (m : ℕ) (x : ℕ → Known) (q : ℕ) → q < m → All P (open_calls m x) → All P (open_of q (x q) (x q).slot)
open_of_lem P zero x q h a = absurd (omega arith)
open_of_lem P (suc m) x q h a = go (split q m) (λ l. open_of_lem P m x q l (all_split P (open_calls m x) _ a).0)
  where
    go : Split q m → (q < m → All P (open_of q (x q) (x q).slot)) → All P (open_of q (x q) (x q).slot)
    go (same e) f = rw e (all_split P (open_calls m x) _ a).1
    go (other ne) f = f (omega (arith, ne))

-- what is fed of a list of calls
pub served_join : (xs ys : List Call) → served_calls (xs ++ ys) ≡ served_calls xs ++ served_calls ys
served_join [] ys = refl
served_join (x ∷ xs) ys = ap (served_as x x.outcome ++◌) (served_join xs ys) ∙ sym (append_assoc (served_as x x.outcome) (served_calls xs) (served_calls ys))

pub served_called : (k : Known) (c : ℕ) (zs : List Served) → served_calls (map (called k c) zs) ≡ zs
served_called k c [] = refl
served_called k c (z ∷ zs) = ap (z ∷◌) (served_called k c zs)
