-- A choice, and what is read on.
use Rattle.std.specs.Prelude.{◌≡◌, ℕ, List, Bool, true, false, cond, refl, Result, Ok, Err, IfOk}
use Rattle.answers.specs.Readers.{read_on}

-- a choice has a property where both arms have it
pub either {ℓ} : {A : Type ℓ} (P : A → Type 0) (t : Bool) (a b : A)
    → (t ≡ true → P a) → (t ≡ false → P b) → P (cond t a b)
either P true a b f g = f refl
either P false a b f g = g refl

-- of a value that is read on, it is enough that the value before has its own.
pub when_read : {A B : Type 0} (Q : A → Type 0) (R : B → Type 0) (r : Result A (List ℕ)) (f : A → Result B (List ℕ))
    → IfOk r Q → ((a : A) → Q a → IfOk (f a) R) → IfOk (read_on r f) R
when_read Q R (Ok a) f h k = k a h
when_read Q R (Err rest) f h k = tt
