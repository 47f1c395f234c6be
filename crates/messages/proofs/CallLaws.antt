-- The calls that are made of a bench's records: each of its record, as `OpenCalls` finds it.
use Rattle.std.proofs.Common.{◌≡◌, refl, ℕ, zero, suc, ◌<◌, List, [], ◌∷◌, length, map, get_or, arith, sym, ◌∙◌}
use Rattle.std.proofs.lemmas.List.{ext_get_or, get_or-map, length-map}
use Rattle.std.specs.Prelude.{None}
use Rattle.model.specs.declared.Process.{Process}
use Rattle.messages.specs.OpenCalls.{call_of, call_at}

pub told_at : (p : ℕ) (records : List Process) → get_or (map call_of records) p None ≡ call_at p records
told_at p [] = refl
told_at zero (q ∷ records) = refl
told_at (suc p) (q ∷ records) = told_at p records

-- a list of sixteen whose elements are made one by one is made whole
pub made_whole : {A B : Type 0} (f : A → B) (d : A) (e : B) (xs : List A) (ys : List B) → length xs ≡ 16 → length ys ≡ 16
    → ((j : ℕ) → j < 16 → get_or ys j e ≡ f (get_or xs j d)) → ys ≡ map f xs
made_whole f d e xs ys n m one =
    ext_get_or e ys (map f xs) (m ∙ sym n ∙ sym (length-map xs f))
    (λ j h. one j (omega (arith, h, m)) ∙ sym (get_or-map f xs j d e (omega (arith, h, m, n))))
