-- What the reader of listings is worth: it takes exactly the listings of 01's shape, and gains what their answers add.
use Prim.Native.Nat.{ℕ, zero, suc, ◌≤◌}
use mathlib.Core.Path.{◌≡◌, refl, sym, ap, ◌∙◌}
use mathlib.Core.List.{List, [], ◌∷◌, ◌++◌}
use mathlib.Core.Bool.{Bool, true, false, not, cond, true≢false}
use native.Mathlib.Omega.{arith}
use lib.ListN.{length, length-append}
use Rattle.std.specs.Prelude.{Result, Ok, Err, IfOk}
use Rattle.std.specs.Option.{is_some}
use Rattle.std.specs.Result.{is_ok, result_err, IsOk}
use Rattle.std.proofs.lemmas.Result.{IfOk-at_ok}
use Rattle.answers.specs.declared.Sum.{Sum}
use Rattle.answers.specs.declared.Gain.{Gain}
use Rattle.answers.specs.Shape.{Answer, line_of, lines_of, last_of, Shaped}
use Rattle.answers.specs.Gains.{tally, gained}
use Rattle.answers.specs.Readers.{first, is_digit, Read, Ended, read_on, answer_in, last_in, lines_in, listing_in, with_line, sums_in, sums_read}
use Rattle.answers.proofs.Sound.{lines_sound}
use Rattle.answers.proofs.Complete.{lines_read}
use Rattle.answers.proofs.WholeLaws.{line_bytes_lem}

-- a line has at least one byte
few_lines : (more : List Answer) → length more ≤ length (lines_of more)
unfolding lines_of
few_lines [] = omega arith
few_lines (a ∷ more) = omega (arith, length-append (line_of a) (lines_of more), line_bytes_lem a, few_lines more)

-- a listing of the shape is read to its end, and the sums gain what its answers add;
pub reads_shaped : (n w : ℕ) (l : List Sum) {bs : List ℕ} → n ≤ 16 → (s : Shaped n w bs)
    → listing_in n w l bs ≡ Ok (gained l s.answers)
unfolding listing_in
reads_shaped n w l {bs} few s =
    let more : List Answer = s.answers in
    let whole : List ℕ = lines_of more ++ last_of s.last in
    ap (λ (x : List ℕ). lines_in n w (suc (length x)) l x) s.bytes
    ∙ lines_read n w few s.last s.last_fits (suc (length whole)) l more s.fit
    (omega (arith, few_lines more, length-append (lines_of more) (last_of s.last)))

-- what is read to its end is of the shape.
shape_of : {A B S : Type 0} (r : Result A B) → IsOk r → IfOk r (λ _. S) → S
shape_of (Ok a) e h = h
shape_of (Err b) e h = absurd (true≢false (sym e))

pub shaped_read : (n w : ℕ) (l : List Sum) (bs : List ℕ) → IsOk (listing_in n w l bs) → Shaped n w bs
unfolding listing_in
shaped_read n w l bs h = shape_of (listing_in n w l bs) h (lines_sound n w (suc (length bs)) l bs)

-- The sums that are read of a right listing are its sums.
abbrev Its : Result (List Sum) (List ℕ) → List Sum → Type 0
Its r m = IfOk r (λ l. m ≡ l)

its_either : (t : Bool) (r x : Result (List Sum) (List ℕ)) (m y : List Sum) → Its r m → Its x y → Its (cond t r x) (cond t m y)
its_either true r x m y h k = h
its_either false r x m y h k = k

its_read : (r : Read Gain) (l : List Sum) (f : Gain × List ℕ → Result (List Sum) (List ℕ)) (g : Gain × List ℕ → List Sum)
    → ((a : Gain × List ℕ) → Its (f a) (g a)) → Its (read_on r f) (with_line r l g)
its_read (Ok a) l f g h = h a
its_read (Err rest) l f g h = tt

its_last : (z : Ended) (l : List Sum) → Its (read_on z (λ _. Ok l)) l
its_last (Ok done) l = refl
its_last (Err rest) l = tt

its : (n w f : ℕ) (l : List Sum) (bs : List ℕ) → Its (lines_in n w f l bs) (sums_in n w f l bs)
unfolding lines_in sums_in
its n w zero l bs = tt
its n w (suc f) l bs =
    its_either (is_digit (first bs)) _ _ _ _
    (its_read (answer_in n w bs) l _ _ (λ a. its n w f (tally l a.0.process a.0.sum) a.1))
    (its_last (last_in bs) l)

pub sums_of_right : (n w : ℕ) (l : List Sum) (bs : List ℕ) {m : List Sum} → listing_in n w l bs ≡ Ok m → sums_read n w l bs ≡ m
unfolding listing_in sums_read
sums_of_right n w l bs {m} e = IfOk-at_ok (λ k. sums_in n w (suc (length bs)) l bs ≡ k) e (its n w (suc (length bs)) l bs)

-- Whether and where a listing breaks does not depend on the sums.
abbrev Alike : {A B : Type 0} → Result A (List ℕ) → Result B (List ℕ) → Type 0
Alike r s = result_err r ≡ result_err s

either_way : {A B : Type 0} (t : Bool) (r x : Result A (List ℕ)) (s y : Result B (List ℕ)) → Alike r s → Alike x y
    → Alike (cond t r x) (cond t s y)
either_way true r x s y h k = h
either_way false r x s y h k = k

read_alike : {A B C : Type 0} (r : Result A (List ℕ)) (f : A → Result B (List ℕ)) (g : A → Result C (List ℕ))
    → ((a : A) → Alike (f a) (g a)) → Alike (read_on r f) (read_on r g)
read_alike (Ok a) f g h = h a
read_alike (Err rest) f g h = refl

alike : (n w f : ℕ) (l m : List Sum) (bs : List ℕ) → Alike (lines_in n w f l bs) (lines_in n w f m bs)
unfolding lines_in
alike n w zero l m bs = refl
alike n w (suc f) l m bs =
    either_way (is_digit (first bs)) _ _ _ _
    (read_alike (answer_in n w bs) _ _ (λ a. alike n w f (tally l a.0.process a.0.sum) (tally m a.0.process a.0.sum) a.1))
    (read_alike (last_in bs) _ _ (λ _. refl))

pub same_rest : (n w : ℕ) (l m : List Sum) (bs : List ℕ) → result_err (listing_in n w l bs) ≡ result_err (listing_in n w m bs)
unfolding listing_in
same_rest n w l m bs = alike n w (suc (length bs)) l m bs

-- what has no wrong byte is right
right_by : {A B : Type 0} (r : Result A B) → is_ok r ≡ not (is_some (result_err r))
right_by (Ok a) = refl
right_by (Err b) = refl

pub same_right : (n w : ℕ) (l m : List Sum) (bs : List ℕ) → is_ok (listing_in n w l bs) ≡ is_ok (listing_in n w m bs)
same_right n w l m bs =
    right_by (listing_in n w l bs) ∙ ap (λ o. not (is_some o)) (same_rest n w l m bs) ∙ sym (right_by (listing_in n w m bs))
