-- A function's first cells, joined two by two, as a list of words.
use mathlib.Core.Path.{◌≡◌, ap, ap₂, ◌∙◌}
use mathlib.Core.List.{List}
use Prim.Native.Nat.{ℕ, ◌+◌, ◌*◌, ◌/◌}
use native.Mathlib.Omega.{arith}
use lib.ListN.{get_or}
use Rattle.model.specs.Sizes.{halves}
use Rattle.model.specs.Words.{word_of, half_values, half}
use Rattle.model.proofs.HalfLaws.{halves_joined}
use Rattle.laws.proofs.Parts.{SamePart, tab, tab_ext}

-- the cells of a buffer are half words: W of them, low half first, make W / 2 words
abbrev pub words_of : ℕ → (ℕ → ℕ) → List ℕ
words_of W f = tab (W / 2) (λ k. f (2 * k) + f (2 * k + 1) * half_values)

pub words_of_ext : (W : ℕ) (f g : ℕ → ℕ) → SamePart f g W → words_of W f ≡ words_of W g
words_of_ext W f g e = tab_ext (W / 2) _ _ (λ k h. ap₂ (λ a b. a + b * half_values) (e (2 * k) (omega arith)) (e (2 * k + 1) (omega arith)))

-- the cells of a list of words
abbrev pub cells : List ℕ → ℕ → ℕ
cells ws k = half k (get_or ws (word_of k) 0)

-- halves joined are the words
pub words_of_halves : (w : ℕ) (f : ℕ → ℕ) → words_of (halves w) (λ k. half k (f (word_of k))) ≡ tab w f
words_of_halves w f =
    ap (λ n. tab n (λ k. half (2 * k) (f (word_of (2 * k))) + half (2 * k + 1) (f (word_of (2 * k + 1))) * half_values)) (let z : halves w / 2 ≡ w = omega arith in z)
    ∙ tab_ext w _ _ (λ k h. ap₂ (λ a b. half (2 * k) (f a) + half (2 * k + 1) (f b) * half_values) (let z : 2 * k / 2 ≡ k = omega arith in z)
    (let z : (2 * k + 1) / 2 ≡ k = omega arith in z) ∙ halves_joined k (f k))
