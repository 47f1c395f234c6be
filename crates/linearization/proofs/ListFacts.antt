-- Facts about lists: the numbers of a set-up, and a row of words cut out, over its half words.
use mathlib.Core.Path.{◌≡◌, refl, sym, ap, ◌∙◌}
use mathlib.Core.List.{List}
use Prim.Native.Nat.{ℕ, zero, suc, ◌+◌, ◌≤◌, ◌<◌}
use native.Mathlib.Omega.{arith}
use lib.ListN.{length, get_or, take, drop}
use Rattle.model.specs.Sizes.{halves}
use Rattle.model.specs.Words.{word_of, half}
use Rattle.model.specs.SetUp.{numbers}
use Rattle.laws.proofs.ListFacts.{cut_tab, tab_whole}
use Rattle.linearization.proofs.WordLists.{cells, words_of, words_of_halves}

-- the numbers a, a + 1, ..
pub numbers_length : (a n : ℕ) → length (numbers a n) ≡ n
numbers_length a zero = refl
numbers_length a (suc n) = ap suc (numbers_length (suc a) n)

pub numbers_at : (a n j : ℕ) → j < n → get_or (numbers a n) j 0 ≡ a + j
numbers_at a zero j h = absurd (omega arith)
numbers_at a (suc n) zero h = omega arith
numbers_at a (suc n) (suc j) h = numbers_at (suc a) n j (omega arith) ∙ (let z : suc a + j ≡ a + suc j = omega arith in z)

-- w words of a list from place a on, and a list of w words, by their half words
pub cut_words : (w a : ℕ) (m : List ℕ) → a + w ≤ length m → take w (drop a m) ≡ words_of (halves w) (λ k. half k (get_or m (a + word_of k) 0))
cut_words w a m h = cut_tab w a m h ∙ sym (words_of_halves w (λ k. get_or m (a + k) 0))

pub words_whole : (w : ℕ) (v : List ℕ) → length v ≡ w → words_of (halves w) (cells v) ≡ v
words_whole w v e = words_of_halves w (λ k. get_or v k 0) ∙ tab_whole w v e
