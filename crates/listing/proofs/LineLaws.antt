-- Laws of the loops that write a list of bytes and a list of words.
use Prim.Native.Nat.{ℕ, suc, ◌+◌, ◌<◌}
use mathlib.Core.Path.{◌≡◌, refl, sym, ap, ◌∙◌}
use mathlib.Core.List.{List, [], ◌∷◌, ◌++◌, append_assoc, append-nil}
use native.Mathlib.Numerals.{add-one}
use lib.ListN.{length, take, drop, get_or, take-append-drop}
use lib.Seq.{take-suc, drop-cons}
use Rattle.listing.specs.Decimal.{decimal}
use Rattle.listing.specs.Lines.{space, words_of}
use Rattle.listing.specs.declared.Writer.{Writer}
use Rattle.listing.specs.Writing.{Fits, Writes}
use Rattle.listing.proofs.WritingLaws.{fits_same, fits_first, fits_then, writes_none, writes_then, writes_same}

-- the next of some bytes
module _ (bs : List ℕ) (i : ℕ) (h : i < length bs) where
  pub take_more : take (i + 1) bs ≡ take i bs ++ get_or bs i 0 ∷ []
  take_more = rw (add-one, take-suc bs i 0)

  split : bs ≡ take i bs ++ get_or bs i 0 ∷ drop (suc i) bs
  split = sym (take-append-drop i bs) ∙ ap (λ (x : List ℕ). take i bs ++ x) (drop-cons bs i 0 h)

words_append : (a b : List ℕ) → words_of (a ++ b) ≡ words_of a ++ words_of b
unfolding words_of
words_append [] b = refl
words_append (x ∷ a) b =
    ap (λ (y : List ℕ). (space ∷ []) ++ (decimal x ++ y)) (words_append a b)
    ∙ ap (λ (y : List ℕ). (space ∷ []) ++ y) (sym (append_assoc (decimal x) (words_of a) (words_of b)))

words_one : (x : ℕ) → words_of (x ∷ []) ≡ (space ∷ []) ++ decimal x
unfolding words_of
words_one x = ap (λ (y : List ℕ). (space ∷ []) ++ y) (append-nil (decimal x))

-- the next of some words
module _ (ws : List ℕ) (i : ℕ) (h : i < length ws) where
  word_more : words_of (take (i + 1) ws) ≡ words_of (take i ws) ++ ((space ∷ []) ++ decimal (get_or ws i 0))
  word_more = ap words_of (take_more ws i h) ∙ words_append (take i ws) (get_or ws i 0 ∷ [])
      ∙ ap (λ (x : List ℕ). words_of (take i ws) ++ x) (words_one (get_or ws i 0))

  word_room : {u v : Writer} → Fits u (words_of ws) → Writes u (words_of (take i ws)) v
      → Fits v ((space ∷ []) ++ (decimal (get_or ws i 0) ++ words_of (drop (suc i) ws)))
  unfolding words_of
  word_room f w = fits_then (words_of (get_or ws i 0 ∷ drop (suc i) ws))
      (fits_same (ap words_of (split ws i h) ∙ words_append (take i ws) (get_or ws i 0 ∷ drop (suc i) ws)) f) w

  -- so the space and the number have room, and with them one word more is written
  pub space_fits : {u v : Writer} → Fits u (words_of ws) → Writes u (words_of (take i ws)) v → Fits v (space ∷ [])
  space_fits f w = fits_first (space ∷ []) _ (word_room f w)

  pub number_fits : {u v x : Writer} → Fits u (words_of ws) → Writes u (words_of (take i ws)) v → Writes v (space ∷ []) x
      → Fits x (decimal (get_or ws i 0))
  number_fits f w p = fits_first (decimal (get_or ws i 0)) _ (fits_then _ (word_room f w) p)

  pub word_written : {u v x y : Writer} → Writes u (words_of (take i ws)) v → Writes v (space ∷ []) x
      → Writes x (decimal (get_or ws i 0)) y → Writes u (words_of (take (i + 1) ws)) y
  word_written w p q = writes_same word_more (writes_then w (writes_then p q))

pub ruleset writing_words = (writes_none, space_fits, number_fits, word_written)
