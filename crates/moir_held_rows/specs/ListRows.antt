-- The rows of a command to a held list, by its numbers.
-- Inner: `NearRowLaws` and `WholeLaws` prove that they are those of the memory that the list stands for.
use Rattle.std.specs.Prelude.{◌≡◌, true, ℕ, ◌-◌, ◌≤◌, ◌<◌, List, [], ◌∷◌, Bool, ◌&&◌, not, cond, eqb, length}
use Rattle.llsc.specs.declared.Order.{Order}
use Rattle.llsc.specs.Rows.{first, every, row4, row8, brings_value}
use Rattle.model.specs.SetUp.{numbers}
use Rattle.held_model.specs.Memory.{number_at}
use Rattle.moir_model.specs.Sizes.{lent_words}
use Rattle.moir_model.specs.Refusals.{row5, row6, row7}
use Rattle.moir_rows.specs.CommandRows.{lent_number}
use Rattle.moir_held_model.specs.Layout.{header_place, words_place}
use Rattle.moir_held_model.specs.Memory.{header_from, process_from, tag_from, memory_of}
use Rattle.moir_held_model.specs.Ranges.{tag_ok, header_whole, process_whole, held_in_range}

-- rows 1, 2, 3
abbrev pub list_lent : List ℕ → ℕ
list_lent l = lent_number (number_at l 0) (number_at l 1) 16 (length l - words_place)

-- what they leave
pub record LentList (l : List ℕ) : Type 0 where
  pub n_low : 1 ≤ number_at l 0
  pub n_high : number_at l 0 ≤ 16
  pub w_low : 1 ≤ number_at l 1
  pub w_high : number_at l 1 ≤ 64
  pub words : lent_words (number_at l 0) (number_at l 1) ≤ length l - words_place
  pub long : words_place ≤ length l

-- what an order to process p reads
abbrev pub touched_from : List ℕ → ℕ → Bool
touched_from l p =
    header_whole (number_at l 0) (header_from l header_place) && (process_whole (number_at l 0) (number_at l 1) (process_from l p) &&
    tag_ok (tag_from l (process_from l p).word))

-- rows 4, 9, 8, 5, 6, 7
abbrev pub own_number : List ℕ → ℕ → Order → ℕ → ℕ
own_number l p o value =
    let q = process_from l p in
    cond (row4 (number_at l 0) p).holds 4 (cond (not (touched_from l p)) 9
    (first (row8 o (number_at l 1) value ∷ row5 o q ∷ row6 o q ∷ row7 o q ∷ [])))

-- what all these rows leave
pub record Admits (l : List ℕ) (p : ℕ) (o : Order) (value : List ℕ) : Type 0 where
  pub list : LentList l
  pub below : p < number_at l 0
  pub header : header_whole (number_at l 0) (header_from l header_place) ≡ true
  pub process : process_whole (number_at l 0) (number_at l 1) (process_from l p) ≡ true
  pub tag : tag_ok (tag_from l (process_from l p).word) ≡ true
  pub value_words : brings_value o ≡ true → length value ≡ number_at l 1

-- row 9 over the whole list
abbrev pub list_in_range : List ℕ → ℕ → ℕ → Bool
list_in_range l n w =
    header_whole n (header_from l header_place) && (every (λ k. tag_ok (tag_from l k)) (numbers 0 w) &&
    every (λ p. process_whole n w (process_from l p)) (numbers 0 n))

-- the number of the first of rows 1, 2, 3, 9 that holds, 0 for none
abbrev pub memory_number : List ℕ → ℕ
memory_number l = cond (eqb (list_lent l) 0) (cond (not (held_in_range (memory_of l))) 9 0) (list_lent l)
