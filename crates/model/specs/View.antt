-- The view (01, "The view"): the caller lends the set-up value and a list of the values written by successes, in order.
use Rattle.std.specs.Prelude.{ℕ, ◌+◌, ◌-◌, ◌*◌, List, cond, eqb, take, drop}
use Rattle.std.specs.Borrow.{Bor}
use Rattle.llsc.specs.Rows.{first}
use Rattle.model.specs.Refusals.{view_rows}

-- "A second entry on the same inputs gives the number, 0 for none."
unfoldable pub view_number : ℕ → List ℕ → List ℕ → ℕ → ℕ
view_number w value written k = first (view_rows w value written k)

-- the two slices that are lent
pub data Lent : Type 0 where
  set_up_value : Lent
  written_list : Lent

-- A part of a lent slice: which slice, the number of its word with which the part begins, and how many words it has.
pub record Part : Type 0 where
  pub slice : Lent
  pub start : ℕ
  pub count : ℕ

-- "For success 0 it gets the set-up value's own words back, else that part of the list":
-- success k is value k of the list
abbrev pub success : ℕ → ℕ → Part
success w k =
    cond (eqb k 0) (record { slice = set_up_value; start = 0; count = w })
    (record { slice = written_list; start = (k - 1) * w; count = w })

-- "each refusal gives an empty part of the set-up value, and nothing else does": W is at least 1
unfoldable pub view_part : ℕ → List ℕ → List ℕ → ℕ → Part
view_part w value written k =
    cond (eqb (view_number w value written k) 0) (success w k) (record { slice = set_up_value; start = 0; count = 0 })

abbrev pub slice_of : {A : Type 0} → Lent → A → A → A
slice_of set_up_value value written = value
slice_of written_list value written = written

-- "no copy": where the part lies, which is its slice's block of memory and the byte in it, 8 bytes to a word
abbrev pub place_of : Part → ℕ × ℕ → ℕ × ℕ
place_of part slice = (slice.0, slice.1 + part.start * 8)

abbrev pub words_of : Part → List ℕ → List ℕ
words_of part slice = take part.count (drop part.start slice)

-- what a view gives: the place of that part and its words
unfoldable pub view : ℕ → Bor (List ℕ) → Bor (List ℕ) → ℕ → (ℕ × ℕ) × List ℕ
view w value written k =
    let part = view_part w value.now written.now k in
    let slice = slice_of part.slice value written in
    (place_of part slice.ref_ptr, words_of part slice.now)
