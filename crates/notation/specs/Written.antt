-- The numbers of a text written again: what a text would be with each number in decimal, as a listing writes it, and its
-- gaps as they stand. `Theorems` has that every right text is so already.
-- CR 3: "a number read and written again gives the same digits."
use Rattle.std.specs.Prelude.{ℕ, ◌≡◌, List, [], ◌∷◌, ◌++◌}
use Rattle.std.proofs.Math.Seq.{slice}
use Rattle.listing.specs.Quoted.{byte}
use Rattle.listing.specs.Decimal.{decimal}
use Rattle.notation.specs.declared.Entry.{Entry}
use Rattle.notation.specs.declared.Entry.TheVariants.{StartLl, StartVl, StartSc, Step, Finish}
use Rattle.notation.specs.Bytes.{space, line_feed, entry_of}
use Rattle.notation.specs.Grammar.{Item, Items, Lead, Schedule, Text, marked, offer, group, item, fresh, apart, empty, items}

-- the first line of three numbers
abbrev pub first_written : ℕ → ℕ → ℕ → List ℕ
first_written n w v = decimal n ++ space ∷ (decimal w ++ space ∷ (decimal v ++ line_feed ∷ []))

-- the item of an entry
abbrev pub entry_written : Entry → List ℕ
entry_written (StartLl p) = decimal p ++ byte "l" ∷ []
entry_written (StartVl p) = decimal p ++ byte "v" ∷ []
entry_written (StartSc p k) = decimal p ++ byte "s" ∷ decimal k
entry_written (Step p) = decimal p ++ byte "." ∷ []
entry_written (Finish p) = decimal p ++ byte "!" ∷ []

-- the count of a group and its `(`
abbrev pub count_written : ℕ → List ℕ
count_written n = decimal n ++ byte "(" ∷ []

-- items, groups among them
unfoldable mutual
  pub item_written : {d : ℕ} → Item d → List ℕ
  item_written (marked ds p c m n k) = entry_written (entry_of m p)
  item_written (offer ds p c ks v n k w) = entry_written (StartSc p v)
  item_written (group ds n a k ok o i g z t u) = count_written n ++ (items_written i ++ (g ++ byte ")" ∷ []))

  pub items_written : {d : ℕ} → Items d → List ℕ
  items_written (item l i) = lead_written l ++ item_written i

  pub lead_written : {d : ℕ} → Lead d → List ℕ
  lead_written (fresh g t) = g
  lead_written (apart i c g k t) = items_written i ++ c ∷ g

unfoldable pub schedule_written : {d : ℕ} → Schedule d → List ℕ
schedule_written (empty g t) = g
schedule_written (items i g t) = items_written i ++ g

-- the whole text
unfoldable pub written : {d : ℕ} → Text d → List ℕ
written t = first_written t.first.n t.first.w t.first.initial ++ schedule_written t.schedule

-- the items of entries, written again, stand in s from places on, one for each entry
pub data Standing (s : List ℕ) : List ℕ → List Entry → Type 0 where
  none : Standing s [] []
  more : {p : ℕ} {e : Entry} {ps : List ℕ} {es : List Entry} (next : ℕ) → slice p next s ≡ entry_written e → Standing s ps es → Standing s (p ∷ ps) (e ∷ es)
