-- Row 9 over the numbers of a list is row 9 of the memory that it stands for.
use mathlib.Core.Path.{◌≡◌, sym, ap₂, ◌∙◌}
use mathlib.Core.List.{List}
use mathlib.Core.Bool.{Bool, ◌&&◌}
use Prim.Native.Nat.{ℕ}
use Rattle.held_model.specs.Memory.{number_at}
use Rattle.held_model.proofs.TabLaws.{tab_every}
use Rattle.moir_held_model.specs.Layout.{header_place}
use Rattle.moir_held_model.specs.Memory.{header_from, process_from, tag_from, memory_of}
use Rattle.moir_held_model.specs.Ranges.{tag_ok, header_whole, process_whole, held_in_range}
use Rattle.moir_held_rows.specs.ListRows.{LentList, list_in_range}

module _ (l : List ℕ) (a : LentList l) where
  abbrev n : ℕ
  n = number_at l 0

  abbrev w : ℕ
  w = number_at l 1

  whole : list_in_range l n w ≡ held_in_range (memory_of l)
  whole =
      ap₂ (λ (s t : Bool). header_whole n (header_from l header_place) && (s && t))
      (sym (tab_every tag_ok (tag_from l) w 64 a.w_high)) (sym (tab_every (process_whole n w) (process_from l) n 16 a.n_high))

  pub in_range_there : {x y : ℕ} {t : Bool} → x ≡ n → y ≡ w → t ≡ list_in_range l x y → t ≡ held_in_range (memory_of l)
  in_range_there e f h = rw (e, f) at h ∙ whole
