-- What rows 1, 2 and 3 leave of a list, and what of a process that is in range.
use mathlib.Core.Path.{◌≡◌, refl}
use mathlib.Core.List.{List, []}
use mathlib.Core.Bool.{true, false}
use Prim.Native.Nat.{ℕ, ◌+◌, ◌-◌, ◌*◌, ◌≤◌}
use native.Mathlib.Nat.{mul-le-mul_right}
use native.Mathlib.Omega.{arith}
use borrow.Author.Tests.{ltb-false}
use lib.ListN.{length, get_or}
use Rattle.llsc.specs.Rows.{lent_rows}
use Rattle.serving.proofs.RefusalFacts.{or_false, no_row, none_holds, inside, and_true}
use Rattle.held_model.specs.Memory.{number_at}
use Rattle.moir_model.specs.declared.Process.{Process}
use Rattle.moir_model.specs.Sizes.{lent_words}
use Rattle.moir_model.specs.Refusals.{process_ok}
use Rattle.moir_machine.proofs.RowLaws.{InRange, in_range_lem}
use Rattle.moir_rows.specs.CommandRows.{lent_number}
use Rattle.moir_held_model.specs.Layout.{words_place}
use Rattle.moir_held_model.specs.Ranges.{process_tags_ok, process_whole}
use Rattle.moir_held_rows.specs.ListRows.{list_lent, LentList}

pub lent_list : (l : List ℕ) → list_lent l ≡ 0 → LentList l
unfolding lent_number
lent_list l e =
    let n = number_at l 0 in let w = number_at l 1 in
    let rs = lent_rows n w (lent_words n w) 16 (length l - words_place) [] in
    let z : (i : ℕ) → (get_or rs i no_row).holds ≡ false = none_holds rs refl e in
    let a = inside 1 16 n (z 0) in
    let b = inside 1 64 w (z 1) in
    let d = ltb-false _ _ (or_false _ _ (z 2)).0 in
    let more : 1 * w ≤ (3 * n + 1) * w = mul-le-mul_right w (omega arith) in
    record { n_low = a.0; n_high = a.1; w_low = b.0; w_high = b.1; words = d; long = omega (arith, d, more, b) }

-- a process in range: its word place is below W, and its count is small
pub whole_ranges : (n w : ℕ) (q : Process) → w ≤ 64 → process_whole n w q ≡ true → InRange n w q
whole_ranges n w q h e = in_range_lem n w q h (and_true (process_ok n w q) (process_tags_ok q) e).0
