-- A view of a written value (01, "The view") for C, which gets a part by its place in place of a reference.
use Rattle.std.specs.Prelude.{ℕ, List, Bool, true, false}
use Rattle.model.specs.View.{Lent, set_up_value, written_list, view_number, view_part}
use Rattle.besklaun.specs.declared.views.View.{View}

abbrev pub is_written : Lent → Bool
is_written set_up_value = false
is_written written_list = true

-- the number of the refusal, 0 for none, and the part: whether it lies in the list of the values written or in the set-up
-- value, the word with which it begins, and how many words it has
abbrev pub view_told : ℕ → List ℕ → List ℕ → ℕ → View
view_told w value written k =
    let part = view_part w value written k in
    record { number = view_number w value written k; written = is_written part.slice; start = part.start; count = part.count }
