-- A part of the words written over, as a run of words set.
use Rattle.std.proofs.Common.{◌≡◌, ℕ, List, ◌+◌, ◌≤◌, length}
use Rattle.std.proofs.lemmas.List.{append_assoc, drop-drop}
use Rattle.std.proofs.lemmas.List.Edits.{sets, sets-eq}
use borrow.Rule.Slice.PartMut.{put_mid}

pub part_written : (a k : ℕ) (xs vs : List ℕ) {ys : List ℕ}
    → ys ≡ vs → k ≡ length vs → a + length vs ≤ length xs → put_mid a k xs ys ≡ sets xs a vs
part_written a k xs vs e f h = rw (e, f, sets-eq vs xs a h, append_assoc, drop-drop)
