-- Bytes stored from a place on.
use mathlib.Core.Path.{◌≡◌, sym, ap, ◌∙◌}
use mathlib.Core.List.{List, ◌++◌, append_assoc}
use Prim.Native.Nat.{ℕ, ◌+◌, ◌≤◌}
use lib.ListN.{length, take, drop}
use lib.Seq.{sets, sets-eq, drop-drop}
use borrow.Rule.Slice.PartMut.{put_mid}

pub stored : (l bs ys : List ℕ) (to n : ℕ) → to + length bs ≤ length l → n ≡ length bs → ys ≡ bs → put_mid to n l ys ≡ sets l to bs
stored l bs ys to n h e f =
    rw (e, f)
    (ap (λ (rest : List ℕ). take to l ++ (bs ++ rest)) (drop-drop (length bs) to l)
    ∙ (sym (append_assoc (take to l) bs (drop (to + length bs) l)) ∙ sym (sets-eq bs l to h)))
