-- The rows of W words that a station's records take.
use mathlib.Core.Path.{◌≡◌, ap, ◌∙◌}
use mathlib.Core.List.{List, ◌++◌, append_assoc}
use Prim.Native.Nat.{ℕ, suc, ◌+◌, ◌-◌, ◌*◌, ◌≤◌, ◌<◌}
use native.Mathlib.Nat.{mul-le-mul_right}
use native.Mathlib.Omega.{arith}
use lib.ListN.{replicate, replicate-append-replicate}
use Rattle.model.specs.Sizes.{buffers, lent_words}
use Rattle.station.specs.StationSetUp.{blocks}

-- the buffers of record i end before those of a later record begin
pub below_record : (N i j : ℕ) → i < j → i * buffers N + buffers N ≤ j * buffers N
below_record N i j h = let z : suc i * buffers N ≤ j * buffers N = mul-le-mul_right (buffers N) h in omega arith

-- the words of one record at a set-up
pub one_block : (n w : ℕ) (value : List ℕ) → 1 ≤ n → blocks 1 n w value ≡ value ++ replicate (lent_words n w - w) 0
one_block n w value h =
    let y : 1 * w ≤ buffers n * w = mul-le-mul_right w (omega arith) in
    let z : buffers n * w - w + 2 * n * w ≡ lent_words n w - w = omega arith in
    append_assoc value (replicate (buffers n * w - w) 0) (replicate (2 * n * w) 0)
    ∙ ap (λ (r : List ℕ). value ++ r) (replicate-append-replicate (buffers n * w - w) (2 * n * w) 0 ∙ ap (λ (k : ℕ). replicate k 0) z)
