-- The length of a room of zeros, by a law, since it is too long to be counted out.
use mathlib.Core.Path.{◌≡◌, sym}
use Prim.Native.Nat.{ℕ}
use lib.ListN.{length, replicate, length-replicate}

pub zeros : (n : ℕ) → n ≡ length (replicate {A = ℕ} n 0)
zeros n = sym (length-replicate n 0)
