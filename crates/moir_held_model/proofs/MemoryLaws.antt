-- The memory of a list, read where its numbers stand.
use mathlib.Core.Path.{◌≡◌, refl}
use mathlib.Core.List.{List}
use Prim.Native.Nat.{ℕ, ◌+◌, ◌<◌}
use native.Mathlib.Omega.{arith}
use lib.ListN.{length, get_or}
use Rattle.moir_model.specs.Records.{record_at, no_process}
use Rattle.moir_model.specs.Machine.{Shaped}
use Rattle.held_model.proofs.TabLaws.{tab_length, tab_at}
use Rattle.held_model.proofs.MemoryLaws.{Same}
use Rattle.moir_held_model.specs.Layout.{process_place}
use Rattle.moir_held_model.specs.Memory.{process_from, tag_from, memory_of}

module _ (l : List ℕ) where
  pub record_there : (p : ℕ) → p < 16 → record_at (memory_of l).records (record { 0 = p }) ≡ process_from l p
  record_there p h = tab_at (process_from l) 16 p no_process h

  pub tag_there : (k : ℕ) → k < 64 → get_or (memory_of l).bench.tags k 0 ≡ tag_from l k
  tag_there k h = tab_at (tag_from l) 64 k 0 h

  pub sixteen : length (memory_of l).records ≡ 16
  sixteen = tab_length (process_from l) 0 16

  -- every list's memory has the lengths that its types give
  pub memory_shaped : Shaped (memory_of l)
  memory_shaped = record { tags = tab_length (tag_from l) 0 64 }

-- two lists that have the same numbers of a process
pub process_same : (l m : List ℕ) (p : ℕ) → Same l m (process_place p) (process_place p + 17) → process_from m p ≡ process_from l p
process_same l m p s =
    let k = process_place p in
    rw (
      s k (omega arith) (omega arith),
      s (k + 1) (omega arith) (omega arith),
      s (k + 2) (omega arith) (omega arith),
      s (k + 3) (omega arith) (omega arith),
      s (k + 4) (omega arith) (omega arith),
      s (k + 5) (omega arith) (omega arith),
      s (k + 5 + 1) (omega arith) (omega arith),
      s (k + 7) (omega arith) (omega arith),
      s (k + 7 + 1) (omega arith) (omega arith),
      s (k + 9) (omega arith) (omega arith),
      s (k + 9 + 1) (omega arith) (omega arith),
      s (k + 11) (omega arith) (omega arith),
      s (k + 11 + 1) (omega arith) (omega arith),
      s (k + 13) (omega arith) (omega arith),
      s (k + 13 + 1) (omega arith) (omega arith),
      s (k + 15) (omega arith) (omega arith),
      s (k + 15 + 1) (omega arith) (omega arith),
    ) refl
