-- Laws of the calls' indices, for each way that the code returns.
use mathlib.Core.Path.{◌≡◌, sym, ap, ◌∙◌}
use Prim.Native.Nat.{ℕ, ◌+◌, ◌*◌, ◌≤◌}
use mathlib.Core.List.{List}
use mathlib.Core.Bool.{cond}
use borrow.Author.Tests.{le-ltb}
use Rattle.judge.specs.LogCalls.{width_told, first_of}

module _ (ns : List ℕ) where
  abbrev at_call : ℕ → ℕ → ℕ
  at_call call w = 2 + w + call * (6 + w)

  pub first_number : (call w : ℕ) → w ≡ width_told ns → call ≤ 65536 → at_call call w ≡ first_of ns call
  first_number call w e h =
      ap (at_call call) e ∙ sym (ap (λ t. cond t 0 (at_call call (width_told ns))) (le-ltb 65536 call h))
