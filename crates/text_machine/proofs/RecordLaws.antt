-- The sixteen records that a run holds: as many as are lent, and the filler after them.
use mathlib.Core.Path.{◌≡◌, refl, sym, ◌∙◌}
use mathlib.Core.List.{List}
use mathlib.Core.Bool.{Bool, true, false, cond}
use Prim.Native.Nat.{ℕ, ◌≤◌}
use native.Mathlib.Omega.{arith}
use lib.Dec.{ltb}
use lib.ListN.{length, take, get_or-eq_default}
use lib.Seq.{take_all}
use borrow.Author.Tests.{ltb-true, ltb-false}
use Rattle.model.specs.declared.Process.{Process}
use Rattle.model.specs.Records.{no_process}
use Rattle.lent.specs.Gathered.{gathered}
use Rattle.text_entry.specs.declared.state.Held.{Held}
use Rattle.text_entry.specs.RunState.{Filled, empty_held}
use Rattle.text_machine.specs.Finished.{at_most_sixteen}

-- where no process is lent, the filler stands as gathering leaves it
pub fillers : (held : Held) → held ≡ empty_held → held.all ≡ gathered (take 16 held.all) no_process 16
unfolding gathered
fillers held e = rw e refl

-- of more than sixteen, sixteen are looked at
pub sixteen_most : (len : ℕ) → at_most_sixteen len ≤ 16
sixteen_most len = pick (ltb 16 len) refl
  where
    pick : (t : Bool) → ltb 16 len ≡ t → cond t 16 len ≤ 16
    pick true e = omega arith
    pick false e = ltb-false 16 len e

pub take_sixteen : (len : ℕ) (list : List Process) → length list ≡ 16 → take (at_most_sixteen len) list ≡ take len list
take_sixteen len list l = pick (ltb 16 len) refl
  where
    pick : (t : Bool) → ltb 16 len ≡ t → take (cond t 16 len) list ≡ take len list
    pick true e = let h = ltb-true 16 len e in take_all 16 list (omega arith) ∙ sym (take_all len list (omega arith))
    pick false e = refl

pub filled_sixteen : {len : ℕ} {list : List Process} → Filled len list → Filled (at_most_sixteen len) list
filled_sixteen {len} {list} f = pick (ltb 16 len) refl
  where
    pick : (t : Bool) → ltb 16 len ≡ t → Filled (cond t 16 len) list
    pick true e = record { sixteen = f.sixteen; rest = λ j k. get_or-eq_default list no_process {n = j} (omega (arith, f.sixteen)) }
    pick false e = f

pub sixteen_filled : {len : ℕ} {list : List Process} → Filled (at_most_sixteen len) list → Filled len list
sixteen_filled {len} f = record { sixteen = f.sixteen; rest = λ j k. f.rest j (omega (arith, most)) }
  where
    pick : (t : Bool) → ltb 16 len ≡ t → cond t 16 len ≤ len
    pick true e = omega (arith, ltb-true 16 len e)
    pick false e = omega arith

    most : at_most_sixteen len ≤ len
    most = pick (ltb 16 len) refl
