-- The sixteen records by value: those that are lent, and the filler after them.
use mathlib.Core.Path.{◌≡◌, refl, sym, ap, ◌∙◌}
use mathlib.Core.List.{List}
use mathlib.Core.Bool.{Bool, true, false}
use Prim.Native.Nat.{ℕ, ◌<◌, ◌≤◌}
use native.Mathlib.Omega.{arith}
use lib.Dec.{ltb}
use lib.ListN.{length, get_or, set, take, length-set, length-take, get_or-eq_default}
use lib.Seq.{length-take-le, get_or-set_other, get_or-take, ext_get_or}
use borrow.Author.Tests.{ltb-true, ltb-false}
use Rattle.model.specs.declared.Process.{Process}
use Rattle.model.specs.Records.{no_process}
use Rattle.lent.specs.Gathered.{gathered}
use Rattle.lent.proofs.GatheredLaws.{gathered_length, gathered_here}
use Rattle.text_entry.specs.RunState.{Filled}

-- a store at a lent place
pub filled_set : {len : ℕ} {list : List Process} (i : ℕ) (q : Process) → i < len → Filled len list → Filled len (set list i q)
filled_set {list = list} i q h f = record {
  sixteen = length-set list i q ∙ f.sixteen;
  rest = λ j k. get_or-set_other list i j q no_process (λ e. omega (arith, e)) ∙ f.rest j k;
}

-- the filler is what gathering leaves
module _ (len : ℕ) (all : List Process) where
  abbrev lent : List Process
  lent = take len all

  past : all ≡ gathered lent no_process 16 → (j : ℕ) → len ≤ j → (t : Bool) → ltb j 16 ≡ t → get_or all j no_process ≡ no_process
  past e j k true t =
      ap (λ (x : List Process). get_or x j no_process) e ∙ gathered_here lent no_process 16 j (omega arith) (ltb-true j 16 t) ∙
      get_or-eq_default lent no_process {n = j} (omega (arith, length-take len all))
  past e j k false t = get_or-eq_default all no_process {n = j} (omega (arith, ltb-false j 16 t, ap length e, gathered_length lent no_process 16))

  pub gathered_filled : all ≡ gathered lent no_process 16 → Filled len all
  gathered_filled e = record { sixteen = ap length e ∙ gathered_length lent no_process 16; rest = λ j k. past e j k (ltb j 16) refl }

  same_at : Filled len all → (j : ℕ) → j < 16 → (t : Bool) → ltb j len ≡ t → get_or lent j no_process ≡ get_or all j no_process
  same_at f j h true t = get_or-take len all j no_process (ltb-true j len t)
  same_at f j h false t = let k = ltb-false j len t in get_or-eq_default lent no_process {n = j} (omega (arith, length-take len all)) ∙ sym (f.rest j k)

  pub filled_gathered : Filled len all → all ≡ gathered lent no_process 16
  filled_gathered f = ext_get_or no_process all (gathered lent no_process 16)
      (f.sixteen ∙ sym (gathered_length lent no_process 16))
      (λ j h. let k : j < 16 = omega (arith, f.sixteen) in sym (gathered_here lent no_process 16 j (omega arith) k ∙ same_at f j k (ltb j len) refl))

-- how many records are lent
pub lent_length : {len : ℕ} {list : List Process} → len ≤ 16 → Filled len list → length (take len list) ≡ len
lent_length {len} {list} h f = length-take-le len list (omega (arith, f.sixteen))
