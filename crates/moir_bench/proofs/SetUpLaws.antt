-- A set-up that is not refused has its records lent, and writes the first n of them.
use mathlib.Core.Path.{◌≡◌, refl, sym, ◌∙◌}
use mathlib.Core.List.{List, ◌++◌}
use Prim.Native.Nat.{ℕ, ◌+◌, ◌≤◌}
use native.Mathlib.Omega.{arith}
use lib.ListN.{length, take, drop, replicate, length-replicate, length-take}
use borrow.Author.Tests.{ne_eqb}
use Rattle.std.proofs.lemmas.List.Edits.{sets-eq}
use Rattle.moir_model.specs.declared.Bench.{Bench}
use Rattle.moir_model.specs.declared.Process.{Process}
use Rattle.moir_model.specs.SetUp.{process_at_set_up, records_at_set_up}
use Rattle.moir_machine.specs.SetUpByValue.{prepared, records_set}
use Rattle.moir_bench.specs.Lent.{memory}
use Rattle.llsc.proofs.RefusalNumbers.{number_some}
use Rattle.moir_machine.proofs.SetUpLaws.{records_fit, prepared_number, set_up_law}

pub records_lent : (b : Bench) (rs : List Process) (ws : List ℕ) (n w : ℕ) (v : List ℕ) → 0 ≡ (prepared b (length rs) n w v ws).0 → n ≤ length rs
records_lent b rs ws n w v e = records_fit n w (length rs) (length ws) (length v) (sym (e ∙ prepared_number b (length rs) n w v ws))

pub first_taken : (b : Bench) (rs : List Process) (ws : List ℕ) (n w : ℕ) (v : List ℕ) → 0 ≡ (prepared b (length rs) n w v ws).0 → n ≡ length (take n rs)
first_taken b rs ws n w v e = omega (arith, length-take n rs, records_lent b rs ws n w v e)

pub first_written : (rs : List Process) (n : ℕ) {q : Process} {l : List Process} → l ≡ replicate (length (take n rs)) q
    → q ≡ process_at_set_up → n ≤ length rs → l ++ drop n rs ≡ records_at_set_up rs n
first_written rs n e f h =
    let taken : length (take n rs) ≡ n = omega (arith, length-take n rs, h) in
    let all = length-replicate n process_at_set_up in
    let z : 0 + length (replicate n process_at_set_up) ≡ n = omega (arith, all) in
    rw (e, f, taken, sets-eq (replicate n process_at_set_up) rs 0 (omega (arith, all, h)), z) refl

-- a refused one keeps them
pub records_kept : (b : Bench) (rs : List Process) (n : ℕ) (ws : List ℕ) (k : ℕ) → (k ≡ 0 → ⊥) → records_set rs n (k, b, ws) ≡ (k, memory b rs ws)
records_kept b rs n ws k h = simp (ne_eqb k 0 h)

-- what `set_up` rests on
pub ruleset setting_up = (records_lent, first_taken, first_written, number_some, records_kept, set_up_law)
