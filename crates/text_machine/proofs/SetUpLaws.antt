-- The records at the set-up, one after another.
use mathlib.Core.Path.{◌≡◌, sym, ◌∙◌}
use mathlib.Core.List.{List, [], ◌∷◌, map}
use Prim.Native.Nat.{ℕ, ◌+◌, ◌*◌}
use native.Mathlib.Nat.{zero-add}
use native.Mathlib.Numerals.{add-one}
use lib.ListN.{set}
use lib.Seq.{sets}
use Rattle.model.specs.declared.Process.{Process}
use Rattle.model.specs.SetUp.{numbers, process_at_set_up}
use Rattle.setup.proofs.SetUpLaws.{mapped_next, mapped_length}
use Rattle.laws.proofs.ListLaws.{sets_append}

-- the first p of n records set up
abbrev pub records_set : List Process → ℕ → ℕ → List Process
records_set list n p = sets list 0 (map process_at_set_up (numbers (2 * n) p))

records_next : (list : List Process) (n p : ℕ) → set (records_set list n p) p (process_at_set_up (2 * n + p)) ≡ records_set list n (p + 1)
records_next list n p =
    let before = map process_at_set_up (numbers (2 * n) p) in let next = process_at_set_up (2 * n + p) ∷ [] in
    sym (rw (
      add-one p,
      mapped_next process_at_set_up (2 * n) p,
      sets_append list 0 before next,
      mapped_length process_at_set_up (2 * n) p,
      zero-add p,
    ))

module _ (list : List Process) (n p : ℕ) {next : List Process} (e : next ≡ records_set list n p) where
  pub records_again : {out : List Process} {q : Process} → q ≡ process_at_set_up (2 * n + p) → out ≡ set next p q → out ≡ records_set list n (p + 1)
  records_again f o = o ∙ rw (e, f) (records_next list n p)
