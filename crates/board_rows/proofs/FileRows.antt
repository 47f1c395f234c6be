-- The rows of a file before its run.
use mathlib.Core.Path.{◌≡◌, refl, sym, ap₂, ◌∙◌}
use mathlib.Core.List.{List}
use mathlib.Core.Bool.{Bool, true, false, not, ◌&&◌, cond}
use Prim.Native.Nat.{ℕ}
use Rattle.boards.specs.Files.{good_trailer, good_records, rising, file_number}
use Rattle.boards.specs.Places.{read, all_good, RecordsOf, RightFile}
use Rattle.boards.proofs.RefusalLaws.{reads, tests, few, no_records, its_records}
use Rattle.std.proofs.lemmas.Result.{err_from_is_err_and}

module _ (file : List ℕ) where
  rows : (g h : Bool) → good_trailer file ≡ g → good_records file ≡ h → file_number file ≡ cond (not g) 25 (cond (not h) 26 0)
  unfolding file_number
  rows g h d e = ap₂ (λ (x y : Bool). cond (not x) 25 (cond (not y) 26 0)) d e

  pub bad_trailer : good_trailer file ≡ false → file_number file ≡ 25
  bad_trailer e = rows false (good_records file) e refl

  module _ {rs : List (List ℕ)} (r : RecordsOf file rs) where
    pub bad_record : (all_good rs && rising 0 (read rs)) ≡ false → file_number file ≡ 26
    bad_record e = rows true false r.trailer (sym (tests r) ∙ e)

    pub right_file : (all_good rs && rising 0 (read rs)) ≡ true → RightFile file rs
    right_file e = record { number = rows true true r.trailer (sym (tests r) ∙ e); reads = reads r; few = few r }

-- what the rows of a file come to
pub ruleset records_laws = (err_from_is_err_and, no_records, its_records, bad_trailer, bad_record)
