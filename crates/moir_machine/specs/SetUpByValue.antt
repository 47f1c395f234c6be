-- The set-up by value: its refusal by the lengths of what is lent, and what it makes of the bench and of the words. The
-- records are set up one by one, where they lie.
-- Inner: `set_up_number_lem` below and `moir_bench`'s `SetUpLaws` prove that this is `moir_model`'s set-up.
use Rattle.std.specs.Prelude.{◌≡◌, refl, ℕ, ◌≤◌, List, Result, Ok, Err, cond, eqb, length}
use Rattle.llsc.specs.declared.refusals.Refusal.{Refusal}
use Rattle.llsc.specs.Refusals.{refusal_number}
use Rattle.moir_model.specs.declared.Bench.{Bench}
use Rattle.moir_model.specs.declared.Process.{Process}
use Rattle.moir_model.specs.Sizes.{lent_words}
use Rattle.llsc.specs.Rows.{first}
use Rattle.moir_model.specs.Refusals.{set_up_rows_of}
use Rattle.moir_model.specs.Machine.{Memory}
use Rattle.moir_model.specs.SetUp.{bench_at_set_up, records_at_set_up, words_at_set_up, set_up_refusal}

-- a set-up's refusal by the lengths of what is lent
unfoldable pub set_up_number : ℕ → ℕ → ℕ → ℕ → ℕ → ℕ
set_up_number n w records words value = first (set_up_rows_of n w records words value)

pub set_up_number_lem : (m : Memory) (n w : ℕ) (value : List ℕ) → set_up_number n w (length m.records)
    (length m.words) (length value) ≡ set_up_refusal m n w value
unfolding set_up_number set_up_refusal
set_up_number_lem m n w value = refl

-- what an accepted set-up's rows leave
pub record Accepted (n w words value : ℕ) : Type 0 where
  pub n_most : n ≤ 16
  pub w_most : w ≤ 64
  pub n_some : 1 ≤ n
  pub words_lent : lent_words n w ≤ words
  pub value_words : value ≡ w

-- the number of a refusal, 0 for none, and the bench that is left
abbrev pub told : Result Bench Refusal → ℕ
told (Ok b) = 0
told (Err r) = refusal_number r

abbrev pub bench_left : Bench → Result Bench Refusal → Bench
bench_left b (Ok b') = b'
bench_left b (Err r) = b

-- the number, the bench and the words after a set-up with `len` records lent
unfoldable pub prepared : Bench → ℕ → ℕ → ℕ → List ℕ → List ℕ → ℕ × Bench × List ℕ
prepared b len n w value words =
    cond (eqb (set_up_number n w len (length words) (length value)) 0)
    (0, bench_at_set_up b n w, words_at_set_up words n w value)
    (set_up_number n w len (length words) (length value), b, words)

-- the number and all lent memory, once the caller has set up the records too
abbrev pub records_set : List Process → ℕ → ℕ × Bench × List ℕ → ℕ × Memory
records_set rs n out = (out.0, record { bench = out.1; records = cond (eqb out.0 0) (records_at_set_up rs n) rs; words = out.2 })
