-- The parts of a set-up by value: its refusal by the lengths of what is lent, and the tables on the way.
-- Inner: `set_up_number_lem` below ties the refusal to `model`'s; the tables are those of `model`'s `bench_at_set_up`.
use Rattle.std.specs.Prelude.{◌≡◌, refl, ℕ, ◌≤◌, List, map, length, replicate}
use Rattle.std.proofs.lemmas.List.Edits.{sets}
use Rattle.model.specs.declared.Bench.{Bench}
use Rattle.model.specs.Sizes.{lent_words}
use Rattle.llsc.specs.Rows.{first}
use Rattle.model.specs.Refusals.{set_up_rows_of}
use Rattle.model.specs.Machine.{Memory}
use Rattle.model.specs.SetUp.{numbers, bank_at_set_up, help_at_set_up, set_up_refusal}

-- a set-up's refusal by the lengths of what is lent
unfoldable pub set_up_number : ℕ → ℕ → ℕ → ℕ → ℕ → ℕ
set_up_number n w records words value = first (set_up_rows_of n w records words value)

pub set_up_number_lem : (m : Memory) (n w : ℕ) (value : List ℕ) → set_up_number n w (length m.records) (length m.words) (length value) ≡ set_up_refusal m n w value
unfolding set_up_number set_up_refusal
set_up_number_lem m n w value = refl

-- the bench with the first n places of a table set up
abbrev pub banks_set : Bench → ℕ → Bench
banks_set b n = record { n = b.n; w = b.w; x = b.x; bank = sets b.bank 0 (map bank_at_set_up (numbers 0 n)); help = b.help }

abbrev pub helps_set : Bench → ℕ → Bench
helps_set b n = record { n = b.n; w = b.w; x = b.x; bank = b.bank; help = sets b.help 0 (replicate n help_at_set_up) }

-- what an accepted set-up's rows leave
pub record Accepted (n w words value : ℕ) : Type 0 where
  pub n_most : n ≤ 16
  pub w_most : w ≤ 64
  pub n_some : 1 ≤ n
  pub words_lent : lent_words n w ≤ words
  pub value_words : value ≡ w
