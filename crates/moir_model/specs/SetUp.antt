-- The set-up: "At set-up all tags are 0, the header names process 0, the segments and A[0] hold the given value, the rest
-- as in 01" (02, CR 8). "Memory beyond what N and W need is never touched."
use Rattle.std.specs.Prelude.{ℕ, ◌-◌, ◌*◌, List, ◌++◌, cond, eqb, replicate}
use Rattle.std.proofs.lemmas.List.Edits.{sets}
use Rattle.llsc.specs.Rows.{first}
use Rattle.moir_model.specs.declared.Header.{Header}
use Rattle.moir_model.specs.declared.Bench.{Bench}
use Rattle.moir_model.specs.declared.Process.{Process}
use Rattle.moir_model.specs.Records.{no_header, no_process}
use Rattle.moir_model.specs.Machine.{Memory}
use Rattle.moir_model.specs.Refusals.{set_up_rows}

abbrev pub header_at_set_up : Header
header_at_set_up = no_header

-- "all processes idle", every private number 0, no WLL answered
abbrev pub process_at_set_up : Process
process_at_set_up = no_process

-- a bench record before any set-up, for a program to lend
abbrev pub empty_bench : Bench
empty_bench = record { n = 0; w = 0; header = header_at_set_up; tags = replicate 64 0 }

abbrev pub bench_at_set_up : Bench → ℕ → ℕ → Bench
bench_at_set_up b n w = record { n = n; w = w; header = header_at_set_up; tags = sets b.tags 0 (replicate w 0) }

abbrev pub records_at_set_up : List Process → ℕ → List Process
records_at_set_up records n = sets records 0 (replicate n process_at_set_up)

-- A[0], the other rows of A, the segments, the return and offer areas
abbrev pub values_at_set_up : ℕ → ℕ → List ℕ → List ℕ
values_at_set_up n w value = value ++ replicate ((n - 1) * w) 0 ++ value ++ replicate (2 * n * w) 0

abbrev pub words_at_set_up : List ℕ → ℕ → ℕ → List ℕ → List ℕ
words_at_set_up words n w value = sets words 0 (values_at_set_up n w value)

abbrev pub at_set_up : Memory → ℕ → ℕ → List ℕ → Memory
at_set_up m n w value = record { bench = bench_at_set_up m.bench n w; records = records_at_set_up m.records n; words = words_at_set_up m.words n w value }

-- the number of a set-up's refusal, 0 for none
unfoldable pub set_up_refusal : Memory → ℕ → ℕ → List ℕ → ℕ
set_up_refusal m n w value = first (set_up_rows m n w value)

-- A set-up for N = n and W = w with the given value: the number of its refusal, 0 for none, and the memory after it.
unfoldable pub set_up : Memory → ℕ → ℕ → List ℕ → ℕ × Memory
set_up m n w value = (set_up_refusal m n w value, cond (eqb (set_up_refusal m n w value) 0) (at_set_up m n w value) m)
