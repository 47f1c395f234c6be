-- The set-up (01, "Set-up"). "Memory beyond what N and W need is never touched."
use Rattle.std.specs.Prelude.{ℕ, zero, suc, ◌-◌, List, [], ◌∷◌, ◌++◌, map, false, cond, eqb, replicate}
use Rattle.std.proofs.lemmas.List.Edits.{sets}
use Rattle.model.specs.declared.Bench.{Bench}
use Rattle.model.specs.declared.Process.{Process}
use Rattle.model.specs.Places.{XPlace, BankPlace, HelpPlace, no_links}
use Rattle.model.specs.Points.{line_number, idle}
use Rattle.model.specs.Sizes.{sequence_numbers, lent_words}
use Rattle.model.specs.Machine.{Memory}
use Rattle.llsc.specs.Rows.{first}
use Rattle.model.specs.Refusals.{set_up_rows}

-- the numbers a, a + 1, .., n of them
abbrev pub numbers : ℕ → ℕ → List ℕ
numbers a zero = []
numbers a (suc n) = a ∷ numbers (suc a) n

-- "X = (0, 0)", "no links"
abbrev pub x_at_set_up : XPlace
x_at_set_up = record { content = record { buf = record { 0 = 0 }; seq = record { 0 = 0 } }; links = no_links }

-- "Bank[k] = k"
abbrev pub bank_at_set_up : ℕ → BankPlace
bank_at_set_up k = record { content = record { 0 = k }; links = no_links }

-- "Help[p] = (0, 0)"
abbrev pub help_at_set_up : HelpPlace
help_at_set_up = record { content = record { flag = 0; buf = record { 0 = 0 } }; links = no_links }

-- "all processes idle; every x is (0, 0), other private numbers 0"; m is mybuf
abbrev pub process_at_set_up : ℕ → Process
process_at_set_up m = record {
  mybuf = record { 0 = m };
  x = record { buf = record { 0 = 0 }; seq = record { 0 = 0 } };
  line = line_number idle;
  word = 0;
  count = 0;
  answered = false;
  b = record { 0 = 0 };
  c = record { 0 = 0 };
  d = record { 0 = 0 };
  e = record { 0 = 0 };
}

-- a bench record before any set-up, for a program to lend
abbrev pub empty_bench : Bench
empty_bench = record { n = 0; w = 0; x = x_at_set_up; bank = replicate 32 (bank_at_set_up 0); help = replicate 16 help_at_set_up }

abbrev pub bench_at_set_up : Bench → ℕ → ℕ → Bench
bench_at_set_up b n w = record { n = n; w = w; x = x_at_set_up; bank = sets b.bank 0 (map bank_at_set_up (numbers 0 (sequence_numbers n))); help = sets b.help 0 (replicate n help_at_set_up) }

-- "mybuf of p = 2N + p"
abbrev pub records_at_set_up : List Process → ℕ → List Process
records_at_set_up records n = sets records 0 (map process_at_set_up (numbers (sequence_numbers n) n))

-- "BUF[0] = the given value; every other word 0"
abbrev pub words_at_set_up : List ℕ → ℕ → ℕ → List ℕ → List ℕ
words_at_set_up words n w value = sets words 0 (value ++ replicate (lent_words n w - w) 0)

abbrev pub at_set_up : Memory → ℕ → ℕ → List ℕ → Memory
at_set_up m n w value = record { bench = bench_at_set_up m.bench n w; records = records_at_set_up m.records n; words = words_at_set_up m.words n w value }

-- the number of a set-up's refusal, 0 for none
unfoldable pub set_up_refusal : Memory → ℕ → ℕ → List ℕ → ℕ
set_up_refusal m n w value = first (set_up_rows m n w value)

-- A set-up for N = n and W = w with the given value: the number of its refusal, 0 for none, and the memory after it.
unfoldable pub set_up : Memory → ℕ → ℕ → List ℕ → ℕ × Memory
set_up m n w value = (set_up_refusal m n w value, cond (eqb (set_up_refusal m n w value) 0) (at_set_up m n w value) m)
