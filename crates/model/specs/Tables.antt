-- The tables of the bench record, each reached by its own kind of number, and the arithmetic of sequence numbers.
use Rattle.std.specs.Prelude.{ℕ, ◌+◌, ◌%◌, get_or, set}
use Rattle.model.specs.Sizes.{sequence_numbers}
use Rattle.model.specs.declared.SequenceNumber.{SequenceNumber}
use Rattle.llsc.specs.declared.ProcessNumber.{ProcessNumber}
use Rattle.model.specs.Places.{XPlace, BankPlace, HelpPlace}
use Rattle.model.specs.declared.Bench.{Bench}

-- what stands past the end of a table
abbrev pub no_bank : BankPlace
no_bank = record { content = record { 0 = 0 }; links = 0 }

abbrev pub no_help : HelpPlace
no_help = record { content = record { flag = 0; buf = record { 0 = 0 } }; links = 0 }

-- Bank[i]
abbrev pub bank_at : Bench → SequenceNumber → BankPlace
bank_at b i = get_or b.bank i.0 no_bank

-- Help[i]
abbrev pub help_at : Bench → ProcessNumber → HelpPlace
help_at b i = get_or b.help i.0 no_help

-- the bench with another X, another Bank[i], another Help[i]
abbrev pub put_x : Bench → XPlace → Bench
put_x b x = record { n = b.n; w = b.w; x = x; bank = b.bank; help = b.help }

abbrev pub put_bank : Bench → SequenceNumber → BankPlace → Bench
put_bank b i k = record { n = b.n; w = b.w; x = b.x; bank = set b.bank i.0 k; help = b.help }

abbrev pub put_help : Bench → ProcessNumber → HelpPlace → Bench
put_help b i h = record { n = b.n; w = b.w; x = b.x; bank = b.bank; help = set b.help i.0 h }

-- lines 18 and 19: (seq + 1) mod 2N
abbrev pub next : ℕ → SequenceNumber → SequenceNumber
next n s = record { 0 = (s.0 + 1) % sequence_numbers n }

-- lines 14 and 15: seq mod N, the process that is helped
abbrev pub helped : ℕ → SequenceNumber → ProcessNumber
helped n s = record { 0 = s.0 % n }
