-- The shared places that a step could touch, taken out of the bench record: X, one place of Bank and one of Help.
-- Inner: `TakenLaws` of crate steps proves that a step on them, put back, is `model`'s step.
use Rattle.std.specs.Prelude.{ℕ, cond, List, eqb}
use Rattle.model.specs.declared.SequenceNumber.{SequenceNumber}
use Rattle.llsc.specs.declared.ProcessNumber.{ProcessNumber}
use Rattle.model.specs.declared.Bench.{Bench}
use Rattle.model.specs.declared.Process.{Process}
use Rattle.model.specs.declared.LineStep.{LineStep}
use Rattle.model.specs.declared.WordStep.{WordStep}
use Rattle.model.specs.declared.Moved.{Moved}
use Rattle.model.specs.Places.{XPlace, BankPlace, HelpPlace}
use Rattle.model.specs.Tables.{bank_at, help_at, put_x, put_bank, put_help, next, helped}
use Rattle.model.specs.Points.{Point, line_number, line14, line15, line18}
use Rattle.taken.specs.declared.Taken.{Taken}
use Rattle.taken.specs.declared.Stepped.{Stepped}

-- Which place of Bank: line 18 reads Bank[(x.seq + 1) mod 2N], lines 12 and 13 touch Bank[x.seq]. The other lines touch
-- none: any place will do.
abbrev pub bank_index : Point → ℕ → Process → SequenceNumber
bank_index y n q = cond (eqb (line_number y) (line_number line18)) (next n q.x.seq) q.x.seq

-- Which place of Help: lines 14 and 15 touch Help[x.seq mod N], lines 1, 4, 8, 9 and 10 Help[p]. For the other lines
-- too it is the own one.
abbrev pub help_index : Point → ℕ → ProcessNumber → Process → ProcessNumber
help_index y n p q =
    cond (eqb (line_number y) (line_number line14)) (helped n q.x.seq) (cond (eqb (line_number y) (line_number line15)) (helped n q.x.seq) p)

-- X, Bank[i] and Help[j]
abbrev pub taken_at : Bench → SequenceNumber → ProcessNumber → Taken
taken_at b i j = record { x = b.x; bank = bank_at b i; help = help_at b j }

-- those of a step at the point y
abbrev pub taken_from : Point → Bench → ProcessNumber → Process → Taken
taken_from y b p q = taken_at b (bank_index y b.n q) (help_index y b.n p q)

-- X, Bank[i] and Help[j] put back
abbrev pub put_taken : Bench → SequenceNumber → ProcessNumber → Taken → Bench
put_taken b i j t = put_help (put_bank (put_x b t.x) i t.bank) j t.help

-- with what the step made of its process, and its reply
abbrev pub put_back : Bench → SequenceNumber → ProcessNumber → Stepped → Moved
put_back b i j s = record { bench = put_taken b i j s.taken; process = s.process; reply = s.reply }

-- and with the words, which lie outside the bench record
abbrev pub restored : Bench → SequenceNumber → ProcessNumber → Stepped × List ℕ → Moved × List ℕ
restored b i j out = (put_back b i j out.0, out.1)

-- What a line makes of the one item that it touches ("A step makes one access"): the other places stay as they were
-- taken.
abbrev pub after_x : Taken → LineStep XPlace → Stepped
after_x t s = record { taken = record { x = s.place; bank = t.bank; help = t.help }; process = s.process; reply = s.reply }

abbrev pub after_bank : Taken → LineStep BankPlace → Stepped
after_bank t s =
    record { taken = record { x = t.x; bank = s.place; help = t.help }; process = s.process; reply = s.reply }

abbrev pub after_help : Taken → LineStep HelpPlace → Stepped
after_help t s =
    record { taken = record { x = t.x; bank = t.bank; help = s.place }; process = s.process; reply = s.reply }

-- a word is no part of the three places
abbrev pub after_word : Taken → WordStep → Stepped
after_word t s = record { taken = t; process = s.process; reply = s.reply }
