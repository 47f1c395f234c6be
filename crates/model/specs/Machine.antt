-- The machine: all lent memory, a step of a process by its point, and the three starts.
use Rattle.std.specs.Prelude.{◌≡◌, ℕ, List, length}
use Rattle.std.proofs.lemmas.List.Edits.{sets}
use Rattle.model.specs.declared.BufferNumber.{BufferNumber}
use Rattle.model.specs.declared.SequenceNumber.{SequenceNumber}
use Rattle.llsc.specs.declared.ProcessNumber.{ProcessNumber}
use Rattle.model.specs.Places.{XPlace, BankPlace, HelpPlace}
use Rattle.model.specs.declared.Bench.{Bench}
use Rattle.model.specs.declared.Process.{Process}
use Rattle.llsc.specs.declared.Order.{Order}
use Rattle.llsc.specs.declared.Order.TheVariants.{StartLl, StartSc, StartVl, Step}
use Rattle.model.specs.declared.Reply.TheVariants.{Accepted}
use Rattle.model.specs.declared.LineStep.{LineStep}
use Rattle.model.specs.declared.WordStep.{WordStep}
use Rattle.model.specs.declared.Moved.{Moved}
use Rattle.model.specs.Tables.{bank_at, help_at, put_x, put_bank, put_help, next, helped}
use Rattle.model.specs.Sizes.{halves}
use Rattle.model.specs.Words.{Layout, one_record, buffer_in, return_in, offer_in, word_of, copied_half}
use Rattle.model.specs.Points.{Point, point_of, idle, line1, line2, line3, line4, line5, line6, line7, line7copy}
use Rattle.model.specs.Points.{line8, line9, line10, line11, line12, line12valid, line13, line14, line14valid}
use Rattle.model.specs.Points.{line15, line17, line18, line19, line23}
use Rattle.model.specs.Records.{begin}
use Rattle.model.specs.Lines.{do_line1, do_line2, do_line4, do_line7, do_line8, do_line9, do_line10, do_line12}
use Rattle.model.specs.Lines.{do_line12_valid, do_line13, do_line14, do_line14_valid, do_line15, do_line18, do_line19}
use Rattle.model.specs.Lines.{do_line23, do_word, do_line11}

-- All lent memory: the bench record, the process records, the words.
pub record Memory : Type 0 where
  pub bench : Bench
  pub records : List Process
  pub words : List ℕ

-- The tables of the bench record have the lengths that their declared types give them.
pub record Shaped (m : Memory) : Type 0 where
  pub bank : length m.bench.bank ≡ 32
  pub help : length m.bench.help ≡ 16

-- A step touches one shared item: X, Bank[i], Help[i] or one half word of a buffer. Each of these takes the item out,
-- lets the line work on it and on the own process, and puts it back; b is the bench, q the own record, ws the lent
-- words.
abbrev pub moved : {P : Type 0} → (P → Bench) → LineStep P → List ℕ → Moved × List ℕ
moved put s ws = (record { bench = put s.place; process = s.process; reply = s.reply }, ws)

abbrev pub on_x : (XPlace → Process → LineStep XPlace) → Bench → Process → List ℕ → Moved × List ℕ
on_x line b q ws = moved (put_x b) (line b.x q) ws

abbrev pub on_bank : SequenceNumber → (BankPlace → Process → LineStep BankPlace) → Bench → Process → List ℕ → Moved × List ℕ
on_bank i line b q ws = moved (put_bank b i) (line (bank_at b i) q) ws

abbrev pub on_help : ProcessNumber → (HelpPlace → Process → LineStep HelpPlace) → Bench → Process → List ℕ → Moved × List ℕ
on_help i line b q ws = moved (put_help b i) (line (help_at b i) q) ws

-- a half word of BUF[f], at the word place, into p's return area; l is the layout of the record's words
abbrev pub on_read : Layout → ProcessNumber → BufferNumber → WordStep → Bench → Process → List ℕ → Moved × List ℕ
on_read l p f step b q ws = (record { bench = b; process = step.process; reply = step.reply }, copied_half ws q.word (buffer_in l b.w f (word_of q.word)) (return_in l b.w p (word_of q.word)))

-- a half of the word at `from`, of p's return or offer area, into BUF[mybuf] at the word place
abbrev pub on_write : Layout → ℕ → WordStep → Bench → Process → List ℕ → Moved × List ℕ
on_write l from step b q ws = (record { bench = b; process = step.process; reply = step.reply }, copied_half ws q.word from (buffer_in l b.w q.mybuf (word_of q.word)))

-- Figure 2, point by point. (A step at an idle process is refused, row 6.)
abbrev pub stepped_in : Layout → Point → ProcessNumber → Bench → Process → List ℕ → Moved × List ℕ
stepped_in l idle p b q ws = (record { bench = b; process = q; reply = Accepted }, ws)
stepped_in l line1 p b q ws = on_help p do_line1 b q ws
stepped_in l line2 p b q ws = on_x (do_line2 line3 p) b q ws
stepped_in l line3 p b q ws = on_read l p q.x.buf (do_word (halves b.w) line4 q) b q ws
stepped_in l line4 p b q ws = on_help p (do_line4 p) b q ws
stepped_in l line5 p b q ws = on_x (do_line2 line6 p) b q ws
stepped_in l line6 p b q ws = on_read l p q.x.buf (do_word (halves b.w) line7 q) b q ws
stepped_in l line7 p b q ws = on_x (do_line7 p) b q ws
stepped_in l line7copy p b q ws = on_read l p q.b (do_word (halves b.w) line8 q) b q ws
stepped_in l line8 p b q ws = on_help p (do_line8 p) b q ws
stepped_in l line9 p b q ws = on_help p (do_line9 p) b q ws
stepped_in l line10 p b q ws = on_help p do_line10 b q ws
stepped_in l line11 p b q ws = on_write l (return_in l b.w p (word_of q.word)) (do_line11 (halves b.w) q) b q ws
stepped_in l line12 p b q ws = on_bank q.x.seq (do_line12 p) b q ws
stepped_in l line12valid p b q ws = on_x (do_line12_valid p) b q ws
stepped_in l line13 p b q ws = on_bank q.x.seq (do_line13 p) b q ws
stepped_in l line14 p b q ws = on_help (helped b.n q.x.seq) (do_line14 p) b q ws
stepped_in l line14valid p b q ws = on_x (do_line14_valid p) b q ws
stepped_in l line15 p b q ws = on_help (helped b.n q.x.seq) (do_line15 p) b q ws
stepped_in l line17 p b q ws = on_write l (offer_in l b.w p (word_of q.word)) (do_word (halves b.w) line18 q) b q ws
stepped_in l line18 p b q ws = on_bank (next b.n q.x.seq) do_line18 b q ws
stepped_in l line19 p b q ws = on_x (do_line19 b.n p) b q ws
stepped_in l line23 p b q ws = on_x (do_line23 p) b q ws

-- one record alone
unfoldable pub step_at : Point → ProcessNumber → Bench → Process → List ℕ → Moved × List ℕ
step_at y p b q ws = stepped_in (one_record b.n) y p b q ws

-- What an accepted order does to its process. "A start places the process at its first line, puts SC's words in the
-- offer area, sets the count to 0 and touches nothing shared."
abbrev pub obey_in : Layout → Order → ProcessNumber → List ℕ → Bench → Process → List ℕ → Moved × List ℕ
obey_in l StartLl p value b q ws = (record { bench = b; process = begin line1 q; reply = Accepted }, ws)
obey_in l StartSc p value b q ws = (record { bench = b; process = begin line12 q; reply = Accepted }, sets ws (offer_in l b.w p 0) value)
obey_in l StartVl p value b q ws = (record { bench = b; process = begin line23 q; reply = Accepted }, ws)
obey_in l Step p value b q ws = stepped_in l (point_of q.line) p b q ws

-- one record alone
unfoldable pub obey : Order → ProcessNumber → List ℕ → Bench → Process → List ℕ → Moved × List ℕ
obey o p value b q ws = obey_in (one_record b.n) o p value b q ws
