-- A step, or a start, on the shared places that it could touch.
-- Inner: `TakenLaws` proves that to take them, to step and to put them back is `model`'s step.
use Rattle.std.specs.Prelude.{ℕ, List}
use Rattle.std.proofs.lemmas.List.Edits.{sets}
use Rattle.model.specs.declared.BufferNumber.{BufferNumber}
use Rattle.llsc.specs.declared.ProcessNumber.{ProcessNumber}
use Rattle.model.specs.declared.Process.{Process}
use Rattle.llsc.specs.declared.Order.{Order}
use Rattle.llsc.specs.declared.Order.TheVariants.{StartLl, StartSc, StartVl, Step}
use Rattle.model.specs.declared.Reply.TheVariants.{Accepted}
use Rattle.model.specs.declared.WordStep.{WordStep}
use Rattle.model.specs.Sizes.{halves}
use Rattle.model.specs.Words.{Layout, one_record, buffer_in, return_in, offer_in, word_of, copied_half}
use Rattle.model.specs.Points.{Point, point_of, idle, line1, line2, line3, line4, line5, line6, line7, line7copy, line8}
use Rattle.model.specs.Points.{line9, line10, line11, line12, line12valid, line13, line14, line14valid, line15, line17}
use Rattle.model.specs.Points.{line18, line19, line23}
use Rattle.model.specs.Records.{begin}
use Rattle.model.specs.Lines.{do_line1, do_line2, do_line4, do_line7, do_line8, do_line9, do_line10, do_line12, do_line12_valid}
use Rattle.model.specs.Lines.{do_line13, do_line14, do_line14_valid, do_line15, do_line18, do_line19, do_line23, do_word}
use Rattle.model.specs.Lines.{do_line11}
use Rattle.taken.specs.declared.Taken.{Taken}
use Rattle.taken.specs.declared.Stepped.{Stepped}
use Rattle.taken.specs.Taken.{after_x, after_bank, after_help, after_word}

-- lines 3, 6 and 7's copy: a half word of BUF[f], at the word place, into p's return area; l is the layout
abbrev pub read_word : Layout → ℕ → ProcessNumber → BufferNumber → WordStep → Process → List ℕ → WordStep × List ℕ
read_word l w p f s q ws = (s, copied_half ws q.word (buffer_in l w f (word_of q.word)) (return_in l w p (word_of q.word)))

-- lines 11 and 17: a half of the word at `from`, of p's return or offer area, into BUF[mybuf] at the word place
abbrev pub written_word : Layout → ℕ → ℕ → WordStep → Process → List ℕ → WordStep × List ℕ
written_word l w from s q ws = (s, copied_half ws q.word from (buffer_in l w q.mybuf (word_of q.word)))

-- what such a line leaves, with the words
abbrev pub after_words : Taken → WordStep × List ℕ → Stepped × List ℕ
after_words t out = (after_word t out.0, out.1)

-- Figure 2, point by point, with n for N and w for W. (A step at an idle process is refused, row 6.)
unfoldable pub step_on_in : Layout → Point → ProcessNumber → ℕ → ℕ → Taken → Process → List ℕ → Stepped × List ℕ
step_on_in l idle p n w t q ws = (record { taken = t; process = q; reply = Accepted }, ws)
step_on_in l line1 p n w t q ws = (after_help t (do_line1 t.help q), ws)
step_on_in l line2 p n w t q ws = (after_x t (do_line2 line3 p t.x q), ws)
step_on_in l line3 p n w t q ws = after_words t (read_word l w p q.x.buf (do_word (halves w) line4 q) q ws)
step_on_in l line4 p n w t q ws = (after_help t (do_line4 p t.help q), ws)
step_on_in l line5 p n w t q ws = (after_x t (do_line2 line6 p t.x q), ws)
step_on_in l line6 p n w t q ws = after_words t (read_word l w p q.x.buf (do_word (halves w) line7 q) q ws)
step_on_in l line7 p n w t q ws = (after_x t (do_line7 p t.x q), ws)
step_on_in l line7copy p n w t q ws = after_words t (read_word l w p q.b (do_word (halves w) line8 q) q ws)
step_on_in l line8 p n w t q ws = (after_help t (do_line8 p t.help q), ws)
step_on_in l line9 p n w t q ws = (after_help t (do_line9 p t.help q), ws)
step_on_in l line10 p n w t q ws = (after_help t (do_line10 t.help q), ws)
step_on_in l line11 p n w t q ws = after_words t (written_word l w (return_in l w p (word_of q.word)) (do_line11 (halves w) q) q ws)
step_on_in l line12 p n w t q ws = (after_bank t (do_line12 p t.bank q), ws)
step_on_in l line12valid p n w t q ws = (after_x t (do_line12_valid p t.x q), ws)
step_on_in l line13 p n w t q ws = (after_bank t (do_line13 p t.bank q), ws)
step_on_in l line14 p n w t q ws = (after_help t (do_line14 p t.help q), ws)
step_on_in l line14valid p n w t q ws = (after_x t (do_line14_valid p t.x q), ws)
step_on_in l line15 p n w t q ws = (after_help t (do_line15 p t.help q), ws)
step_on_in l line17 p n w t q ws = after_words t (written_word l w (offer_in l w p (word_of q.word)) (do_word (halves w) line18 q) q ws)
step_on_in l line18 p n w t q ws = (after_bank t (do_line18 t.bank q), ws)
step_on_in l line19 p n w t q ws = (after_x t (do_line19 n p t.x q), ws)
step_on_in l line23 p n w t q ws = (after_x t (do_line23 p t.x q), ws)

-- A start: the words of an SC in the offer area, and the process at its call's first line. It touches none of the
-- places.
abbrev pub offered_in : Layout → Order → ProcessNumber → ℕ → List ℕ → List ℕ → List ℕ
offered_in l StartLl p w value ws = ws
offered_in l StartSc p w value ws = sets ws (offer_in l w p 0) value
offered_in l StartVl p w value ws = ws
offered_in l Step p w value ws = ws

abbrev pub begun_at : Point → Taken → Process → Stepped
begun_at y t q = record { taken = t; process = begin y q; reply = Accepted }

-- an order obeyed, with SC's words in the offer area already
unfoldable pub obey_on_in : Layout → Order → ProcessNumber → ℕ → ℕ → Taken → Process → List ℕ → Stepped × List ℕ
obey_on_in l StartLl p n w t q ws = (begun_at line1 t q, ws)
obey_on_in l StartSc p n w t q ws = (begun_at line12 t q, ws)
obey_on_in l StartVl p n w t q ws = (begun_at line23 t q, ws)
obey_on_in l Step p n w t q ws = step_on_in l (point_of q.line) p n w t q ws

-- one record alone
abbrev pub offered : Order → ProcessNumber → ℕ → ℕ → List ℕ → List ℕ → List ℕ
offered o p n w value ws = offered_in (one_record n) o p w value ws

abbrev pub obey_on : Order → ProcessNumber → ℕ → ℕ → Taken → Process → List ℕ → Stepped × List ℕ
obey_on o p n w t q ws = obey_on_in (one_record n) o p n w t q ws
