-- The lines of Figure 2. Each is a function of the one shared place that it touches and of its own process, and of
-- nothing else.
-- p is the process that steps, q its record.
use Rattle.std.specs.Prelude.{ℕ, ◌+◌, cond, eqb, ltb}
use Rattle.llsc.specs.declared.ProcessNumber.{ProcessNumber}
use Rattle.model.specs.declared.Process.{Process}
use Rattle.model.specs.declared.Reply.TheVariants.{Accepted, LlAnswered, ScAnswered, VlAnswered}
use Rattle.model.specs.declared.LineStep.{LineStep}
use Rattle.model.specs.declared.WordStep.{WordStep}
use Rattle.model.specs.Places.{XPlace, BankPlace, HelpPlace, linked, ll_place, sc_place, write_place}
use Rattle.model.specs.Tables.{next}
use Rattle.model.specs.Points.{Point, line_number, line2, line5, line7copy, line8}
use Rattle.model.specs.Points.{line9, line10, line11, line12valid, line13, line14, line14valid, line15, line17}
use Rattle.model.specs.Points.{line19}
use Rattle.model.specs.Records.{to_line, to, rest, next_word, first_word, marked, with_x, with_mybuf, with_b, with_c, with_d, with_e}

-- Line 1, on Help[p]: Help[p] = (1, mybuf).
abbrev pub do_line1 : HelpPlace → Process → LineStep HelpPlace
do_line1 h q = record {
  place = write_place (record { flag = 1; buf = q.mybuf });
  process = to line2 q;
  reply = Accepted;
}

-- Lines 2 and 5, on X: x = LL(X). The line that follows, 3 or 6, is given by its number, or as a point.
abbrev pub do_line2_then : ℕ → ProcessNumber → XPlace → Process → LineStep XPlace
do_line2_then k p x q = record { place = ll_place x p; process = to_line k (with_x x.content q); reply = Accepted }

abbrev pub do_line2 : Point → ProcessNumber → XPlace → Process → LineStep XPlace
do_line2 y p x q = do_line2_then (line_number y) p x q

-- Line 4, on Help[p]: if LL(Help[p]) = (0, b). "b, c and d are set only when the flag read is the one their line
-- names."
abbrev pub do_line4 : ProcessNumber → HelpPlace → Process → LineStep HelpPlace
do_line4 p h q = record {
  place = ll_place h p;
  process = cond (eqb h.content.flag 0) (to line5 (with_b h.content.buf q)) (to line8 q);
  reply = Accepted;
}

-- Line 7, on X: if not VL(X), the copy from BUF[b] follows.
abbrev pub do_line7 : ProcessNumber → XPlace → Process → LineStep XPlace
do_line7 p x q = record { place = x; process = cond (linked x.links p) (to line8 q) (to line7copy q); reply = Accepted }

-- Line 8, on Help[p]: if LL(Help[p]) = (1, c).
abbrev pub do_line8 : ProcessNumber → HelpPlace → Process → LineStep HelpPlace
do_line8 p h q = record {
  place = ll_place h p;
  process = cond (eqb h.content.flag 1) (to line9 (with_c h.content.buf q)) (to line10 q);
  reply = Accepted;
}

-- Line 9, on Help[p]: SC(Help[p], (0, c)).
abbrev pub do_line9 : ProcessNumber → HelpPlace → Process → LineStep HelpPlace
do_line9 p h q = record {
  place = sc_place h p (record { flag = 0; buf = q.c });
  process = to line10 q;
  reply = Accepted;
}

-- Line 10, on Help[p]: mybuf = Help[p].buf, a plain read.
abbrev pub do_line10 : HelpPlace → Process → LineStep HelpPlace
do_line10 h q = record { place = h; process = to line11 (with_mybuf h.content.buf q); reply = Accepted }

-- Line 12, on Bank[x.seq]: if LL(Bank[x.seq]) /= x.buf, the VL(X) follows, else line 14.
abbrev pub do_line12 : ProcessNumber → BankPlace → Process → LineStep BankPlace
do_line12 p k q = record {
  place = ll_place k p;
  process = cond (eqb k.content.0 q.x.buf.0) (to line14 q) (to line12valid q);
  reply = Accepted;
}

-- The VL(X) of line 12: "only if true, 13".
abbrev pub do_line12_valid : ProcessNumber → XPlace → Process → LineStep XPlace
do_line12_valid p x q = record { place = x; process = cond (linked x.links p) (to line13 q) (to line14 q); reply = Accepted }

-- Line 13, on Bank[x.seq]: SC(Bank[x.seq], x.buf).
abbrev pub do_line13 : ProcessNumber → BankPlace → Process → LineStep BankPlace
do_line13 p k q = record { place = sc_place k p q.x.buf; process = to line14 q; reply = Accepted }

-- Line 14, on Help[x.seq mod N]: if LL(..) = (1, d), the VL(X) follows, else line 17.
abbrev pub do_line14 : ProcessNumber → HelpPlace → Process → LineStep HelpPlace
do_line14 p h q = record {
  place = ll_place h p;
  process = cond (eqb h.content.flag 1) (to line14valid (with_d h.content.buf q)) (to line17 q);
  reply = Accepted;
}

-- The VL(X) of line 14: "only if true, 15".
abbrev pub do_line14_valid : ProcessNumber → XPlace → Process → LineStep XPlace
do_line14_valid p x q = record { place = x; process = cond (linked x.links p) (to line15 q) (to line17 q); reply = Accepted }

-- Lines 15 and 16, on Help[x.seq mod N]: if SC(.., (0, mybuf)) then mybuf = d.
abbrev pub do_line15 : ProcessNumber → HelpPlace → Process → LineStep HelpPlace
do_line15 p h q = record {
  place = sc_place h p (record { flag = 0; buf = q.mybuf });
  process = to line17 (cond (linked h.links p) (with_mybuf q.d q) q);
  reply = Accepted;
}

-- Line 18, on Bank[(x.seq + 1) mod 2N]: e = Bank[..], a plain read.
abbrev pub do_line18 : BankPlace → Process → LineStep BankPlace
do_line18 k q = record { place = k; process = to line19 (with_e k.content q); reply = Accepted }

-- Lines 19 to 22, on X: if SC(X, (mybuf, (x.seq + 1) mod 2N)) then mybuf = e and the answer is true, else it is false.
-- n is N.
abbrev pub do_line19 : ℕ → ProcessNumber → XPlace → Process → LineStep XPlace
do_line19 n p x q = record {
  place = sc_place x p (record { buf = q.mybuf; seq = next n q.x.seq });
  process = rest (cond (linked x.links p) (with_mybuf q.e q) q);
  reply = ScAnswered (linked x.links p) (q.count + 1);
}

-- Line 23, on X: return VL(X).
abbrev pub do_line23 : ProcessNumber → XPlace → Process → LineStep XPlace
do_line23 p x q = record { place = x; process = rest q; reply = VlAnswered (linked x.links p) (q.count + 1) }

-- The lines that move words, one half word to a step: 3, 6, 7's copy and 17. "A run of .. word steps goes on from the
-- word place it finds .. and leaves it at 0 after its last word." y is the line that follows the last move, m is the
-- moves of a run.
abbrev pub do_word_then : ℕ → ℕ → Process → WordStep
do_word_then m k q = record { process = cond (ltb (q.word + 1) m) (next_word q) (to_line k (first_word q)); reply = Accepted }

abbrev pub do_word : ℕ → Point → Process → WordStep
do_word m y q = do_word_then m (line_number y) q

-- Line 11: "The last word answers.", and leaves the mark that an LL was answered.
abbrev pub do_line11 : ℕ → Process → WordStep
do_line11 m q = record {
  process = cond (ltb (q.word + 1) m) (next_word q) (rest (marked (first_word q)));
  reply = cond (ltb (q.word + 1) m) Accepted (LlAnswered (q.count + 1));
}
