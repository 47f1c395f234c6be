-- The machine: all lent memory, a step of a process by its point, and the three starts.
use Rattle.std.specs.Prelude.{◌≡◌, cond, ℕ, List, length, get_or, set}
use Rattle.std.proofs.lemmas.List.Edits.{sets}
use Rattle.llsc.specs.declared.ProcessNumber.{ProcessNumber}
use Rattle.llsc.specs.declared.Order.{Order}
use Rattle.llsc.specs.declared.Order.TheVariants.{StartLl, StartSc, StartVl, Step}
use Rattle.moir_model.specs.declared.Header.{Header}
use Rattle.moir_model.specs.declared.Bench.{Bench}
use Rattle.moir_model.specs.declared.Process.{Process}
use Rattle.moir_model.specs.declared.Reply.TheVariants.{Accepted}
use Rattle.moir_model.specs.declared.LineStep.{LineStep}
use Rattle.moir_model.specs.declared.Moved.{Moved}
use Rattle.moir_model.specs.Points.{Point, line_number, point_of, idle, ll10, ll2, ll4, ll5, ll6, ll7, sc14, sc17, sc19, sc2, sc4, sc5, sc6, sc7, vl13}
use Rattle.moir_model.specs.Records.{to_line, begin}
use Rattle.moir_model.specs.Words.{announced_word, return_word, offer_word, segment_at, put_header, put_tag, put_value}
use Rattle.moir_model.specs.Lines.{gone_on, do_line10, do_line2, do_line4, do_line5, do_line6, saves, do_line7, do_line7_copy, do_line13, do_line14, do_line17, cas_header, do_line19}

-- All lent memory: the bench record, the process records, the words.
pub record Memory : Type 0 where
  pub bench : Bench
  pub records : List Process
  pub words : List ℕ

-- The table of tags has the length that its declared type gives it.
pub record Shaped (m : Memory) : Type 0 where
  pub tags : length m.bench.tags ≡ 64

-- A step touches one shared item: the header, segment i or a word of A; b is the bench, q the own record, ws the lent
-- words. What a step that only reads leaves:
abbrev pub reads : Bench → List ℕ → LineStep → Moved × List ℕ
reads b ws s = (record { bench = b; process = s.process; reply = s.reply }, ws)

-- lines 2, 4 and 6; the lines that follow are given by their numbers
abbrev pub step2 : ℕ → ℕ → Header → Bench → Process → List ℕ → Moved × List ℕ
step2 k j hdr b q ws = reads b ws (gone_on (do_line2 k j hdr (segment_at b ws q.word) q))

abbrev pub step4 : ℕ → Header → Bench → Process → List ℕ → Moved × List ℕ
step4 k hdr b q ws = reads b ws (gone_on (do_line4 k hdr (get_or ws (announced_word b.w hdr.pid q.word) 0) q))

abbrev pub step6 : ℕ → Bench → Process → List ℕ → Moved × List ℕ
step6 k b q ws = reads b ws (gone_on (do_line6 k (segment_at b ws q.word) q))

-- line 5: the segment is what the CAS leaves there
abbrev pub step5 : ℕ → Bench → Process → List ℕ → Moved × List ℕ
step5 k b q ws = (
  record { bench = put_tag b q.word (do_line5 (segment_at b ws q.word) q).tag; process = to_line k q; reply = Accepted },
  put_value b ws q.word (do_line5 (segment_at b ws q.word) q).val,
)

-- line 7 of a WLL, with line 8: save[i] := y.val, in p's return area
abbrev pub step7 : ProcessNumber → Bench → Process → List ℕ → Moved × List ℕ
step7 p b q ws = reads b (cond (saves b.header q) (set ws (return_word b.n b.w p q.word) q.y.val) ws) (do_line7 b.w b.header q)

-- line 17: A[p][i] := newval[i], from p's offer area
abbrev pub step17 : ProcessNumber → Bench → Process → List ℕ → Moved × List ℕ
step17 p b q ws =
    reads b (set ws (announced_word b.w p q.word) (get_or ws (offer_word b.n b.w p q.word) 0)) (gone_on (do_line17 b.w p q))

-- line 19: the header is what the CAS leaves there
abbrev pub step19 : Bench → Process → List ℕ → Moved × List ℕ
step19 b q ws = reads (put_header b (cas_header b.header q)) ws (do_line19 b.header q)

-- Figure 6, point by point. (A step at an idle process is refused, row 6.)
unfoldable pub step_at : Point → ProcessNumber → Bench → Process → List ℕ → Moved × List ℕ
step_at idle p b q ws = reads b ws (gone_on q)
step_at ll10 p b q ws = reads b ws (gone_on (do_line10 b.header q))
step_at ll2 p b q ws = step2 (line_number ll4) (line_number ll7) q.x b q ws
step_at ll4 p b q ws = step4 (line_number ll5) q.x b q ws
step_at ll5 p b q ws = step5 (line_number ll6) b q ws
step_at ll6 p b q ws = step6 (line_number ll7) b q ws
step_at ll7 p b q ws = step7 p b q ws
step_at sc14 p b q ws = reads b ws (do_line14 b.header q)
step_at sc17 p b q ws = step17 p b q ws
step_at sc19 p b q ws = step19 b q ws
step_at sc2 p b q ws = step2 (line_number sc4) (line_number sc7) q.newhdr b q ws
step_at sc4 p b q ws = step4 (line_number sc5) q.newhdr b q ws
step_at sc5 p b q ws = step5 (line_number sc6) b q ws
step_at sc6 p b q ws = step6 (line_number sc7) b q ws
step_at sc7 p b q ws = reads b ws (do_line7_copy b.w b.header q)
step_at vl13 p b q ws = reads b ws (do_line13 b.header q)

-- What an accepted order does to its process: "same .. starts and steps". "A start places the process at its first line,
-- puts SC's words in the offer area, sets the count to 0 and touches nothing shared." The start of an LL is one of a WLL.
unfoldable pub obey : Order → ProcessNumber → List ℕ → Bench → Process → List ℕ → Moved × List ℕ
obey StartLl p value b q ws = (record { bench = b; process = begin ll10 q; reply = Accepted }, ws)
obey StartSc p value b q ws = (record { bench = b; process = begin sc14 q; reply = Accepted }, sets ws (offer_word b.n b.w p 0) value)
obey StartVl p value b q ws = (record { bench = b; process = begin vl13 q; reply = Accepted }, ws)
obey Step p value b q ws = step_at (point_of q.line) p b q ws
