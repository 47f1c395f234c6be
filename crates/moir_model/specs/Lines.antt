-- The lines of Figure 6. Each is a function of the one shared item that it touches (the header, a segment, a word of the
-- array A) and of its own process q, and of nothing else. In Copy, hdr is the header that it was called with: x in a WLL
-- (line 12), newhdr in an SC (line 20).
use Rattle.std.specs.Prelude.{ℕ, ◌+◌, Bool, true, false, ◌&&◌, cond, eqb, ltb}
use Rattle.llsc.specs.declared.ProcessNumber.{ProcessNumber}
use Rattle.moir_model.specs.declared.Header.{Header}
use Rattle.moir_model.specs.declared.Segment.{Segment}
use Rattle.moir_model.specs.declared.Process.{Process}
use Rattle.moir_model.specs.declared.Reply.TheVariants.{Accepted, WllAnswered, WllNamed, ScAnswered, VlAnswered}
use Rattle.moir_model.specs.declared.LineStep.{LineStep}
use Rattle.moir_model.specs.Tags.{next_tag, previous_tag}
use Rattle.moir_model.specs.Points.{ll2, sc17, sc19, sc2}
use Rattle.moir_model.specs.Records.{to_line, to, rest, marked, with_word, with_x, with_old, with_new, with_h, with_y, with_z}

-- two headers, two segments are equal: tag and process, tag and word
abbrev pub same_header : Header → Header → Bool
same_header g h = eqb g.tag h.tag && eqb g.pid.0 h.pid.0

abbrev pub same_segment : Segment → Segment → Bool
same_segment g h = eqb g.tag h.tag && eqb g.val h.val

-- a step that goes on, and one that answers
abbrev pub gone_on : Process → LineStep
gone_on q = record { process = q; reply = Accepted }

-- Line 10, on the header: x := addr->hdr. Lines 11 and 12 go with it: *keep := x.tag, and Copy(addr, x, retval) begins.
abbrev pub do_line10 : Header → Process → Process
do_line10 h q = to ll2 (with_x h q)

-- Lines 2 and 3, on segment i: y := addr->data[i]; if y.tag = hdr.tag ⊖ 1 then the line of number k (4), else that of
-- number j (7).
abbrev pub do_line2 : ℕ → ℕ → Header → Segment → Process → Process
do_line2 k j hdr g q = cond (eqb g.tag (previous_tag hdr.tag)) (to_line k (with_y g q)) (to_line j (with_y g q))

-- Line 4, on the word v of A[hdr.pid][i]: z := (hdr.tag, A[hdr.pid][i]). The line of number k (5) follows.
abbrev pub do_line4 : ℕ → Header → ℕ → Process → Process
do_line4 k hdr v q = to_line k (with_z (record { tag = hdr.tag; val = v }) q)

-- Line 5, on segment i: CAS(addr->data[i], y, z). What it leaves there; line 6 follows either way.
abbrev pub do_line5 : Segment → Process → Segment
do_line5 g q = cond (same_segment g q.y) q.z g

-- Line 6, on segment i: "In place of `y := z`, a further step reads the segment again into y." The line of number k (7)
-- follows.
abbrev pub do_line6 : ℕ → Segment → Process → Process
do_line6 k g q = to_line k (with_y g q)

-- Line 7, on the header, in a WLL of W = w words: h := addr->hdr; if h /= hdr then return h.pid. Else line 8 saves the
-- word (`saves`), and the next word follows; after the last one line 9 returns succ, and the WLL answers the words.
abbrev pub saves : Header → Process → Bool
saves h q = same_header h q.x

abbrev pub do_line7 : ℕ → Header → Process → LineStep
do_line7 w h q =
    cond (saves h q)
    (cond (ltb (q.word + 1) w)
    (gone_on (with_word (q.word + 1) (to ll2 (with_h h q))))
    (record { process = rest (marked (with_h h q)); reply = WllAnswered (q.count + 1) }))
    (record { process = rest (marked (with_h h q)); reply = WllNamed h.pid (q.count + 1) })

-- Line 7 in an SC: the SC ignores what Copy returns, and answers true (line 21) where Copy ends, early or after the last
-- word.
abbrev pub copied : Header → Process → LineStep
copied h q = record { process = rest (with_h h q); reply = ScAnswered true (q.count + 1) }

abbrev pub do_line7_copy : ℕ → Header → Process → LineStep
do_line7_copy w h q =
    cond (same_header h q.newhdr)
    (cond (ltb (q.word + 1) w) (gone_on (with_word (q.word + 1) (to sc2 (with_h h q)))) (copied h q))
    (copied h q)

-- Line 13, on the header: return (addr->hdr).tag = keep.
abbrev pub do_line13 : Header → Process → LineStep
do_line13 h q = record { process = rest q; reply = VlAnswered (eqb h.tag q.keep) (q.count + 1) }

-- Lines 14 and 15, on the header: oldhdr := addr->hdr; if oldhdr.tag /= keep then return false.
abbrev pub do_line14 : Header → Process → LineStep
do_line14 h q = cond (eqb h.tag q.keep) (gone_on (to sc17 (with_old h q))) (record { process = rest (with_old h q); reply = ScAnswered false (q.count + 1) })

-- Lines 16 to 18, on A[p][i]: A[p][i] := newval[i]; after the last word newhdr := (oldhdr.tag ⊕ 1, p).
abbrev pub do_line17 : ℕ → ProcessNumber → Process → Process
do_line17 w p q =
    cond (ltb (q.word + 1) w) (with_word (q.word + 1) (to sc17 q))
    (with_word 0 (to sc19 (with_new (record { tag = next_tag q.oldhdr.tag; pid = p }) q)))

-- Line 19, on the header: if not CAS(addr, oldhdr, newhdr) then return false. What it leaves there, and the step; if it is
-- done, line 20's Copy(addr, newhdr, null) follows.
abbrev pub cas_header : Header → Process → Header
cas_header h q = cond (same_header h q.oldhdr) q.newhdr h

abbrev pub do_line19 : Header → Process → LineStep
do_line19 h q = cond (same_header h q.oldhdr) (gone_on (to sc2 q)) (record { process = rest q; reply = ScAnswered false (q.count + 1) })
