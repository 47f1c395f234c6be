-- How long the lines of an accepted entry are: with 744 bytes left there is room for the line of its answer and then for
-- a last line, and the trace's line has at most the 128 bytes that a trace needs more.
use mathlib.Core.Path.{◌≡◌, refl}
use mathlib.Core.Bool.{Bool, true, false, cond}
use mathlib.Core.List.{List, [], ◌∷◌, ◌++◌}
use Prim.Native.Nat.{ℕ, ◌+◌, ◌*◌, ◌≤◌, ◌<◌}
use native.Mathlib.Omega.{arith}
use lib.Dec.{ltb}
use lib.ListN.{length, get_or, drop, length-append, length-take, get_or-eq_default}
use lib.Seq.{get_or-take, get_or-drop}
use borrow.Author.Tests.{eq-eqb, ltb-true, ltb-false}
use Rattle.llsc.specs.declared.ProcessNumber.{ProcessNumber}
use Rattle.llsc.specs.declared.Order.{Order}
use Rattle.words.proofs.WordLaws.{within}
use Rattle.notation.specs.declared.Entry.{Entry}
use Rattle.notation.specs.declared.Entry.TheVariants.{StartLl, StartVl, StartSc, Step, Finish}
use Rattle.notation.specs.Grammar.{largest}
use Rattle.notation.specs.Stretches as S
use Rattle.listing.specs.Lines.{line_feed, letter_s, letter_v, answer_head}
use Rattle.listing.proofs.Lengths as listed
use Rattle.trace_parts.specs.TraceParts.{spaced}
use Rattle.trace_parts.proofs.Lengths.{number_length}
use Rattle.text_runs.proofs.TraceLengths as Traced
use Rattle.moir_model.specs.declared.Bench.{Bench}
use Rattle.moir_model.specs.declared.Process.{Process}
use Rattle.moir_model.specs.declared.Reply.{Reply}
use Rattle.moir_model.specs.Records.{record_at}
use Rattle.moir_model.specs.Points.{point_of}
use Rattle.moir_model.specs.Words.{return_area, return_word}
use Rattle.moir_model.specs.Machine.{Memory}
use Rattle.moir_model.specs.Command.{command, refusal, obeyed}
use Rattle.moir_model.specs.Replies.{number_of}
use Rattle.moir_steps.specs.Ranges.{Ready}
use Rattle.moir_access.specs.declared.Access.{Access}
use Rattle.moir_access.specs.TraceParts.{access_text}
use Rattle.moir_access.proofs.Lengths.{SmallAccess, shown_length}
use Rattle.moir_access.proofs.SmallLaws as A
use Rattle.text_runs.specs.TextRun.{most_entries, room_needed, process_of, order_of, value_of}
use Rattle.text_runs.specs.TextRun as T
use Rattle.moir_text_model.specs.TextRun.{Progress, figure6, letter_n, named_line, line_of, answers, access_now}
use Rattle.moir_text_model.proofs.AcceptedRows.{InOrder, unrefused, cleared, in_order}
use Rattle.moir_text_model.proofs.NumbersLeft.{Plain, accepted, wll, named, sc, vl}
use Rattle.moir_text_model.proofs.SmallWords.{Small, SmallValue, small_value, small_none, leaves, small_command}

-- a WLL's answer that names a process
named_length : (p count q : ℕ) → p < 16 → count ≤ 519 → q ≤ largest → length (named_line p count q) ≤ 20
unfolding named_line
named_length p count q h k l =
    listed.joined (answer_head p letter_n count) (spaced q ++ (line_feed ∷ [])) 8 12 (listed.head_length p letter_n count h k)
    (listed.joined (spaced q) (line_feed ∷ []) 11 1 (number_length q l) (omega arith))

-- the line of an answer, with the memory m as the command left it
module _ (m : Memory) (s : Small m) (p : ℕ) (h : p < m.bench.n) where
  abbrev n : ℕ
  n = m.bench.n

  abbrev w : ℕ
  w = m.bench.w

  abbrev from : ℕ
  from = return_word n w (record { 0 = p }) 0

  abbrev area : List ℕ
  area = return_area n w (record { 0 = p }) m.words

  -- the words of a WLL's answer are words of the 3N + 1 rows
  area_at : (i : ℕ) (t : Bool) → ltb i w ≡ t → get_or area i 0 ≤ largest
  area_at i true t =
      let k = ltb-true i w t in
      let l = within {b = n + 1 + p} {c = 3 * n + 1} {k = i} {w = w} (omega arith) k in
      rw (get_or-take w (drop from m.words) i 0 k, get_or-drop from m.words i 0) (s.items.words (from + i) (omega (arith, l)))
  area_at i false t =
      let k = ltb-false i w t in
      rw (get_or-eq_default area 0 {n = i} (omega (arith, length-take w (drop from m.words)))) (omega arith)

  answer_length : {k : ℕ} {q : ProcessNumber} {r : Reply} → Plain k q r → p < 16 → w ≤ 64 → k ≤ 519 → q.0 ≤ largest → length (line_of m p r) ≤ 713
  answer_length accepted l u c d = omega arith
  answer_length {k} wll l u c d = listed.ll_length p k area l c (omega (arith, length-take w (drop from m.words))) (λ i. area_at i (ltb i w) refl)
  answer_length {k} {q} named l u c d = omega (arith, named_length p k q.0 l c d)
  answer_length {k} (sc {t = t}) l u c d = omega (arith, listed.truth_length p letter_s k t l c)
  answer_length {k} (vl {t = t}) l u c d = omega (arith, listed.truth_length p letter_v k t l c)

pub entry_length : (k : ℕ) (a : Access) (e : Entry) (r : Reply) → k ≤ most_entries → S.Small e → SmallAccess a → length (T.entry_line figure6 k a e r) ≤ 128
entry_length k a e r h s x = Traced.line_length access_text k a e (answers r) h s (omega (arith, shown_length a x))

-- a command that is not refused
module _ (m : Memory) (p : ℕ) (o : Order) (v : List ℕ) (s : Small m) (z : number_of (command m p o v).0 ≡ 0) where
  abbrev b : Bench
  b = m.bench

  abbrev own : Process
  own = record_at m.records (record { 0 = p })

  order : InOrder b own p
  order = in_order m p o v (unrefused m p o v z)

  ready : Ready b own (record { 0 = p }) m.words
  ready =
      let r = order in
      record {
        standing = record {
          n_most = r.n_most;
          w_most = r.w_most;
          words = (cleared m p o v (unrefused m p o v z)).lent;
          word = r.word;
          count = omega (arith, r.count, r.w_most);
        };
        process = r.process;
        x_pid_is = r.x;
        new_pid_is = r.newhdr;
      }

  numbers : A.SmallNumbers b own m.words
  numbers =
      let r = order in
      let q = s.records p r.process in
      record {
        header = record { tag = omega (arith, s.items.header); pid = omega (arith, r.header, r.n_most) };
        tags = λ k h. omega (arith, s.items.tags k h);
        words = s.items.words;
        oldhdr = record { tag = omega (arith, q.oldhdr); pid = omega (arith, r.oldhdr, r.n_most) };
        newhdr = record { tag = omega (arith, q.newhdr); pid = omega (arith, r.newhdr, r.n_most) };
        y = record { tag = omega (arith, q.y.tag); val = q.y.val };
        z = record { tag = omega (arith, q.z.tag); val = q.z.val };
      }

  -- what a trace shows of its step has no larger numbers than the memory
  pub small_access : SmallAccess (access_now m p)
  small_access = A.access_small ready numbers (point_of own.line)

  obeys : command m p o v ≡ obeyed m (record { 0 = p }) o v
  unfolding command
  obeys = simp (eq-eqb (refusal m p o v) 0 (unrefused m p o v z))

  pub line_length : SmallValue v → length (line_of (command m p o v).1 p (command m p o v).0) ≤ 713
  line_length h =
      let r = order in
      let l = leaves m p o v s h (unrefused m p o v z) in
      let left : Small (obeyed m (record { 0 = p }) o v).1 = rw obeys at (small_command m p o v s h) in
      rw obeys (answer_length (obeyed m (record { 0 = p }) o v).1 left p (omega (arith, r.process, l.n)) l.reply
      (omega (arith, r.process, r.n_most)) (omega (arith, r.w_most, l.w)) (omega (arith, r.count, r.w_most)) (omega (arith, r.header, r.n_most)))

-- the value of an entry
pub value_small : (e : Entry) (w : ℕ) → S.Small e → SmallValue (value_of w e)
value_small (StartLl p) w s = small_none
value_small (StartVl p) w s = small_none
value_small (StartSc p k) w s = small_value w k s.1
value_small (Step p) w s = small_none
value_small (Finish p) w s = small_none

-- an entry that is accepted, in a run that has 744 bytes left, and 128 more where it is traced: its lines, and behind
-- them room for a last line
module _ (s : Progress) (e : Entry) (small : Small s.memory) (fits : S.Small e) where
  abbrev out : Reply × Memory
  out = command s.memory (process_of e) (order_of e) (value_of s.memory.bench.w e)

  abbrev trace : List ℕ
  trace = cond s.traced (T.trace_line figure6 (s.entries + 1) s.memory e out.0) []

  pub trace_length : number_of out.0 ≡ 0 → s.entries < most_entries → length trace ≤ cond s.traced 128 0
  trace_length z k = by s.traced
    where
      by : (t : Bool) → length (cond t (T.trace_line figure6 (s.entries + 1) s.memory e out.0) []) ≤ cond t 128 0
      by true =
          entry_length (s.entries + 1) (access_now s.memory (process_of e)) e out.0 (omega (arith, k)) fits
          (small_access s.memory (process_of e) (order_of e) (value_of s.memory.bench.w e) small z)
      by false = omega arith

  pub lines_fit : number_of out.0 ≡ 0 → s.entries < most_entries → s.written + room_needed s.traced ≤ length s.listing
      → s.written + length (T.lines_of figure6 s e out) + 17 ≤ length s.listing
  lines_fit z k room =
      let v = value_of s.memory.bench.w e in
      let line = line_of out.1 (process_of e) out.0 in
      let a = line_length s.memory (process_of e) (order_of e) v small z (value_small e s.memory.bench.w fits) in
      omega (arith, trace_length z k, a, length-append trace line, room)
