-- An accepted command on one record leaves the others in place, for every memory.
use mathlib.Core.Path.{◌≡◌, refl, sym, ap, subst, ◌∙◌}
use mathlib.Core.Bool.{Bool, true, false, ◌&&◌, ◌||◌, cond}
use mathlib.Core.List.{List, [], ◌∷◌}
use Prim.Native.Nat.{ℕ, suc, ◌+◌, ◌*◌, ◌/◌, ◌%◌, ◌≤◌, ◌<◌}
use native.Mathlib.Nat.{mul-le-mul_right, mod-lt, div-add-mod'}
use native.Mathlib.Decide.{dec_lt}
use native.Mathlib.Omega.{arith}
use lib.Dec.{eqb, ltb}
use borrow.Author.Tests.{eqb-true, ltb-true}
use lib.ListN.{get_or, take, drop}
use Rattle.model.specs.declared.Moved.{Moved}
use Rattle.model.specs.declared.Process.{Process}
use Rattle.model.specs.declared.Reply.{Reply}
use Rattle.model.specs.Sizes.{buffers, halves}
use Rattle.model.specs.Points.{Point, line_number, point_of, find, busy_points}
use Rattle.model.specs.Machine.{obey_in}
use Rattle.llsc.specs.Rows.{some}
use Rattle.model.specs.Refusals.{process_ok, buffer_ok, x_ok, line_ok, count_ok}
use Rattle.laws.proofs.Updates.{contra}
use Rattle.serving.proofs.RefusalFacts.{and_true}
use Rattle.laws.proofs.Parts.{tab_ext}
use Rattle.laws.proofs.ListFacts.{cut_tab}
use Rattle.station.specs.declared.RecordNumber.{RecordNumber}
use Rattle.station.specs.Station.{StationMemory, process_at, layout_of}
use Rattle.station_laws.specs.OthersStay.{OnlyItsRecord}
use Rattle.station.specs.Projection.{embed, bench_of, process_of}
use Rattle.station.specs.StationRefusals.{StationOrder, record_for, called_ok}
use Rattle.station.specs.StationCommand.{station_refusal, station_command, obeyed_on}
use Rattle.station_laws.proofs.Agrees.{station_rows_lem, return_stays, offer_stays, buffer_stays}
use Rattle.station_laws.proofs.LiveWords.{Kept, Rows}
use Rattle.station_laws.proofs.OneSide.{obey_kept}
use Rattle.station_facts.proofs.Accepts.{Accepts, accepts, obeys, every_number}
use Rattle.station_laws.proofs.PutBack.{tables_other, process_other, holding_other}

-- a line in range is the number of its point
find_known : (k : ℕ) (ys : List Point) → some (λ y. eqb k (line_number y)) ys ≡ true → k ≡ line_number (find k ys)
find_known k [] e = absurd (contra e refl)
find_known k (y ∷ ys) e = go (eqb k (line_number y)) refl (find_known k ys) e
  where
    go : (b : Bool) → eqb k (line_number y) ≡ b → (some (λ u. eqb k (line_number u)) ys ≡ true → k ≡ line_number (find k ys)) → b || some (λ u. eqb k (line_number u)) ys ≡ true
        → k ≡ line_number (cond b y (find k ys))
    go true t f h = eqb-true k (line_number y) t
    go false t f h = f h

line_known : (k : ℕ) (b : Bool) → eqb k 0 ≡ b → b || some (λ y. eqb k (line_number y)) busy_points ≡ true → k ≡ line_number (point_of k)
line_known k true t h = let e : k ≡ 0 = eqb-true k 0 t in subst (λ i. i ≡ line_number (point_of i)) (sym e) refl
line_known k false t h = find_known k busy_points h

module _ (s : StationMemory) (c : StationOrder) (e : station_refusal s c ≡ 0) where
  a : Accepts s c
  a = accepts s c e

  abbrev j : RecordNumber
  j = record_for s c

  abbrev out : Moved × List ℕ
  out = obeyed_on s j c

  is : (station_command s c).1 ≡ (embed s j c.process out).1
  is = ap (λ (o : Reply × StationMemory). o.1) (obeys s c e)

  -- the process in range: row 9 looked at it
  abbrev q : Process
  q = process_of j (process_at s c.process)

  ok : process_ok s.n s.w q ≡ true
  ok =
      let on : ℕ → Bool = λ i. process_ok s.n s.w (process_of (record { 0 = i }) (process_at s c.process)) in
      every_number on s.r j.0 (and_true (called_ok s.r (process_at s c.process)) _ a.ranges).1 a.on

  -- the parts of row 9 that are needed
  parts : (m x b c d e l w r : Bool) → m && (x && (b && (c && (d && (e && (l && (w && r))))))) ≡ true → (m ≡ true) × (l ≡ true) × (w ≡ true)
  parts m x b c d e l w r h =
      let h1 = and_true m _ h in let h2 = and_true x _ h1.1 in let h3 = and_true b _ h2.1 in let h4 = and_true c _ h3.1 in
      let h5 = and_true d _ h4.1 in let h6 = and_true e _ h5.1 in let h7 = and_true l _ h6.1 in
      (h1.0, h7.0, (and_true w _ h7.1).0)

  fine : (buffer_ok s.n q.mybuf ≡ true) × (line_ok q ≡ true) × (ltb q.word (halves s.w) ≡ true)
  fine =
      parts (buffer_ok s.n q.mybuf) (x_ok s.n q.x) (buffer_ok s.n q.b) (buffer_ok s.n q.c) (buffer_ok s.n q.d) (buffer_ok s.n q.e) (line_ok q)
      (ltb q.word (halves s.w)) (count_ok s.w q) ok

  at_point : q.line ≡ line_number (point_of q.line)
  at_point = line_known q.line (eqb q.line 0) refl fine.1

  kept : Kept s.n s.w c.process (layout_of s j) s.words out.1
  kept =
      let at : ℕ → Process = λ i. record { mybuf = q.mybuf; x = q.x; line = i; word = q.word; count = q.count; answered = q.answered; b = q.b; c = q.c; d = q.d; e = q.e } in
      let left : ℕ → List ℕ = λ i. (obey_in (layout_of s j) c.order (record { 0 = c.process }) c.value (bench_of s j) (at i) s.words).1 in
      subst (λ i. Kept s.n s.w c.process (layout_of s j) s.words (left i)) (sym at_point)
      (obey_kept s.n s.w c.process (layout_of s j) a.below (bench_of s j).x (bench_of s j).bank (bench_of s j).help
      q.mybuf q.x q.word q.count q.answered q.b q.c q.d q.e s.words
      (ltb-true _ _ fine.0) (ltb-true _ _ fine.2) c.order c.value (point_of q.line) a.value)

  abbrev T : ℕ
  T = (3 * s.r + 2) * s.n

  -- a row of words
  cut : (d : ℕ) → d < T → ((l : ℕ) → l < s.w → get_or out.1 (d * s.w + l) 0 ≡ get_or s.words (d * s.w + l) 0)
      → take s.w (drop (d * s.w + 0) out.1) ≡ take s.w (drop (d * s.w + 0) s.words)
  cut d hd same =
      let v : suc d * s.w ≤ T * s.w = mul-le-mul_right s.w hd in let x = a.words in let y = kept.len in
      cut_tab s.w (d * s.w + 0) out.1 (omega arith)
      ∙ tab_ext s.w _ _ (λ l hl. let e : d * s.w + 0 + l ≡ d * s.w + l = omega arith in ap (λ i. get_or out.1 i 0) e ∙ same l hl ∙ sym (ap (λ i. get_or s.words i 0) e))
      ∙ sym (cut_tab s.w (d * s.w + 0) s.words (omega arith))

  rows : Rows s.n T (layout_of s j)
  rows = station_rows_lem s.n s.r j a.on

  -- what lies beyond the last row
  past : (i : ℕ) → T * s.w ≤ i → get_or out.1 i 0 ≡ get_or s.words i 0
  past i hi =
      let e = div-add-mod' i s.w in let k = mod-lt i a.w_low in
      let d : T ≤ i / s.w = go (dec_lt (i / s.w) T) in
      subst (λ o. get_or out.1 o 0 ≡ get_or s.words o 0) e
      (kept.row (i / s.w) (i % s.w) (λ b hb x. let u = rows.buffer_below b hb in omega arith)
      (λ x. let u = rows.return_below c.process a.below in omega arith) (λ x. let u = rows.offer_below c.process a.below in omega arith) k)
    where
      go : Dec (i / s.w < T) → T ≤ i / s.w
      go (yes h) = absurd (let v : suc (i / s.w) * s.w ≤ T * s.w = mul-le-mul_right s.w h in let e = div-add-mod' i s.w in let k = mod-lt i a.w_low in omega arith)
      go (no h) = omega arith

  pub only : OnlyItsRecord s c (station_command s c).1
  only = record {
    sizes = (ap (λ (t : StationMemory). t.n) is, ap (λ (t : StationMemory). t.w) is, ap (λ (t : StationMemory). t.r) is);
    others = λ i hi ne. rw is (record {
      tables = tables_other s j c.process out i ne;
      buffers_stay =
          λ b hb. cut (i.0 * buffers s.n + b) ((station_rows_lem s.n s.r i hi).buffer_below b hb)
          (λ l hl. buffer_stays s.n s.w s.r j c.process a.on a.below kept i b l hi ne hb hl);
      holdings = holding_other s j c.process out (let x = a.below in let y = a.processes in omega arith) i ne;
    });
    processes = λ q ne. rw is (process_other s j c.process out q ne);
    returns = λ q hq ne. rw is (cut (s.r * buffers s.n + q) (rows.return_below q hq) (λ l hl. return_stays s.n s.w s.r j c.process a.on a.below kept q l hq ne hl));
    offers = λ q hq ne. rw is (cut (s.r * buffers s.n + s.n + q) (rows.offer_below q hq) (λ l hl. offer_stays s.n s.w s.r j c.process a.on a.below kept q l hq ne hl));
    beyond = λ i hi. rw is (past i hi);
  }
