-- What set-up and commands leave of the numbers that N and W need: every tag has sixteen bits, and P holds of every word
-- where it holds of 0 and of the words that are brought.
use mathlib.Core.Path.{◌≡◌, refl}
use mathlib.Core.Logic.{◌≢◌}
use mathlib.Core.Bool.{Bool, true, false, cond}
use mathlib.Core.List.{List, [], ◌∷◌, ◌++◌}
use Prim.Native.Nat.{ℕ, zero, suc, ◌+◌, ◌-◌, ◌*◌, ◌≤◌, ◌<◌}
use native.Mathlib.Omega.{arith}
use native.Mathlib.Nat.{not-suc-le-zero, suc-mul}
use lib.Dec.{eqb, ltb}
use lib.ListN.{length, get_or, set, replicate, length-append, length-replicate}
use lib.Seq.{sets}
use borrow.Author.Tests.{eq-eqb, ne_eqb}
use Rattle.llsc.specs.declared.ProcessNumber.{ProcessNumber}
use Rattle.llsc.specs.declared.Order.{Order}
use Rattle.llsc.specs.declared.Order.TheVariants.{StartLl, StartSc, StartVl, Step}
use Rattle.words.proofs.WordLaws.{within}
use Rattle.moir_model.specs.declared.Header.{Header}
use Rattle.moir_model.specs.declared.Segment.{Segment}
use Rattle.moir_model.specs.declared.Bench.{Bench}
use Rattle.moir_model.specs.declared.Process.{Process}
use Rattle.moir_model.specs.declared.Moved.{Moved}
use Rattle.moir_model.specs.declared.LineStep.{LineStep}
use Rattle.moir_model.specs.declared.Reply.{Reply}
use Rattle.moir_model.specs.declared.Reply.TheVariants.{Accepted, WllAnswered, WllNamed, ScAnswered, VlAnswered}
use Rattle.moir_model.specs.Tags.{tag_values, next_tag, previous_tag}
use Rattle.moir_model.specs.Sizes.{lent_words}
use Rattle.moir_model.specs.Points.{Point, point_of, idle, ll10, ll2, ll4, ll5, ll6, ll7, sc14, sc17, sc19, sc2, sc4, sc5, sc6, sc7, vl13}
use Rattle.moir_model.specs.Records.{no_process, record_at, to_line, to, with_word, with_new, with_y}
use Rattle.moir_model.specs.Words.{announced_word, segment_word, return_word, offer_word, segment_at}
use Rattle.moir_model.specs.Lines.{same_header, same_segment, saves, do_line2, do_line5, do_line7, do_line7_copy, do_line14, do_line17, do_line19}
use Rattle.moir_model.specs.Machine.{Memory, step_at, obey}
use Rattle.moir_model.specs.Command.{command, refusal, obeyed}
use Rattle.moir_model.specs.SetUp.{at_set_up, values_at_set_up, process_at_set_up}
use Rattle.moir_text_model.proofs.AcceptedRows.{InOrder, in_order}

-- a segment, or a private copy of one
pub record SegmentFits (P : ℕ → Type 0) (g : Segment) : Type 0 where
  pub tag : g.tag < tag_values
  pub val : P g.val

-- the private numbers of a process that come from shared items
pub record CopiesFit (P : ℕ → Type 0) (k : ℕ) (a b c d : Header) (u v : Segment) : Type 0 where
  pub keep : k < tag_values
  pub x : a.tag < tag_values
  pub oldhdr : b.tag < tag_values
  pub newhdr : c.tag < tag_values
  pub h : d.tag < tag_values
  pub y : SegmentFits P u
  pub z : SegmentFits P v

abbrev pub ProcessFits : (ℕ → Type 0) → Process → Type 0
ProcessFits P q = CopiesFit P q.keep q.x q.oldhdr q.newhdr q.h q.y q.z

-- the words of the 3N + 1 rows, the header's tag and the tags of the W segments
pub record ItemsFit (P : ℕ → Type 0) (n w : ℕ) (b : Bench) (ws : List ℕ) : Type 0 where
  pub words : (i : ℕ) → i < lent_words n w → P (get_or ws i 0)
  pub tags : (i : ℕ) → i < w → get_or b.tags i 0 < tag_values
  pub header : b.header.tag < tag_values

-- all that N and W need of the lent memory
pub record MemoryFits (P : ℕ → Type 0) (m : Memory) : Type 0 where
  pub items : ItemsFit P m.bench.n m.bench.w m.bench m.words
  pub records : (i : ℕ) → i < m.bench.n → ProcessFits P (get_or m.records i no_process)

-- every word of a value
abbrev pub ValueFits : (ℕ → Type 0) → List ℕ → Type 0
ValueFits P v = (i : ℕ) → P (get_or v i 0)

value_join : (P : ℕ → Type 0) (u v : List ℕ) → ValueFits P u → ValueFits P v → ValueFits P (u ++ v)
value_join P [] v a b i = b i
value_join P (x ∷ u) v a b zero = a 0
value_join P (x ∷ u) v a b (suc i) = value_join P u v (λ j. a (suc j)) b i

-- what holds of the element that is read after a store, and after a row of stores
module _ {A : Type 0} (P : A → Type 0) (d : A) (e : P d) where
  set_holds : (l : List A) (i j : ℕ) (a : A) → P a → (j ≢ i → P (get_or l j d)) → P (get_or (set l i a) j d)
  set_holds [] i j a p h = e
  set_holds (c ∷ l) zero zero a p h = p
  set_holds (c ∷ l) zero (suc j) a p h = h (λ z. omega (arith, z))
  set_holds (c ∷ l) (suc i) zero a p h = h (λ z. omega (arith, z))
  set_holds (c ∷ l) (suc i) (suc j) a p h = set_holds l i j a p (λ n. h (λ z. n (omega (arith, z))))

  sets_hold : (vs l : List A) (i j : ℕ) → ((k : ℕ) → P (get_or vs k d)) → P (get_or l j d) → P (get_or (sets l i vs) j d)
  sets_hold [] l i j p h = h
  sets_hold (v ∷ vs) l i j p h = sets_hold vs (set l i v) (suc i) j (λ k. p (suc k)) (set_holds l i j v (p 0) (λ n. h))

  sets_filled : (vs l : List A) (i j : ℕ) → ((k : ℕ) → P (get_or vs k d)) → (j < i → P (get_or l j d)) → j < i + length vs → P (get_or (sets l i vs) j d)
  sets_filled [] l i j p h b = h (omega arith)
  sets_filled (v ∷ vs) l i j p h b =
      sets_filled vs (set l i v) (suc i) j (λ k. p (suc k)) (λ s. set_holds l i j v (p 0) (λ n. h (omega (arith, n, s)))) (omega arith)

  same_hold : (n : ℕ) → (k : ℕ) → P (get_or (replicate n d) k d)
  same_hold zero k = e
  same_hold (suc n) zero = e
  same_hold (suc n) (suc k) = same_hold n k

abbrev Tag : ℕ → Type 0
Tag k = k < tag_values

-- a reply that is no refusal: with the count k where it answers, and with process q where it names one
pub data Plain (k : ℕ) (q : ProcessNumber) : Reply → Type 0 where
  accepted : Plain k q Accepted
  wll : Plain k q (WllAnswered k)
  named : Plain k q (WllNamed q k)
  sc : {t : Bool} → Plain k q (ScAnswered t k)
  vl : {t : Bool} → Plain k q (VlAnswered t k)

-- what an obeyed order leaves: N and W stay, the numbers fit, and the reply is no refusal
pub record Leaves (P : ℕ → Type 0) (b : Bench) (q : Process) (out : Moved × List ℕ) : Type 0 where
  pub n : out.0.bench.n ≡ b.n
  pub w : out.0.bench.w ≡ b.w
  pub items : ItemsFit P b.n b.w out.0.bench out.1
  pub process : ProcessFits P out.0.process
  pub reply : Plain (q.count + 1) b.header.pid out.0.reply

-- a line's own part
record LineFits (P : ℕ → Type 0) (k : ℕ) (pid : ProcessNumber) (s : LineStep) : Type 0 where
  process : ProcessFits P s.process
  reply : Plain k pid s.reply

-- for a P that holds of 0
module _ (P : ℕ → Type 0) (at_zero : P 0) where
  -- a process at the set-up
  empty_fits : ProcessFits P no_process
  empty_fits = record {
    keep = omega arith;
    x = omega arith;
    oldhdr = omega arith;
    newhdr = omega arith;
    h = omega arith;
    y = record { tag = omega arith; val = at_zero };
    z = record { tag = omega arith; val = at_zero };
  }

  -- The set-up, on whatever was lent: it writes all that N and W need.
  module _ (m : Memory) (n w : ℕ) (value : List ℕ) (v : ValueFits P value) (c : length value ≡ w) where
    abbrev others : List ℕ
    others = replicate ((n - 1) * w) 0

    abbrev areas : List ℕ
    areas = replicate (2 * n * w) 0

    values : ValueFits P (values_at_set_up n w value)
    values =
        value_join P (value ++ others ++ value) areas (value_join P (value ++ others) value (value_join P value others v (same_hold P 0 at_zero ((n - 1) * w))) v)
        (same_hold P 0 at_zero (2 * n * w))

    rows : (n : ℕ) → lent_words n w ≤ w + (n - 1) * w + w + 2 * n * w
    rows zero = omega arith
    rows (suc k) = let e : suc k - 1 ≡ k = omega arith in rw e (by (suc k) (k * w) (suc-mul k w))
      where
        by : (n r : ℕ) → n * w ≡ r + w → lent_words n w ≤ w + r + w + 2 * n * w
        by n r e = omega (arith, e)

    enough : lent_words n w ≤ length (values_at_set_up n w value)
    enough =
        let a = length-append (value ++ others ++ value) areas in
        let b = length-append (value ++ others) value in
        let d = length-append value others in
        omega (arith, rows n, a, b, d, c, length-replicate {A = ℕ} ((n - 1) * w) 0, length-replicate {A = ℕ} (2 * n * w) 0)

    pub at_set_up_fits : MemoryFits P (at_set_up m n w value)
    at_set_up_fits = record {
      items = record {
        words = λ j k. sets_filled P 0 at_zero (values_at_set_up n w value) m.words 0 j values (λ z. absurd (not-suc-le-zero z)) (omega (arith, k, enough));
        tags = λ j k. sets_filled Tag 0 (omega arith) (replicate w 0) m.bench.tags 0 j (same_hold Tag 0 (omega arith) w) (λ z. omega arith)
            (omega (arith, k, length-replicate {A = ℕ} w 0));
        header = omega arith;
      };
      records = λ j k. sets_filled (ProcessFits P) no_process empty_fits (replicate n process_at_set_up) m.records 0 j
          (same_hold (ProcessFits P) no_process empty_fits n) (λ z. absurd (not-suc-le-zero z)) (omega (arith, k, length-replicate n process_at_set_up));
    }

  -- either of two
  either_segment : (t : Bool) {g g' : Segment} → SegmentFits P g → SegmentFits P g' → SegmentFits P (cond t g g')
  either_segment true s s' = s
  either_segment false s s' = s'

  either_header : (t : Bool) (h h' : Header) → Tag h.tag → Tag h'.tag → Tag (cond t h h').tag
  either_header true h h' s s' = s
  either_header false h h' s s' = s'

  either_process : (t : Bool) (q q' : Process) → ProcessFits P q → ProcessFits P q' → ProcessFits P (cond t q q')
  either_process true q q' s s' = s
  either_process false q q' s s' = s'

  either_line : (t : Bool) {k : ℕ} {pid : ProcessNumber} {s s' : LineStep} → LineFits P k pid s → LineFits P k pid s' → LineFits P k pid (cond t s s')
  either_line true s s' = s
  either_line false s s' = s'

  module _ {n w : ℕ} {b : Bench} {ws : List ℕ} (s : ItemsFit P n w b ws) where
    word_put : (i v : ℕ) → P v → ItemsFit P n w b (set ws i v)
    word_put i v h = record { words = λ j k. set_holds P 0 at_zero ws i j v h (λ e. s.words j k); tags = s.tags; header = s.header }

    words_put : (i : ℕ) (v : List ℕ) → ValueFits P v → ItemsFit P n w b (sets ws i v)
    words_put i v h = record { words = λ j k. sets_hold P 0 at_zero v ws i j h (s.words j k); tags = s.tags; header = s.header }

  either_words : (t : Bool) {n w : ℕ} {b : Bench} {ws ws' : List ℕ} → ItemsFit P n w b ws → ItemsFit P n w b ws' → ItemsFit P n w b (cond t ws ws')
  either_words true s s' = s
  either_words false s s' = s'

  -- a step of process p, whose record is q
  module _ {p : ProcessNumber} {b : Bench} {q : Process} {ws : List ℕ} (r : InOrder b q p.0) (s : ItemsFit P b.n b.w b ws) (c : ProcessFits P q) where
    abbrev k : ℕ
    k = q.count + 1

    abbrev pid : ProcessNumber
    pid = b.header.pid

    -- the words that it reads
    word_at : (row : ℕ) → row < 3 * b.n + 1 → P (get_or ws (row * b.w + q.word) 0)
    word_at row h = s.words (row * b.w + q.word) (within {b = row} {c = 3 * b.n + 1} h r.word)

    segment : SegmentFits P (segment_at b ws q.word)
    segment = record { tag = s.tags q.word r.word; val = word_at b.n (omega arith) }

    -- the private numbers after a copy
    with_x_is : CopiesFit P b.header.tag b.header q.oldhdr q.newhdr q.h q.y q.z
    with_x_is = record { keep = s.header; x = s.header; oldhdr = c.oldhdr; newhdr = c.newhdr; h = c.h; y = c.y; z = c.z }

    with_old_is : CopiesFit P q.keep q.x b.header q.newhdr q.h q.y q.z
    with_old_is = record { keep = c.keep; x = c.x; oldhdr = s.header; newhdr = c.newhdr; h = c.h; y = c.y; z = c.z }

    with_new_is : CopiesFit P q.keep q.x q.oldhdr (record { tag = next_tag q.oldhdr.tag; pid = p }) q.h q.y q.z
    with_new_is = record { keep = c.keep; x = c.x; oldhdr = c.oldhdr; newhdr = omega arith; h = c.h; y = c.y; z = c.z }

    with_h_is : CopiesFit P q.keep q.x q.oldhdr q.newhdr b.header q.y q.z
    with_h_is = record { keep = c.keep; x = c.x; oldhdr = c.oldhdr; newhdr = c.newhdr; h = s.header; y = c.y; z = c.z }

    with_y_is : CopiesFit P q.keep q.x q.oldhdr q.newhdr q.h (segment_at b ws q.word) q.z
    with_y_is = record { keep = c.keep; x = c.x; oldhdr = c.oldhdr; newhdr = c.newhdr; h = c.h; y = segment; z = c.z }

    with_z_is : (hdr : Header) → hdr.tag < tag_values → hdr.pid.0 < b.n
        → CopiesFit P q.keep q.x q.oldhdr q.newhdr q.h q.y (record { tag = hdr.tag; val = get_or ws (announced_word b.w hdr.pid q.word) 0 })
    with_z_is hdr t l = record {
      keep = c.keep;
      x = c.x;
      oldhdr = c.oldhdr;
      newhdr = c.newhdr;
      h = c.h;
      y = c.y;
      z = record { tag = t; val = word_at hdr.pid.0 (omega arith) };
    }

    line_2 : (i j : ℕ) (hdr : Header) → ProcessFits P (do_line2 i j hdr (segment_at b ws q.word) q)
    line_2 i j hdr =
        let g = segment_at b ws q.word in
        either_process (eqb g.tag (previous_tag hdr.tag)) (to_line i (with_y g q)) (to_line j (with_y g q)) with_y_is with_y_is

    line_5 : SegmentFits P (do_line5 (segment_at b ws q.word) q)
    line_5 = either_segment (same_segment (segment_at b ws q.word) q.y) c.z segment

    line_7 : LineFits P k pid (do_line7 b.w b.header q)
    line_7 =
        either_line (saves b.header q)
        (either_line (ltb (q.word + 1) b.w) (record { process = with_h_is; reply = accepted }) (record { process = with_h_is; reply = wll }))
        (record { process = with_h_is; reply = named })

    line_7_copy : LineFits P k pid (do_line7_copy b.w b.header q)
    line_7_copy =
        either_line (same_header b.header q.newhdr)
        (either_line (ltb (q.word + 1) b.w) (record { process = with_h_is; reply = accepted }) (record { process = with_h_is; reply = sc }))
        (record { process = with_h_is; reply = sc })

    line_14 : LineFits P k pid (do_line14 b.header q)
    line_14 = either_line (eqb b.header.tag q.keep) (record { process = with_old_is; reply = accepted }) (record { process = with_old_is; reply = sc })

    line_17 : ProcessFits P (do_line17 b.w p q)
    line_17 =
        let next : Header = record { tag = next_tag q.oldhdr.tag; pid = p } in
        either_process (ltb (q.word + 1) b.w) (with_word (q.word + 1) (to sc17 q)) (with_word 0 (to sc19 (with_new next q))) c with_new_is

    line_19 : LineFits P k pid (do_line19 b.header q)
    line_19 = either_line (same_header b.header q.oldhdr) (record { process = c; reply = accepted }) (record { process = c; reply = sc })

    items_5 : ItemsFit P b.n b.w (step_at ll5 p b q ws).0.bench (step_at ll5 p b q ws).1
    unfolding step_at
    items_5 = record {
      words = λ j h. set_holds P 0 at_zero ws (segment_word b.n b.w q.word) j _ line_5.val (λ e. s.words j h);
      tags = λ j h. set_holds Tag 0 (omega arith) b.tags q.word j _ line_5.tag (λ e. s.tags j h);
      header = s.header;
    }

    step_fits : (y : Point) → Leaves P b q (step_at y p b q ws)
    unfolding step_at
    step_fits idle = record { n = refl; w = refl; items = s; process = c; reply = accepted }
    step_fits ll10 = record { n = refl; w = refl; items = s; process = with_x_is; reply = accepted }
    step_fits ll2 = record { n = refl; w = refl; items = s; process = line_2 4 7 q.x; reply = accepted }
    step_fits ll4 = record { n = refl; w = refl; items = s; process = with_z_is q.x c.x r.x; reply = accepted }
    step_fits ll5 = record { n = refl; w = refl; items = items_5; process = c; reply = accepted }
    step_fits ll6 = record { n = refl; w = refl; items = s; process = with_y_is; reply = accepted }
    step_fits ll7 = record {
      n = refl;
      w = refl;
      items = either_words (saves b.header q) (word_put s (return_word b.n b.w p q.word) q.y.val c.y.val) s;
      process = line_7.process;
      reply = line_7.reply;
    }
    step_fits sc14 = record { n = refl; w = refl; items = s; process = line_14.process; reply = line_14.reply }
    step_fits sc17 = record {
      n = refl;
      w = refl;
      items = word_put s (announced_word b.w p q.word) _ (word_at (2 * b.n + 1 + p.0) (omega (arith, r.process)));
      process = line_17;
      reply = accepted;
    }
    step_fits sc19 = record {
      n = refl;
      w = refl;
      items = record { words = s.words; tags = s.tags; header = either_header (same_header b.header q.oldhdr) q.newhdr b.header c.newhdr s.header };
      process = line_19.process;
      reply = line_19.reply;
    }
    step_fits sc2 = record { n = refl; w = refl; items = s; process = line_2 24 27 q.newhdr; reply = accepted }
    step_fits sc4 = record { n = refl; w = refl; items = s; process = with_z_is q.newhdr c.newhdr r.newhdr; reply = accepted }
    step_fits sc5 = record { n = refl; w = refl; items = items_5; process = c; reply = accepted }
    step_fits sc6 = record { n = refl; w = refl; items = s; process = with_y_is; reply = accepted }
    step_fits sc7 = record { n = refl; w = refl; items = s; process = line_7_copy.process; reply = line_7_copy.reply }
    step_fits vl13 = record { n = refl; w = refl; items = s; process = c; reply = vl }

    pub obeyed_fits : (o : Order) (v : List ℕ) → ValueFits P v → Leaves P b q (obey o p v b q ws)
    unfolding obey step_at
    obeyed_fits StartLl v h = record { n = refl; w = refl; items = s; process = c; reply = accepted }
    obeyed_fits StartSc v h = record { n = refl; w = refl; items = words_put s (offer_word b.n b.w p 0) v h; process = c; reply = accepted }
    obeyed_fits StartVl v h = record { n = refl; w = refl; items = s; process = c; reply = accepted }
    obeyed_fits Step v h = step_fits (point_of q.line)

  -- a command
  module _ (m : Memory) (p : ℕ) (o : Order) (v : List ℕ) (s : MemoryFits P m) (h : ValueFits P v) where
    abbrev out : Moved × List ℕ
    out = obey o (record { 0 = p }) v m.bench (record_at m.records (record { 0 = p })) m.words

    module _ (z : refusal m p o v ≡ 0) where
      pub leaves : Leaves P m.bench (record_at m.records (record { 0 = p })) out
      leaves = let r = in_order m p o v z in obeyed_fits r s.items (s.records p r.process) o v h

      left_fits : MemoryFits P (obeyed m (record { 0 = p }) o v).1
      left_fits = let l = leaves in record {
        items = rw (l.n, l.w) l.items;
        records = λ i j. set_holds (ProcessFits P) no_process empty_fits m.records p i out.0.process l.process (λ e. s.records i (omega (arith, j, l.n)));
      }

    by_number : (k : ℕ) → refusal m p o v ≡ k → MemoryFits P (command m p o v).1
    unfolding command
    by_number zero e = simp (eq-eqb (refusal m p o v) 0 e) (left_fits e)
    by_number (suc k) e = simp (ne_eqb (refusal m p o v) 0 (λ z. omega (arith, e, z))) s

    -- refused or not, it leaves numbers that fit
    pub command_fits : MemoryFits P (command m p o v).1
    command_fits = by_number (refusal m p o v) refl
