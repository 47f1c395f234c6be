-- The theorems about the trace of Moir's bench: the access shown for a step is what `moir_model`'s step does, the step
-- does nothing else to a shared item, its process gets what is shown, and the line is its own;
-- a start does nothing to a shared item.
use mathlib.Core.Path.{◌≡◌, refl, sym, ap, ap₂, subst}
use mathlib.Core.Logic.{◌≢◌}
use mathlib.Core.List.{List}
use mathlib.Core.Bool.{Bool, true, false, ◌&&◌, cond}
use Prim.Native.Nat.{ℕ, ◌+◌, ◌*◌, ◌≤◌, ◌<◌}
use native.Mathlib.Omega.{arith}
use lib.Dec.{eqb, ltb}
use lib.ListN.{length, get_or, set}
use borrow.Author.Tests.{eqb-true, eq-eqb}
use Rattle.laws.proofs.AndLaws.{left, right}
use Rattle.laws.proofs.AllLaws.{and_both}
use Rattle.laws.proofs.Updates.{by_test, contra}
use Rattle.llsc.specs.declared.ProcessNumber.{ProcessNumber}
use Rattle.llsc.specs.declared.Order.{Order}
use Rattle.llsc.specs.declared.Order.TheVariants.{StartLl, StartSc, StartVl, Step}
use Rattle.moir_model.specs.declared.Header.{Header}
use Rattle.moir_model.specs.declared.Segment.{Segment}
use Rattle.moir_model.specs.declared.Bench.{Bench}
use Rattle.moir_model.specs.declared.Process.{Process}
use Rattle.moir_model.specs.Points.{Point, line_number, idle, ll10, ll2, ll4, ll5, ll6, ll7, sc14, sc17, sc19, sc2, sc4, sc5, sc6, sc7, vl13}
use Rattle.moir_model.specs.declared.LineStep.{LineStep}
use Rattle.moir_model.specs.declared.Reply.TheVariants.{ScAnswered}
use Rattle.moir_model.specs.Tags.{previous_tag}
use Rattle.moir_model.specs.Records.{to, rest}
use Rattle.moir_model.specs.Words.{announced_word, return_word, offer_word, segment_at, put_header, put_tag, put_value}
use Rattle.moir_model.specs.Lines.{gone_on, same_header, same_segment, saves, do_line2, do_line7, do_line7_copy, do_line14, do_line19}
use Rattle.moir_model.specs.Machine.{step_at, obey}
use Rattle.moir_access.specs.declared.Item.{Item}
use Rattle.moir_access.specs.declared.Item.TheVariants.{Hdr, Data, Announced}
use Rattle.moir_access.specs.declared.Act.TheVariants.{Read, Write, Cas}
use Rattle.moir_access.specs.declared.Content.{Content}
use Rattle.moir_access.specs.declared.Content.TheVariants.{Tagged, Word}
use Rattle.moir_access.specs.declared.Access.{Access}
use Rattle.moir_access.specs.Items.{header_content, segment_content, word_content, item_at, InBench}
use Rattle.moir_access.specs.Accesses.{header_read, access_of}
use Rattle.moir_access.specs.Truth.{TellsTruth, Untouched, cas_reply, first_of, Gets, figure_line, Stepped}
use Rattle.moir_access.proofs.PlaceLaws.{own_put, area_put, word_there, word_elsewhere, segment_there, segment_elsewhere}

-- two pairs of numbers are compared one number after the other
pair_same : {t v t' v' : ℕ} → eqb t t' && eqb v v' ≡ true
    → Tagged t v ≡ Tagged t' v'
pair_same {t} {v} {t'} {v'} e =
    let first = eqb-true t t' (left (eqb t t') (eqb v v') e) in let second = eqb-true v v' (right (eqb t t') (eqb v v') e) in
    ap₂ Tagged first second

abbrev second_of : Content → ℕ
second_of (Tagged tag with) = with
second_of (Word word) = word

pair_differs : {t v t' v' : ℕ} → eqb t t' && eqb v v' ≡ false
    → Tagged t v ≢ Tagged t' v'
pair_differs {t} {v} {t'} {v'} e z =
    contra (and_both (eq-eqb t t' (ap first_of z)) (eq-eqb v v' (ap second_of z))) e

-- a read leaves every item as it was
read_tells : (line : ℕ) (i : Item) (b : Bench) (ws : List ℕ) → InBench b i
    → TellsTruth (record { line = line; item = i; act = Read (item_at i b ws) }) b ws b ws
read_tells line i b ws there = record { there = there; item = (refl, refl); others = λ j inside ne. refl }

-- the header is put
header_elsewhere : (b : Bench) (h : Header) (ws : List ℕ) (i : Item) → InBench b i → i ≢ Hdr
    → item_at i (put_header b h) ws ≡ item_at i b ws
header_elsewhere b h ws Hdr there ne = absurd (ne refl)
header_elsewhere b h ws (Data k) there ne = refl
header_elsewhere b h ws (Announced q k) there ne = refl

module _ {b : Bench} {q : Process} {p : ProcessNumber} {ws : List ℕ} (s : Stepped b q p ws) where
  k_in : q.word < b.w
  k_in = s.ready.standing.word

  tags_in : b.w ≤ length b.tags
  tags_in = omega (arith, s.tags, s.ready.standing.w_most)

  -- line 7 in a WLL, with line 8, which writes to the own return area
  saved : (t : Bool)
      → TellsTruth (header_read 7 b.header) b ws b (cond t (set ws (return_word b.n b.w p q.word) q.y.val) ws)
  saved true = record {
    there = tt;
    item = (refl, refl);
    others = λ i inside ne. own_put b ws (b.n + 1 + p.0) q.word q.y.val k_in (omega arith) i inside;
  }
  saved false = read_tells 7 Hdr b ws tt

  -- line 5, by whether it is done
  abbrev g : Segment
  g = segment_at b ws q.word

  segment_cas_is : (t : Bool) → same_segment g q.y ≡ t
      → TellsTruth (record { line = 5; item = Data q.word; act = Cas (segment_content q.y) (segment_content q.z) t })
      b ws (put_tag b q.word (cond t q.z g).tag) (put_value b ws q.word (cond t q.z g).val)
  segment_cas_is true e = record {
    there = k_in;
    item = (pair_same e, segment_there b ws q.word q.z.tag q.z.val k_in tags_in s.ready.standing.words);
    others = segment_elsewhere b ws q.word q.z.tag q.z.val k_in;
  }
  segment_cas_is false e = record {
    there = k_in;
    item = (pair_differs e, segment_there b ws q.word g.tag g.val k_in tags_in s.ready.standing.words);
    others = segment_elsewhere b ws q.word g.tag g.val k_in;
  }

  -- line 19, likewise
  header_cas_is : (t : Bool) → same_header b.header q.oldhdr ≡ t
      → TellsTruth (record { line = 19; item = Hdr; act = Cas (header_content q.oldhdr) (header_content q.newhdr) t })
      b ws (put_header b (cond t q.newhdr b.header)) ws
  header_cas_is true e = record { there = tt; item = (pair_same e, refl); others = header_elsewhere b q.newhdr ws }
  header_cas_is false e = record { there = tt; item = (pair_differs e, refl); others = header_elsewhere b b.header ws }

  -- lines 4 and 17
  x_in : InBench b (Announced q.x.pid q.word)
  x_in = (s.ready.x_pid_is, k_in)

  new_in : InBench b (Announced q.newhdr.pid q.word)
  new_in = (s.ready.new_pid_is, k_in)

  word_written : (v : ℕ)
      → TellsTruth (record { line = 17; item = Announced p q.word; act = Write (word_content v) })
      b ws b (set ws (announced_word b.w p q.word) v)
  word_written v = record {
    there = (s.ready.process, k_in);
    item = word_there b ws p q.word v s.ready.process k_in s.ready.standing.words;
    others = word_elsewhere b ws p q.word v s.ready.process k_in;
  }

  -- the access shown at the point y is one that is true
  shown_as : (y : Point) {a : Access} {b' : Bench} {ws' : List ℕ} → TellsTruth a b ws b' ws' → access_of y p b q ws ≡ a
      → TellsTruth (access_of y p b q ws) b ws b' ws'
  shown_as y {b' = b'} {ws' = ws'} t e = subst (λ (x : Access). TellsTruth x b ws b' ws') (sym e) t

  -- what a trace says of a step of p is true, at every point but idle, where no step is made
  pub trace_is_true : (y : Point) → y ≢ idle
      → TellsTruth (access_of y p b q ws) b ws (step_at y p b q ws).0.bench (step_at y p b q ws).1
  unfolding access_of step_at
  trace_is_true idle ne = absurd (ne refl)
  trace_is_true ll10 ne = shown_as ll10 (read_tells 10 Hdr b ws tt) refl
  trace_is_true ll2 ne = shown_as ll2 (read_tells 2 (Data q.word) b ws k_in) refl
  trace_is_true ll4 ne = shown_as ll4 (read_tells 4 (Announced q.x.pid q.word) b ws x_in) refl
  trace_is_true ll5 ne = shown_as ll5 (segment_cas_is (same_segment g q.y) refl) refl
  trace_is_true ll6 ne = shown_as ll6 (read_tells 6 (Data q.word) b ws k_in) refl
  trace_is_true ll7 ne = shown_as ll7 (saved (saves b.header q)) refl
  trace_is_true sc14 ne = shown_as sc14 (read_tells 14 Hdr b ws tt) refl
  trace_is_true sc17 ne = shown_as sc17 (word_written (get_or ws (offer_word b.n b.w p q.word) 0)) refl
  trace_is_true sc19 ne = shown_as sc19 (header_cas_is (same_header b.header q.oldhdr) refl) refl
  trace_is_true sc2 ne = shown_as sc2 (read_tells 2 (Data q.word) b ws k_in) refl
  trace_is_true sc4 ne = shown_as sc4 (read_tells 4 (Announced q.newhdr.pid q.word) b ws new_in) refl
  trace_is_true sc5 ne = shown_as sc5 (segment_cas_is (same_segment g q.y) refl) refl
  trace_is_true sc6 ne = shown_as sc6 (read_tells 6 (Data q.word) b ws k_in) refl
  trace_is_true sc7 ne = shown_as sc7 (read_tells 7 Hdr b ws tt) refl
  trace_is_true vl13 ne = shown_as vl13 (read_tells 13 Hdr b ws tt) refl

-- lines 2, 7, 14 and 19 go on by what they read; what they set is the same either way
y_set : (k j : ℕ) (hdr : Header) (g : Segment) (q : Process) → segment_content (do_line2 k j hdr g q).y ≡ segment_content g
y_set k j hdr g q =
    by_test (λ (r : Process). segment_content r.y ≡ segment_content g) (eqb g.tag (previous_tag hdr.tag)) (λ e. refl) (λ e. refl)

module _ (h : Header) (q : Process) where
  abbrev HSet : LineStep → Type 0
  HSet s = header_content s.process.h ≡ header_content h

  h_set : (w : ℕ) → HSet (do_line7 w h q)
  h_set w = by_test HSet (saves h q) (λ e. by_test HSet (ltb (q.word + 1) w) (λ f. refl) (λ f. refl)) (λ e. refl)

  h_set_copy : (w : ℕ) → HSet (do_line7_copy w h q)
  h_set_copy w =
      by_test HSet (same_header h q.newhdr) (λ e. by_test HSet (ltb (q.word + 1) w) (λ f. refl) (λ f. refl)) (λ e. refl)

  old_set : header_content (do_line14 h q).process.oldhdr ≡ header_content h
  old_set =
      by_test (λ (s : LineStep). header_content s.process.oldhdr ≡ header_content h) (eqb h.tag q.keep) (λ e. refl) (λ e. refl)

  cas_told : (do_line19 h q).reply ≡ cas_reply (Cas (header_content q.oldhdr) (header_content q.newhdr) (same_header h q.oldhdr)) (q.count + 1)
  cas_told = by (same_header h q.oldhdr)
    where
      by : (t : Bool)
          → (cond t (gone_on (to sc2 q)) (record { process = rest q; reply = ScAnswered false (q.count + 1) })).reply
          ≡ cas_reply (Cas (header_content q.oldhdr) (header_content q.newhdr) t) (q.count + 1)
      by true = refl
      by false = refl

-- what is shown as read is what the process gets, and the truth of line 19's CAS is what it goes by
pub process_gets : (y : Point) (p : ProcessNumber) (b : Bench) (q : Process) (ws : List ℕ)
    → Gets y (access_of y p b q ws) q (step_at y p b q ws).0
unfolding access_of step_at
process_gets idle p b q ws = tt
process_gets ll10 p b q ws = (refl, refl)
process_gets ll2 p b q ws = y_set (line_number ll4) (line_number ll7) q.x (segment_at b ws q.word) q
process_gets ll4 p b q ws = refl
process_gets ll5 p b q ws = tt
process_gets ll6 p b q ws = refl
process_gets ll7 p b q ws = h_set b.header q b.w
process_gets sc14 p b q ws = old_set b.header q
process_gets sc17 p b q ws = tt
process_gets sc19 p b q ws = cas_told b.header q
process_gets sc2 p b q ws = y_set (line_number sc4) (line_number sc7) q.newhdr (segment_at b ws q.word) q
process_gets sc4 p b q ws = refl
process_gets sc5 p b q ws = tt
process_gets sc6 p b q ws = refl
process_gets sc7 p b q ws = h_set_copy b.header q b.w
process_gets vl13 p b q ws = refl

-- the line shown is that of Figure 6
pub line_shown : (y : Point) (p : ProcessNumber) (b : Bench) (q : Process) (ws : List ℕ) → (access_of y p b q ws).line ≡ figure_line y
unfolding access_of
line_shown idle p b q ws = refl
line_shown ll10 p b q ws = refl
line_shown ll2 p b q ws = refl
line_shown ll4 p b q ws = refl
line_shown ll5 p b q ws = refl
line_shown ll6 p b q ws = refl
line_shown ll7 p b q ws = refl
line_shown sc14 p b q ws = refl
line_shown sc17 p b q ws = refl
line_shown sc19 p b q ws = refl
line_shown sc2 p b q ws = refl
line_shown sc4 p b q ws = refl
line_shown sc5 p b q ws = refl
line_shown sc6 p b q ws = refl
line_shown sc7 p b q ws = refl
line_shown vl13 p b q ws = refl

-- a start touches no shared item: at most the own offer area is written
pub start_tells : (o : Order) → o ≢ Step → (p : ProcessNumber) (v : List ℕ) (b : Bench) (q : Process) (ws : List ℕ)
    → Untouched b ws (obey o p v b q ws).0.bench (obey o p v b q ws).1
unfolding obey
start_tells StartLl ne p v b q ws i there = refl
start_tells StartSc ne p v b q ws i there = area_put b ws (2 * b.n + 1 + p.0) v (omega arith) i there
start_tells StartVl ne p v b q ws i there = refl
start_tells Step ne p v b q ws i there = absurd (ne refl)
