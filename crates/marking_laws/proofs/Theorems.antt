-- CR 13, of whole text runs: what `swaps` prints is the trace of the run, each line with the mark that the two commands ask for.
use mathlib.Core.Path.{◌≡◌, refl, sym, ap, subst, ◌∙◌}
use mathlib.Core.List.{List, [], ◌∷◌, ◌++◌, append-nil, append_assoc}
use mathlib.Core.Bool.{Bool, true, false, cond}
use Prim.Native.Nat.{ℕ, zero, suc, ◌+◌, ◌-◌, ◌*◌, ◌≤◌, ◌<◌}
use native.Mathlib.Omega.{arith}
use lib.Dec.{eqb, ltb, leb}
use lib.ListN.{length, take, length-append}
use lib.Seq.{sets}
use borrow.Author.Tests.{leb-false, ltb-false, ltb-true, eqb-true, eq-eqb}
use Rattle.model.specs.declared.Reply.{Reply}
use Rattle.model.specs.Replies.{number_of}
use Rattle.model.specs.Machine.{Memory, Shaped}
use Rattle.model.specs.Command.{command}
use Rattle.model.specs.SetUp.{at_set_up, set_up_refusal, set_up}
use Rattle.setup.specs.SetUpByValue.{set_up_number_lem}
use Rattle.notation.specs.declared.Entry.{Entry}
use Rattle.notation.specs.declared.Entry.TheVariants.{StartLl, StartVl, StartSc, Step, Finish}
use Rattle.notation.specs.Stretches.{Small}
use Rattle.notation.specs.Grammar.{Said}
use Rattle.notation.specs.Readings.{Reading, right, wrong}
use Rattle.notation.specs.FirstLine.{read}
use Rattle.notation.proofs.Theorems.{read_is_right, wrong_has_fault}
use Rattle.listing.specs.Quoted.{quoted}
use Rattle.listing.specs.Lines.{end_line, refused_line}
use Rattle.listing.specs.Writing.{Room, Wrote}
use Rattle.listing.proofs.Lengths.{end_length, refused_length}
use Rattle.listing.proofs.WritingLaws.{kept, grows}
use Rattle.answers.specs.Shape.{largest}
use Rattle.answers.proofs.ChoiceLaws.{either}
use Rattle.commuting_laws.specs.OnTheBench.{Admitted}
use Rattle.text_runs.specs.TextRun as TR
use Rattle.text_model.specs.Reached.{Reached}
use Rattle.text_runs.specs.TextRun.{most_entries, room_needed, longest_text, process_of, order_of, value_of}
use Rattle.text_model.specs.TextRun.{Progress, stopped, line_of, trace_line, lines_of, counted, commanded, single, unanswered}
use Rattle.text_model.specs.TextRun.{steps, carry, carry_all, last_line, ended, begun, Ended, started, carried_out}
use Rattle.text_model.proofs.ReachedLaws.{reached_set_up, reached_command}
use Rattle.text_laws.proofs.AcceptedSteps.{unrefused}
use Rattle.text_entry.proofs.WordLaws.{Below}
use Rattle.text_entry.proofs.SingleLaws.{value_every}
use Rattle.text_machine.proofs.StartLaws.{number_small}
use Rattle.season_laws.proofs.CommandLines as C
use Rattle.season_laws.proofs.CommandLines.{Adds, nothing, answer}
use Rattle.season_laws.proofs.RunListing.{AllSmall, none, entry}
use Rattle.season_laws.proofs.TextSmall.{entries_small, initial_small}
use Rattle.season_laws.proofs.Theorems.{words_small, fits, why_small}
use Rattle.marking.specs.Reading.{no_line, line_in}
use Rattle.marking.specs.Marked.{mark_text, marked_from, marked}
use Rattle.marking.specs.Marks.{may_swap}
use Rattle.marking.proofs.MarkedLaws.{marked_none}
use Rattle.marking.proofs.TracedLines.{end_line_read, refused_line_read}
use Rattle.marking_laws.specs.MarkedRun.{command_of, line_at, Mark, swap, stay, Before, first, after, Printed, begins, line, written_by, MarkedRun}
use Rattle.marking_laws.specs.MarkedRun.{OnlyLast, initial_of, ready_for, carried_from, MarkedOutput, refused, ran, EveryTextIsMarked, MarkedFits}
use Rattle.marking_laws.proofs.LineEnds.{IsLine, line_marked, end_is_line, refused_is_line}
use Rattle.marking_laws.proofs.EntryLines.{line_said, EntryLine, entry_line_is, line_before, Found, mark_of}

-- a traced run in progress: what it has written so far, and how that is marked, whatever comes behind it
record Shown (n w : ℕ) (m₀ : Memory) (s : Progress) : Type 0 where
  traced : s.traced ≡ true
  room : s.written + 17 ≤ length s.listing
  before : Before
  trace : List ℕ
  out : List ℕ
  printed : Printed m₀ s.entries s.memory before trace out
  found : Found before s.memory
  bytes : take s.written s.listing ≡ trace
  marks : (rest : List ℕ) → marked (trace ++ rest) ≡ out ++ marked_from true (line_before before) rest
  reached : Reached s.memory
  same_n : s.memory.bench.n ≡ n
  same_w : s.memory.bench.w ≡ w
  small : Below (5 * n * w) s.memory.words
  entries : s.entries ≤ 60000
  stop : s.stop ≤ 15

stop_shown : {n w : ℕ} {m₀ : Memory} {s : Progress} (k : ℕ) → k ≤ 15 → Shown n w m₀ s → Shown n w m₀ (stopped k s)
stop_shown k h l = record {
  traced = l.traced;
  room = l.room;
  before = l.before;
  trace = l.trace;
  out = l.out;
  printed = l.printed;
  found = l.found;
  bytes = l.bytes;
  marks = l.marks;
  reached = l.reached;
  same_n = l.same_n;
  same_w = l.same_w;
  small = l.small;
  entries = l.entries;
  stop = h;
}

-- bytes written behind what a listing has
wrote_here : (l : List ℕ) (at : ℕ) (bs : List ℕ) → Wrote l at bs (sets l at bs) (at + length bs)
wrote_here l at bs = record { place = refl; list = refl }

-- an answer's line is short
adds_length : {n w : ℕ} {bs : List ℕ} → Adds n w bs → length bs ≤ 713
adds_length nothing = omega arith
adds_length (answer a f h) = h

-- one line more
module _ (trace out : List ℕ) (before : Before) (m : Memory) (e : Entry) (k : ℕ) (x : EntryLine k m e)
    (h : (rest : List ℕ) → marked (trace ++ rest) ≡ out ++ marked_from true (line_before before) rest) where
  abbrev l : List ℕ
  l = line_at k m e

  abbrev mark : List ℕ
  mark = mark_text (may_swap (line_before before) (line_said m e))

  marks_on : (rest : List ℕ) → marked ((trace ++ l) ++ rest) ≡ (out ++ (mark ++ l)) ++ marked_from true (line_said m e) rest
  marks_on rest =
      let tail = marked_from true (line_said m e) rest in
      ap marked (append_assoc trace l rest) ∙ h (l ++ rest)
      ∙ ap (λ (y : List ℕ). out ++ y) (line_marked x.is_line rest (line_before before) (line_said m e) (x.read_as rest))
      ∙ ap (λ (y : List ℕ). out ++ y) (sym (append_assoc mark l tail)) ∙ sym (append_assoc out (mark ++ l) tail)

module _ {n w : ℕ} {m₀ : Memory} {s : Progress} (e : Entry) (small : Small e) (l : Shown n w m₀ s) where
  abbrev outcome : Reply × Memory
  outcome = command s.memory (process_of e) (order_of e) (value_of s.memory.bench.w e)

  rows : 5 * n * w ≡ 5 * s.memory.bench.n * s.memory.bench.w
  rows = ap (λ (x : ℕ). 5 * x * w) (sym l.same_n) ∙ ap (λ (x : ℕ). 5 * s.memory.bench.n * x) (sym l.same_w)

  words_below : Below (5 * s.memory.bench.n * s.memory.bench.w) s.memory.words
  words_below = subst (λ (x : ℕ). Below x s.memory.words) rows l.small

  leaves : C.Left n w (process_of e) outcome
  leaves =
      let N : ℕ = s.memory.bench.n in
      let W : ℕ = s.memory.bench.w in
      let own = C.left s.memory (process_of e) (order_of e) (value_of W e) (value_every e W small) words_below in
      subst (λ (x : ℕ). C.Left x w (process_of e) outcome) l.same_n (subst (λ (x : ℕ). C.Left N x (process_of e) outcome) l.same_w own)

  module _ (more : s.entries < 60000) (room : s.written + 872 ≤ length s.listing) (z : number_of outcome.0 ≡ 0) where
    shown_line_lem : EntryLine (s.entries + 1) s.memory e
    shown_line_lem = entry_line_is l.reached words_below (s.entries + 1) (omega (arith, more)) e small z

    own : Admitted s.memory (command_of s.memory e)
    own = unrefused s.memory (process_of e) (order_of e) (value_of s.memory.bench.w e) z

    abbrev new : List ℕ
    new = line_at (s.entries + 1) s.memory e

    new_length : length new ≤ 841
    new_length =
        let t = trace_line (s.entries + 1) s.memory e outcome.0 in let a = line_of outcome.1 (process_of e) outcome.0 in
        omega (arith, length-append t a, shown_line_lem.short, adds_length (leaves.adds z))

    wrote : Wrote s.listing s.written new (sets s.listing s.written new) (s.written + length new)
    wrote = wrote_here s.listing s.written new

    counts : Shown n w m₀ (counted s outcome.1 new)
    counts = record {
      traced = l.traced;
      room = omega (arith, kept wrote, new_length);
      before = after s.memory e;
      trace = l.trace ++ new;
      out = l.out ++ (mark_text (may_swap (line_before l.before) (line_said s.memory e)) ++ new);
      printed = line l.printed e own (mark_of l.before s.memory e l.found own);
      found = record { reached = l.reached; admitted = own; is = refl };
      bytes = grows (record { fits = omega (arith, new_length) }) wrote ∙ ap (λ (x : List ℕ). x ++ new) l.bytes;
      marks = marks_on l.trace l.out l.before s.memory e (s.entries + 1) shown_line_lem l.marks;
      reached = reached_command l.reached (process_of e) (order_of e) (value_of s.memory.bench.w e);
      same_n = leaves.same_n;
      same_w = leaves.same_w;
      small = leaves.small;
      entries = omega (arith, more);
      stop = omega arith;
    }

    counted_shown : Shown n w m₀ (counted s outcome.1 (lines_of s e outcome))
    counted_shown =
        let answered = line_of outcome.1 (process_of e) outcome.0 in
        let same : lines_of s e outcome ≡ new = ap (λ (t : Bool). cond t (trace_line (s.entries + 1) s.memory e outcome.0) [] ++ answered) l.traced in
        subst (λ (x : List ℕ). Shown n w m₀ (counted s outcome.1 x)) (sym same) counts

  commanded_shown : s.entries < 60000 → s.written + 872 ≤ length s.listing → Shown n w m₀ (commanded e s)
  commanded_shown more room = either (Shown n w m₀) (eqb (number_of outcome.0) 0) _ _
      (λ z. counted_shown more room (eqb-true _ 0 z))
      (λ z. stop_shown (number_of outcome.0) leaves.number l)

  room_left : ltb (length s.listing - s.written) (room_needed s.traced) ≡ false → s.written + 872 ≤ length s.listing
  room_left b =
      let c : ltb (length s.listing - s.written) 872 ≡ false = subst (λ (t : Bool). ltb (length s.listing - s.written) (room_needed t) ≡ false) l.traced b in
      omega (arith, ltb-false (length s.listing - s.written) 872 c, l.room)

  single_shown : Shown n w m₀ (single e s)
  unfolding TR.single
  single_shown = either (Shown n w m₀) (eqb s.stop 0) _ _
      (λ _. either (Shown n w m₀) (leb most_entries s.entries) _ _ (λ _. stop_shown 12 (omega arith) l)
      (λ a. either (Shown n w m₀) (ltb (length s.listing - s.written) (room_needed s.traced)) _ _ (λ _. stop_shown 14 (omega arith) l)
      (λ b. commanded_shown (leb-false most_entries s.entries a) (room_left b))))
      (λ _. l)

steps_shown : {n w : ℕ} {m₀ : Memory} (left p : ℕ) {s : Progress} → p ≤ largest → Shown n w m₀ s → Shown n w m₀ (steps left p s)
unfolding TR.steps
steps_shown zero p h l = l
steps_shown {n} {w} {m₀} (suc left) p {s} h l =
    let k = single_shown (Step p) h l in either (Shown n w m₀) (unanswered p (single (Step p) s)) _ _ (λ _. steps_shown left p h k) (λ _. k)

carry_shown : {n w : ℕ} {m₀ : Memory} {s : Progress} (e : Entry) → Small e → Shown n w m₀ s → Shown n w m₀ (carry e s)
unfolding TR.carry
carry_shown (StartLl p) h l = single_shown (StartLl p) h l
carry_shown (StartVl p) h l = single_shown (StartVl p) h l
carry_shown (StartSc p k) h l = single_shown (StartSc p k) h l
carry_shown (Step p) h l = single_shown (Step p) h l
carry_shown {n} {w} {m₀} {s} (Finish p) h l = either (Shown n w m₀) (eqb s.stop 0) _ _ (λ _. steps_shown _ p h l) (λ _. l)

all_shown : {n w : ℕ} {m₀ : Memory} {s : Progress} (es : List Entry) → AllSmall es → Shown n w m₀ s → Shown n w m₀ (carry_all es s)
unfolding TR.carry_all
all_shown [] none l = l
all_shown {n = n} {w = w} {m₀ = m₀} {s = s} (e ∷ es) (entry h k) l = all_shown {n = n} {w = w} {m₀ = m₀} {s = carry e s} es k (carry_shown e h l)

-- the last line is no command's
record Closing (bs : List ℕ) : Type 0 where
  is_line : IsLine bs
  read_as : (rest : List ℕ) → line_in (bs ++ rest) ≡ no_line
  short : length bs ≤ 17

closing : (stop entries : ℕ) → stop ≤ 15 → entries ≤ 60000 → Closing (cond (eqb stop 0) (end_line entries) (refused_line stop entries))
closing stop entries h k = either Closing (eqb stop 0) _ _
    (λ _. record { is_line = end_is_line entries; read_as = end_line_read entries; short = omega (arith, end_length entries k) })
    (λ _. record { is_line = refused_is_line stop entries; read_as = refused_line_read stop entries; short = refused_length stop entries h k })

no_swap : (b : Before) → may_swap (line_before b) no_line ≡ false
no_swap first = refl
no_swap (after m e) = refl

module _ {bs : List ℕ} (c : Closing bs) (b : Before) where
  last_marked : marked_from true (line_before b) bs ≡ quoted "  " ++ bs
  last_marked =
      ap (marked_from true (line_before b)) (sym (append-nil bs))
      ∙ line_marked c.is_line [] (line_before b) no_line (c.read_as [])
      ∙ ap (λ (t : Bool). mark_text t ++ (bs ++ marked_from true no_line [])) (no_swap b)
      ∙ ap (λ (x : List ℕ). quoted "  " ++ (bs ++ x)) (marked_none no_line)
      ∙ ap (λ (x : List ℕ). quoted "  " ++ x) (append-nil bs)

-- a run of entries at its end
ended_marked : {n w : ℕ} {m₀ : Memory} {s : Progress} → Shown n w m₀ s → MarkedRun m₀ s
ended_marked {s = s} l =
    let last = closing s.stop s.entries l.stop l.entries in
    let wrote = wrote_here s.listing s.written (last_line s) in
    let r : Room s.listing s.written (last_line s) = record { fits = omega (arith, last.short, l.room) } in
    let written : written_by (ended s) ≡ l.trace ++ last_line s = grows r wrote ∙ ap (λ (x : List ℕ). x ++ last_line s) l.bytes in
    record {
      before = l.before;
      trace = l.trace;
      out = l.out;
      printed = l.printed;
      few = l.entries;
      written = written;
      marks = ap marked written ∙ l.marks (last_line s) ∙ ap (λ (x : List ℕ). l.out ++ x) (last_marked last l.before);
    }

-- a run that is refused before its first entry
only_last : (m : Memory) (listing : List ℕ) (k : ℕ) → k ≤ 15 → 872 ≤ length listing → OnlyLast m listing (ended (begun true m listing k))
only_last m listing k h room =
    let s = begun true m listing k in
    let last = closing k 0 h (omega arith) in
    let wrote = wrote_here listing 0 (last_line s) in
    let r : Room listing 0 (last_line s) = record { fits = omega (arith, last.short) } in
    record { number = k; is = refl; written = grows r wrote; marks = ap marked (grows r wrote) ∙ last_marked last first }

-- the first entry, after an accepted set-up
module _ (m : Memory) (shaped : Shaped m) (listing : List ℕ) (room : 872 ≤ length listing) (a : Said)
    (small : AllSmall a.entries) (initial : a.initial ≤ largest) where
  ready_is : (set_up m a.n a.w (initial_of a)).0 ≡ 0 → ready_for m a ≡ at_set_up m a.n a.w (initial_of a)
  unfolding set_up
  ready_is e = simp (eq-eqb (set_up_refusal m a.n a.w (initial_of a)) 0 e)

  words_ready : (set_up m a.n a.w (initial_of a)).0 ≡ 0 → Below (5 * a.n * a.w) (at_set_up m a.n a.w (initial_of a)).words
  unfolding set_up
  words_ready e = words_small m.words a.n a.w a.initial (fits m a.n a.w a.initial e) initial

  begun_shown : (set_up m a.n a.w (initial_of a)).0 ≡ 0 → Shown a.n a.w (ready_for m a) (begun true (ready_for m a) listing 0)
  begun_shown e = record {
    traced = refl;
    room = omega arith;
    before = first;
    trace = [];
    out = [];
    printed = begins;
    found = tt;
    bytes = refl;
    marks = λ rest. refl;
    reached = reached_set_up m shaped a.n a.w (initial_of a) e;
    same_n = ap (λ (x : Memory). x.bench.n) (ready_is e);
    same_w = ap (λ (x : Memory). x.bench.w) (ready_is e);
    small = subst (λ (x : Memory). Below (5 * a.n * a.w) x.words) (sym (ready_is e)) (words_ready e);
    entries = omega arith;
    stop = omega arith;
  }

  carried_marked : (set_up m a.n a.w (initial_of a)).0 ≡ 0 → MarkedRun (ready_for m a) (carried_from m listing a)
  carried_marked e = ended_marked (all_shown a.entries small (begun_shown e))

  refusal_small : (set_up m a.n a.w (initial_of a)).0 ≤ 15
  unfolding set_up
  refusal_small = omega (arith, number_small a.n a.w (length m.records) (length m.words) (length (initial_of a)), set_up_number_lem m a.n a.w (initial_of a))

  started_marked : (text : List ℕ) → read text ≡ right a → MarkedOutput m text listing (started true m listing a (set_up m a.n a.w (initial_of a)))
  started_marked text e =
      let k = (set_up m a.n a.w (initial_of a)).0 in
      either (MarkedOutput m text listing) (eqb k 0) _ _
      (λ z. let y = eqb-true k 0 z in ran a (read_is_right text a e) y (carried_marked y))
      (λ _. refused (only_last m listing k refusal_small room))

-- of every text
pub every_text_is_marked : EveryTextIsMarked
unfolding TR.run_with
every_text_is_marked m shaped text listing room =
    either (MarkedOutput m text listing) (ltb (length listing) (room_needed true)) _ _ (λ e. absurd (omega (arith, room, ltb-true (length listing) 872 e)))
    (λ _. either (MarkedOutput m text listing) (ltb longest_text (length text)) _ _ (λ _. refused (only_last m listing 12 (omega arith) room))
    (λ _. by (read text) refl))
  where
    by : (r : Reading) → read text ≡ r → MarkedOutput m text listing (carried_out true m listing r)
    by (right a) e =
        let t = read_is_right text a e in
        let small = subst (λ (x : Said). AllSmall x.entries) t.saying (entries_small t.tree) in
        let initial = subst (λ (x : Said). x.initial ≤ largest) t.saying (initial_small t.tree) in
        started_marked m shaped listing room a small initial text e
    by (wrong k left) e = refused (only_last m listing k (why_small (wrong_has_fault text k left e).why) room)

-- two columns before each line
mark_two : {P Q : Type 0} {b : List ℕ} → Mark P Q b → length b ≡ 2
mark_two (swap p q) = refl
mark_two (stay n) = refl

printed_length : {m₀ : Memory} {k : ℕ} {m : Memory} {before : Before} {trace out : List ℕ}
    → Printed m₀ k m before trace out → length out ≡ length trace + 2 * k
printed_length begins = refl
printed_length (line {k} {m} {trace = trace} {out = out} p e a {mark} x) =
    let l = line_at (k + 1) m e in
    omega (arith, printed_length p, mark_two x, length-append out (mark ++ l), length-append mark l, length-append trace l)

output_fits : {m : Memory} {text listing : List ℕ} {r : Ended} → MarkedOutput m text listing r
    → length (marked (written_by r)) ≤ length (written_by r) + 120002
output_fits (refused o) = omega (arith, ap length o.marks, ap length o.written)
output_fits {m} {text} {listing} (ran a e y run) =
    let z = last_line (carried_from m listing a) in
    let both = length-append run.out (quoted "  " ++ z) in let all = length-append run.trace z in
    omega (arith, ap length run.marks, ap length run.written, both, all, printed_length run.printed, run.few)

pub marked_fits : MarkedFits
marked_fits m shaped text listing room = output_fits (every_text_is_marked m shaped text listing room)
