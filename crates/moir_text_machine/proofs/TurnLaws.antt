-- One entry: what the code does is `single`, and a sound run stays sound.
use mathlib.Core.Path.{◌≡◌, refl, sym, ap, subst, ◌∙◌}
use mathlib.Core.Bool.{Bool, true, false, cond}
use mathlib.Core.List.{List, [], ◌∷◌, ◌++◌}
use Prim.Native.Nat.{ℕ, ◌+◌, ◌-◌, ◌≤◌, ◌<◌}
use native.Mathlib.Omega.{arith}
use lib.Dec.{eqb, ltb, leb}
use lib.ListN.{length, set, length-set}
use lib.Seq.{sets, length-sets}
use borrow.Author.Tests.{eq-eqb, ne_eqb, eqb-true, eqb-false, le-leb, lt-leb, lt-ltb, le-ltb, leb-false, leb-true, ltb-false, ltb-true}
use Rattle.llsc.specs.declared.ProcessNumber.{ProcessNumber}
use Rattle.llsc.specs.declared.Order.{Order}
use Rattle.llsc.specs.declared.Order.TheVariants.{StartLl, StartSc, StartVl, Step}
use Rattle.llsc.specs.Rows.{Row, first, every}
use Rattle.std.specs.Prelude.{Option, Result, Ok, Err}
use Rattle.llsc.specs.declared.refusals.Refusal.{Refusal}
use Rattle.llsc.specs.declared.refusals.Refusal.TheVariants.{TooMuch, NoRoom}
use Rattle.llsc.specs.Refusals.{number_told}
use Rattle.laws.proofs.AndLaws.{left, right}
use Rattle.notation.specs.declared.Entry.{Entry}
use Rattle.notation.specs.Stretches as S
use Rattle.listing.specs.declared.Writer.{Writer}
use Rattle.listing.specs.Writing.{Wrote, Fits, Writes}
use Rattle.listing.proofs.WritingLaws.{wrote, writes_then, fits_first, fits_then}
use Rattle.text_runs.specs.TextRun.{most_entries, room_needed, process_of, order_of, value_of}
use Rattle.text_runs.specs.TextRun as T
use Rattle.text_runs.specs.Parts as P
use Rattle.text_runs.specs.Parts.{before_entry}
use Rattle.text_runs.specs.TrueTraces.{outcome}
use Rattle.text_runs.proofs.SingleEntries.{made_commanded}
use Rattle.text_runs.proofs.KeptLaws.{either}
use Rattle.moir_model.specs.declared.Bench.{Bench}
use Rattle.moir_model.specs.declared.Process.{Process}
use Rattle.moir_model.specs.declared.Moved.{Moved}
use Rattle.moir_model.specs.declared.Reply.{Reply}
use Rattle.moir_model.specs.declared.Reply.TheVariants.{Refused, Accepted, WllAnswered, WllNamed, ScAnswered, VlAnswered}
use Rattle.moir_model.specs.Points.{Point, point_of, idle, ll10, ll2, ll4, ll5, ll6, ll7, sc14, sc17, sc19, sc2, sc4, sc5, sc6, sc7, vl13}
use Rattle.moir_model.specs.Words.{announced_word, return_word, offer_word, segment_word}
use Rattle.moir_model.specs.Lines.{saves}
use Rattle.moir_model.specs.Records.{record_at}
use Rattle.moir_model.specs.Machine.{Memory, step_at, obey}
use Rattle.moir_model.specs.Refusals.{in_range, command_rows}
use Rattle.moir_model.specs.Command.{refusal, command, obeyed}
use Rattle.moir_model.specs.Replies.{number_of}
use Rattle.moir_rows.specs.CommandRows.{decision_number}
use Rattle.moir_steps.specs.Ranges.{Ready, Obeyable}
use Rattle.moir_machine.proofs.ObeyLaws.{obeyable}
use Rattle.moir_access.specs.declared.Access.{Access}
use Rattle.moir_access.specs.TraceParts.{access_text}
use Rattle.moir_text_model.specs.TextRun.{figure6, Progress, line_of, answers}
use Rattle.moir_text_model.proofs.AcceptedRows.{unrefused}
use Rattle.moir_text_model.proofs.NumbersLeft.{Plain, accepted, wll, named, sc, vl}
use Rattle.moir_text_model.proofs.SmallWords.{Small, SmallValue, leaves, small_command}
use Rattle.moir_text_model.proofs.LineLengths.{value_small, lines_fit}
use Rattle.moir_text_machine.specs.RunState.{Sound, Free}
use Rattle.moir_text_machine.specs.Turned.{words_brought, Listable, answer_line, access_seen, shown_line}
use Rattle.moir_text_machine.proofs.EntryLaws.{value_count}
use Rattle.std.proofs.lemmas.Result.{err_from_is_err_and}
use Rattle.llsc.proofs.RefusalNumbers.{number_some}

-- the number that the code finds is the command's
pub number_same : (m : Memory) (p : ℕ) (o : Order) (v : List ℕ) {k : ℕ} → length m.records ≡ 16 → k ≡ length v
    → decision_number m.bench m.records 16 p o k (length m.words) ≡ refusal m p o v
unfolding decision_number refusal in_range
number_same m p o v l e = rw (e, l)

-- every row has a number of at most 9
row_small : (t : Bool) (k rest : ℕ) → k ≤ 9 → rest ≤ 9 → cond t k rest ≤ 9
row_small true k rest p q = p
row_small false k rest p q = q

pub first_small : (rows : List Row) → every (λ r. leb r.number 9) rows ≡ true → first rows ≤ 9
first_small [] e = omega arith
first_small (r ∷ rows) e =
    let rest = every (λ (s : Row). leb s.number 9) rows in
    row_small r.holds r.number (first rows) (leb-true r.number 9 (left (leb r.number 9) rest e)) (first_small rows (right (leb r.number 9) rest e))

refusal_small : (m : Memory) (p : ℕ) (o : Order) (v : List ℕ) → refusal m p o v ≤ 9
unfolding refusal
refusal_small m p o v = first_small (command_rows m p o v) refl

-- what a command comes to, by its number
module _ (m : Memory) (p : ℕ) (o : Order) (v : List ℕ) where
  pub obeys : refusal m p o v ≡ 0 → command m p o v ≡ obeyed m (record { 0 = p }) o v
  unfolding command
  obeys z = simp (eq-eqb (refusal m p o v) 0 z)

  pub refuses : (refusal m p o v ≡ 0 → ⊥) → number_of (command m p o v).0 ≡ refusal m p o v
  unfolding command
  refuses n = simp (ne_eqb (refusal m p o v) 0 n)

  same_records : length (command m p o v).1.records ≡ length m.records
  unfolding command
  same_records =
      either (λ (x : Reply × Memory). length x.1.records ≡ length m.records) (eqb (refusal m p o v) 0)
      (λ q. length-set m.records p (obey o (record { 0 = p }) v m.bench (record_at m.records (record { 0 = p })) m.words).0.process)
      (λ q. refl)

plain_none : {k : ℕ} {q : ProcessNumber} {r : Reply} → Plain k q r → number_of r ≡ 0
plain_none accepted = refl
plain_none wll = refl
plain_none named = refl
plain_none sc = refl
plain_none vl = refl

-- an entry on a run that goes on
module _ (e : Entry) {s : Progress} (sound : Sound s) (z : s.stop ≡ 0) (se : S.Small e) where
  abbrev small : Small s.memory
  small = sound.going z

  abbrev m : Memory
  m = s.memory

  abbrev p : ℕ
  p = process_of e

  abbrev v : List ℕ
  v = value_of m.bench.w e

  abbrev out : Reply × Memory
  out = outcome figure6 e s

  value_few : SmallValue v
  value_few = value_small e m.bench.w se

  accepts : refusal m p (order_of e) v ≡ 0 → number_of out.0 ≡ 0
  accepts z = ap (λ (x : Reply × Memory). number_of x.0) (obeys m p (order_of e) v z) ∙ plain_none (leaves m p (order_of e) v small value_few z).reply

  -- a refusal has a small number
  refused_few : (number_of out.0 ≡ 0 → ⊥) → number_of out.0 ≤ 15
  refused_few n = let r = refuses m p (order_of e) v (λ z. n (accepts z)) in omega (arith, r, refusal_small m p (order_of e) v)

  -- a run that stops stays sound
  stops : (k : ℕ) → (k ≡ 0 → ⊥) → k ≤ 15 → Sound (T.stopped figure6 k s)
  stops k n l = record { sixteen = sound.sixteen; entries = sound.entries; stop = l; room = sound.room; going = λ z. absurd (n z) }

  -- so does one that goes on
  goes : s.entries < most_entries → s.written + room_needed s.traced ≤ length s.listing → number_of out.0 ≡ 0
      → Sound (T.counted figure6 s out.1 (T.lines_of figure6 s e out))
  goes l r a = let lines = T.lines_of figure6 s e out in record {
    sixteen = same_records m p (order_of e) v ∙ sound.sixteen;
    entries = omega (arith, l);
    stop = omega arith;
    room = omega (arith, lines_fit s e small se a l r, length-sets s.listing s.written lines);
    going = λ y. small_command m p (order_of e) v small value_few;
  }

  pub sound_single : Sound (T.single figure6 e s)
  unfolding T.single
  sound_single =
      either Sound (eqb s.stop 0) (λ q.
      either Sound (leb most_entries s.entries) (λ l. stops 12 (λ z. omega (arith, z)) (omega arith)) (λ l.
      either Sound (ltb (length s.listing - s.written) (room_needed s.traced)) (λ r. stops 14 (λ z. omega (arith, z)) (omega arith)) (λ r.
      either Sound (eqb (number_of out.0) 0)
      (λ a. goes (leb-false most_entries s.entries l) (room (ltb-false (length s.listing - s.written) (room_needed s.traced) r)) (eqb-true (number_of out.0) 0 a))
      (λ a. let n = eqb-false (number_of out.0) 0 a in stops (number_of out.0) n (refused_few n)))))
      (λ q. sound)
    where
      room : room_needed s.traced ≤ length s.listing - s.written → s.written + room_needed s.traced ≤ length s.listing
      room r = omega (arith, r, sound.room)

  -- "before each entry 12, then 14", then the rows
  turn_12 : most_entries ≤ s.entries → T.stopped figure6 12 s ≡ T.single figure6 e s
  unfolding T.single
  turn_12 l = simp (eq-eqb s.stop 0 z, le-leb most_entries s.entries l)

  module _ (l : s.entries < most_entries) where
    turn_14 : length s.listing - s.written < room_needed s.traced → T.stopped figure6 14 s ≡ T.single figure6 e s
    unfolding T.single
    turn_14 r = simp (eq-eqb s.stop 0 z, lt-leb most_entries s.entries l, lt-ltb (length s.listing - s.written) (room_needed s.traced) r)

    module _ (r : room_needed s.traced ≤ length s.listing - s.written) where
      pub turn_made : T.commanded figure6 e s ≡ T.single figure6 e s
      unfolding T.single
      turn_made = simp (eq-eqb s.stop 0 z, lt-leb most_entries s.entries l, le-ltb (length s.listing - s.written) (room_needed s.traced) r)

      pub turn_refused_is : {k : ℕ} → k ≡ refusal m p (order_of e) v → (k ≡ 0 → ⊥) → T.stopped figure6 k s ≡ T.single figure6 e s
      turn_refused_is {k} q n =
          let is : number_of out.0 ≡ k = refuses m p (order_of e) v (λ y. n (q ∙ y)) ∙ sym q in
          let stop : T.commanded figure6 e s ≡ T.stopped figure6 k s = simp (is, ne_eqb k 0 n) in
          sym stop ∙ turn_made

      pub turn_free : refusal m p (order_of e) v ≡ 0 → Free e s
      turn_free q = record {
        sixteen = sound.sixteen;
        more = l;
        accepted = accepts q;
        fits = omega (arith, lines_fit s e small se (accepts q) l (omega (arith, r, sound.room)));
      }

  -- what is found before an entry
  module _ {k : ℕ} (q : k ≡ number_told (before_entry s.entries (length s.listing - s.written) (room_needed s.traced))) where
    abbrev full : Bool
    full = leb most_entries s.entries

    abbrev narrow : Bool
    narrow = ltb (length s.listing - s.written) (room_needed s.traced)

    -- it stops with that number
    pub turn_before : (k ≡ 0 → ⊥) → T.stopped figure6 k s ≡ T.single figure6 e s
    turn_before n = by full narrow refl refl q
      where
        by : (t u : Bool) → full ≡ t → narrow ≡ u
            → k ≡ number_told (cond {A = Result (Unit {0}) Refusal} t (Err TooMuch) (cond u (Err NoRoom) (Ok tt)))
            → T.stopped figure6 k s ≡ T.single figure6 e s
        by true u l r x = rw x (turn_12 (leb-true most_entries s.entries l))
        by false true l r x = rw x (turn_14 (leb-false most_entries s.entries l) (ltb-true (length s.listing - s.written) (room_needed s.traced) r))
        by false false l r x = absurd (n x)

    -- or nothing refuses it
    pub turn_through : k ≡ 0 → (s.entries < most_entries) × (room_needed s.traced ≤ length s.listing - s.written)
    turn_through n = by full narrow refl refl q
      where
        by : (t u : Bool) → full ≡ t → narrow ≡ u
            → k ≡ number_told (cond {A = Result (Unit {0}) Refusal} t (Err TooMuch) (cond u (Err NoRoom) (Ok tt)))
            → (s.entries < most_entries) × (room_needed s.traced ≤ length s.listing - s.written)
        by true u l r x = absurd (omega (arith, n, x))
        by false true l r x = absurd (omega (arith, n, x))
        by false false l r x = (leb-false most_entries s.entries l, ltb-false (length s.listing - s.written) (room_needed s.traced) r)

  -- and so where the code finds nothing, with the room that it reckons
  pub let_through : {room : ℕ} → Ok tt ≡ before_entry s.entries (length s.listing - s.written) room → room ≡ room_needed s.traced
      → (s.entries < most_entries) × (room_needed s.traced ≤ length s.listing - s.written)
  let_through found is =
      turn_through (ap number_told found ∙ ap (λ (n : ℕ). number_told (before_entry s.entries (length s.listing - s.written) n)) is) refl

-- the number that the code finds, by what it finds of the entry
pub number_as : (e : Entry) {s : Progress} → Sound s → {k p count : ℕ} {o : Order} → k ≡ decision_number s.memory.bench s.memory.records 16 p o count (length s.memory.words)
    → p ≡ process_of e → o ≡ order_of e → count ≡ words_brought e s.memory.bench.w → k ≡ refusal s.memory (process_of e) (order_of e) (value_of s.memory.bench.w e)
number_as e {s} x {p = p} {count = count} {o = o} q ep eo ec =
    let w = s.memory.bench.w in
    let c : count ≡ length (value_of w e) = ec ∙ value_count e w in
    q ∙ rw (ep, eo) (number_same s.memory (process_of e) (order_of e) (value_of w e) x.sixteen c)

-- what a step leaves of N, W and the number of words
pub record Kept (b : Bench) (ws : List ℕ) (x : Moved × List ℕ) : Type 0 where
  pub n : x.0.bench.n ≡ b.n
  pub w : x.0.bench.w ≡ b.w
  pub words : length x.1 ≡ length ws

module _ (p : ProcessNumber) (b : Bench) (q : Process) (ws : List ℕ) where
  step_kept : (y : Point) → Kept b ws (step_at y p b q ws)
  unfolding step_at
  step_kept idle = record { n = refl; w = refl; words = refl }
  step_kept ll10 = record { n = refl; w = refl; words = refl }
  step_kept ll2 = record { n = refl; w = refl; words = refl }
  step_kept ll4 = record { n = refl; w = refl; words = refl }
  step_kept ll5 = record { n = refl; w = refl; words = length-set ws (segment_word b.n b.w q.word) _ }
  step_kept ll6 = record { n = refl; w = refl; words = refl }
  step_kept ll7 = record {
    n = refl;
    w = refl;
    words = either (λ (l : List ℕ). length l ≡ length ws) (saves b.header q) (λ t. length-set ws (return_word b.n b.w p q.word) q.y.val) (λ t. refl);
  }
  step_kept sc14 = record { n = refl; w = refl; words = refl }
  step_kept sc17 = record { n = refl; w = refl; words = length-set ws (announced_word b.w p q.word) _ }
  step_kept sc19 = record { n = refl; w = refl; words = refl }
  step_kept sc2 = record { n = refl; w = refl; words = refl }
  step_kept sc4 = record { n = refl; w = refl; words = refl }
  step_kept sc5 = record { n = refl; w = refl; words = length-set ws (segment_word b.n b.w q.word) _ }
  step_kept sc6 = record { n = refl; w = refl; words = refl }
  step_kept sc7 = record { n = refl; w = refl; words = refl }
  step_kept vl13 = record { n = refl; w = refl; words = refl }

  obey_kept : (o : Order) (v : List ℕ) → Kept b ws (obey o p v b q ws)
  unfolding obey
  obey_kept StartLl v = record { n = refl; w = refl; words = refl }
  obey_kept StartSc v = record { n = refl; w = refl; words = length-sets ws (offer_word b.n b.w p 0) v }
  obey_kept StartVl v = record { n = refl; w = refl; words = refl }
  obey_kept Step v = step_kept (point_of q.line)

-- the line of an answer looks at no record
line_same : (m : Memory) (p : ℕ) (r : Reply) → answer_line m.bench m.words p r ≡ line_of m p r
line_same m p (Refused c) = refl
line_same m p Accepted = refl
line_same m p (WllAnswered k) = refl
line_same m p (WllNamed q k) = refl
line_same m p (ScAnswered t k) = refl
line_same m p (VlAnswered t k) = refl

-- an entry leaves as many words and as long a listing
module _ (e : Entry) (s : Progress) where
  abbrev done : Reply × Memory
  done = outcome figure6 e s

  command_words : length done.1.words ≡ length s.memory.words
  unfolding command
  command_words =
      let m = s.memory in
      let p : ProcessNumber = record { 0 = process_of e } in
      either (λ (x : Reply × Memory). length x.1.words ≡ length m.words) (eqb (refusal m (process_of e) (order_of e) (value_of m.bench.w e)) 0)
      (λ q. (obey_kept p m.bench (record_at m.records p) m.words (order_of e) (value_of m.bench.w e)).words) (λ q. refl)

  pub single_words : length (T.single figure6 e s).memory.words ≡ length s.memory.words
  unfolding T.single
  single_words =
      let P : Progress → Type 0 = λ x. length x.memory.words ≡ length s.memory.words in
      either P (eqb s.stop 0) (λ q. either P (leb most_entries s.entries) (λ l. refl) (λ l.
      either P (ltb (length s.listing - s.written) (room_needed s.traced)) (λ r. refl) (λ r.
      either P (eqb (number_of done.0) 0) (λ a. command_words) (λ a. refl)))) (λ q. refl)

  pub single_listing : length (T.single figure6 e s).listing ≡ length s.listing
  unfolding T.single
  single_listing =
      let P : Progress → Type 0 = λ x. length x.listing ≡ length s.listing in
      either P (eqb s.stop 0) (λ q. either P (leb most_entries s.entries) (λ l. refl) (λ l.
      either P (ltb (length s.listing - s.written) (room_needed s.traced)) (λ r. refl) (λ r.
      either P (eqb (number_of done.0) 0) (λ a. length-sets s.listing s.written (T.lines_of figure6 s e done)) (λ a. refl)))) (λ q. refl)

-- the record at a process's place is its own
pub own_at : (all : List Process) {i p : ℕ} → i ≡ p → record_at all (record { 0 = i }) ≡ record_at all (record { 0 = p })
own_at all e = ap (λ (i : ℕ). record_at all (record { 0 = i })) e

-- a writer that goes on behind what is written of a run's listing
pub record Behind (s : Progress) (to : Writer) : Type 0 where
  pub list : to.list.now ≡ s.listing
  pub place : to.written ≡ s.written

-- an entry that nothing refuses
module _ {e : Entry} {s : Progress} (f : Free e s) where
  abbrev m₁ : Memory
  m₁ = s.memory

  abbrev own : ProcessNumber
  own = record { 0 = process_of e }

  abbrev q₁ : Process
  q₁ = record_at m₁.records own

  abbrev v₁ : List ℕ
  v₁ = value_of m₁.bench.w e

  pub unhindered : refusal m₁ (process_of e) (order_of e) v₁ ≡ 0
  unhindered = unrefused m₁ (process_of e) (order_of e) v₁ f.accepted

  pub entry_obeyable : Obeyable (order_of e) own v₁ m₁.bench q₁ m₁.words
  entry_obeyable =
      obeyable m₁.bench m₁.records 16 (process_of e) (order_of e) v₁ m₁.words f.sixteen
      (number_same m₁ (process_of e) (order_of e) v₁ f.sixteen refl ∙ unhindered)

  pub process_small : process_of e < 16
  process_small = let r = entry_obeyable.ready in omega (arith, r.process, r.standing.n_most)

  -- what its order makes of its process, the bench and the words
  abbrev pub made : Moved × List ℕ
  made = obey (order_of e) own v₁ m₁.bench q₁ m₁.words

  abbrev seen : Option Access
  seen = access_seen s.traced own m₁.bench q₁ m₁.words

  -- and its lines
  abbrev pub lines_by : Moved × List ℕ → List ℕ
  lines_by x = shown_line (s.entries + 1) seen e x.0.reply ++ answer_line x.0.bench x.1 (process_of e) x.0.reply

  abbrev out_by : Moved × List ℕ → Reply × Memory
  out_by x = (x.0.reply, record { bench = x.0.bench; records = set m₁.records (process_of e) x.0.process; words = x.1 })

  out_is : outcome figure6 e s ≡ out_by made
  out_is = obeys m₁ (process_of e) (order_of e) v₁ unhindered

  shown_same : (t : Bool) (r : Reply) → shown_line (s.entries + 1) (access_seen t own m₁.bench q₁ m₁.words) e r ≡ cond t (T.trace_line figure6 (s.entries + 1) m₁ e r) []
  shown_same true r = refl
  shown_same false r = refl

  lines_are : lines_by made ≡ T.lines_of figure6 s e (outcome figure6 e s)
  lines_are =
      ap (λ (a : List ℕ). a ++ answer_line made.0.bench made.1 (process_of e) made.0.reply) (shown_same s.traced made.0.reply)
      ∙ ap (λ (a : List ℕ). cond s.traced (T.trace_line figure6 (s.entries + 1) m₁ e made.0.reply) [] ++ a) (line_same (out_by made).1 (process_of e) made.0.reply)
      ∙ sym (ap (T.lines_of figure6 s e) out_is)

  module _ {x : Moved × List ℕ} (d : x ≡ made) {to : Writer} (g : Behind s to) where
    pub lines_room : Fits to (lines_by x)
    lines_room = subst (λ (y : Moved × List ℕ). Fits to (lines_by y)) (sym d) (record { fits = omega (arith, f.fits, ap length lines_are, ap length g.list, g.place) })

    kept : Kept m₁.bench m₁.words x
    kept = subst (Kept m₁.bench m₁.words) (sym d) (obey_kept own m₁.bench q₁ m₁.words (order_of e) v₁)

    pub listable : {to₁ : Writer} → Writes to (shown_line (s.entries + 1) seen e x.0.reply) to₁ → Listable x.0.reply (process_of e) x.0.bench x.1 to₁
    listable w =
        let r = entry_obeyable.ready in
        let k = kept in
        record {
          process = omega (arith, r.process, k.n);
          n_most = omega (arith, r.standing.n_most, k.n);
          w_most = omega (arith, r.standing.w_most, k.w);
          lent = rw (k.n, k.w) (omega (arith, r.standing.words, k.words));
          room = fits_then _ lines_room w;
        }

    pub carried : {to₁ to₂ : Writer} → Writes to (shown_line (s.entries + 1) seen e x.0.reply) to₁
        → Writes to₁ (answer_line x.0.bench x.1 (process_of e) x.0.reply) to₂
        → record { memory = (out_by x).1; listing = to₂.list.now; written = to₂.written; entries = s.entries + 1; stop = 0; traced = s.traced } ≡ T.commanded figure6 e s
    carried {to₂ = to₂} a b =
        let l = to₂.list.now in
        let at = to₂.written in
        let w : Wrote s.listing s.written (T.lines_of figure6 s e (outcome figure6 e s)) l at =
        subst (λ (y : List ℕ). Wrote s.listing s.written y l at) (ap lines_by d ∙ lines_are) (rw (g.list, g.place) at (wrote (writes_then a b))) in
        ap (λ (y : Memory). record { memory = y; listing = l; written = at; entries = s.entries + 1; stop = 0; traced = s.traced })
        (ap (λ (y : Moved × List ℕ). (out_by y).1) d ∙ sym (ap (λ (y : Reply × Memory). y.1) out_is))
        ∙ ap (λ (y : List ℕ). record { memory = (outcome figure6 e s).1; listing = y; written = at; entries = s.entries + 1; stop = 0; traced = s.traced }) w.list
        ∙ ap (λ (y : ℕ). record {
          memory = (outcome figure6 e s).1;
          listing = sets s.listing s.written (T.lines_of figure6 s e (outcome figure6 e s));
          written = y;
          entries = s.entries + 1;
          stop = 0;
          traced = s.traced;
        }) w.place
        ∙ sym (made_commanded figure6 e s f.accepted)

  -- over what the code has in its hands
  pub process_few : {p : ℕ} → p ≡ process_of e → p < 16
  process_few q = omega (arith, q, process_small)

  module _ {p : ℕ} {q : Process} (ep : p ≡ process_of e) (eq : q ≡ record_at m₁.records (record { 0 = p })) where
    own_record : q ≡ q₁
    own_record = eq ∙ ap (λ (i : ℕ). record_at m₁.records (record { 0 = i })) ep

    pub ready_as : Ready m₁.bench q (record { 0 = p }) m₁.words
    ready_as = rw (own_record, ep) entry_obeyable.ready

    pub obeyable_as : Obeyable (order_of e) (record { 0 = p }) v₁ m₁.bench q m₁.words
    obeyable_as = rw (own_record, ep) entry_obeyable

    module _ {moved : Moved} {ws : List ℕ} (d : ◌≡◌ {A = Moved × List ℕ} (moved, ws) (obey (order_of e) (record { 0 = p }) v₁ m₁.bench q m₁.words)) where
      is_made : ◌≡◌ {A = Moved × List ℕ} (moved, ws) made
      is_made = d ∙ rw (own_record, ep)

      module _ {a : Option Access} (ea : a ≡ access_seen s.traced (record { 0 = p }) m₁.bench q m₁.words) where
        is_seen : a ≡ seen
        is_seen = ea ∙ rw (own_record, ep)

        module _ {answered : Bool} (et : answered ≡ answers moved.reply) where
          pub shown_room : {to : Writer} → Behind s to → Fits to (P.shown_line access_text (s.entries + 1) a e answered)
          shown_room g = rw (is_seen, et) (fits_first _ _ (lines_room is_made g))

          module _ {to to₁ : Writer} (g : Behind s to) (w : Writes to (P.shown_line access_text (s.entries + 1) a e answered) to₁) where
            shown_seen : Writes to (shown_line (s.entries + 1) seen e moved.reply) to₁
            shown_seen = rw (is_seen, et) at w

            pub listable_as : Listable moved.reply p moved.bench ws to₁
            listable_as = rw ep (listable is_made g shown_seen)

            pub carried_as : {to₂ : Writer} {next : List Process} → Writes to₁ (answer_line moved.bench ws p moved.reply) to₂
                → next ≡ set m₁.records p moved.process
                → record {
                  memory = record { bench = moved.bench; records = next; words = ws };
                  listing = to₂.list.now;
                  written = to₂.written;
                  entries = s.entries + 1;
                  stop = 0;
                  traced = s.traced;
                } ≡ T.commanded figure6 e s
            carried_as {to₂} y n =
                let records_are = n ∙ ap (λ (i : ℕ). set m₁.records i moved.process) ep in
                ap (λ (x : List Process). record {
                  memory = record { bench = moved.bench; records = x; words = ws };
                  listing = to₂.list.now;
                  written = to₂.written;
                  entries = s.entries + 1;
                  stop = 0;
                  traced = s.traced;
                }) records_are
                ∙ carried is_made g shown_seen (subst (λ (i : ℕ). Writes to₁ (answer_line moved.bench ws i moved.reply) to₂) ep y)

-- what a turn rests on
pub ruleset turn_laws = (err_from_is_err_and, number_some, turn_before, sound_single)
