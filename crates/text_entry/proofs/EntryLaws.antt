-- What happens between two entries: an entry of a run that goes on is refused, and the run stops; or it is carried out on the places taken out
-- for it, and the run has one entry more.
use mathlib.Core.Path.{◌≡◌, refl, sym, ap, ◌∙◌}
use mathlib.Core.Bool.{Bool, true, false, not, cond}
use mathlib.Core.List.{List, [], ◌∷◌, ◌++◌}
use Prim.Native.Nat.{ℕ, ◌+◌, ◌-◌, ◌≤◌, ◌<◌}
use native.Mathlib.Omega.{arith}
use lib.Dec.{ltb, leb}
use lib.ListN.{length, get_or, set, replicate, length-replicate}
use lib.Seq.{get_or-take, get_or-set_same}
use borrow.Author.Tests.{eq-eqb, leb-true, leb-false, ltb-true, ltb-false, lt-ltb, le-leb}
use Rattle.model.specs.declared.SequenceNumber.{SequenceNumber}
use Rattle.llsc.specs.declared.ProcessNumber.{ProcessNumber}
use Rattle.model.specs.declared.Bench.{Bench}
use Rattle.model.specs.declared.Process.{Process}
use Rattle.llsc.specs.declared.Order.{Order}
use Rattle.model.specs.declared.Moved.{Moved}
use Rattle.model.specs.Records.{no_process, record_at}
use Rattle.model.specs.Points.{point_of}
use Rattle.model.specs.Machine.{obey}
use Rattle.llsc.specs.Rows.{first, row4}
use Rattle.model.specs.Refusals.{row5, row6, row7}
use Rattle.model.specs.Replies.{number_of}
use Rattle.taken.specs.declared.Taken.{Taken}
use Rattle.taken.specs.declared.Stepped.{Stepped}
use Rattle.llsc.specs.Rows.{row8}
use Rattle.rows.specs.CommandRows.{decision_number, late_number}
use Rattle.text_entry.specs.Decision.{Outcome, refused_outcome, obeyed_outcome, decided}
use Rattle.taken.specs.Ranges.{Ready}
use Rattle.taken.specs.Taken.{bank_index, help_index, taken_at, put_taken, put_back}
use Rattle.rows.proofs.RowLaws.{late_decides}
use Rattle.text_entry.proofs.ObeyableLaws.{obeyable, refused_law, obeyed_law}
use Rattle.steps.proofs.TakenLaws.{whole_order}
use Rattle.notation.specs.declared.Entry.{Entry}
use Rattle.notation.specs.declared.Entry.TheVariants.{StartLl, StartVl, StartSc, Step, Finish}
use Rattle.listing.specs.declared.Writer.{Writer}
use Rattle.listing.proofs.WritingLaws.{wrote, same}
use Rattle.text_runs.specs.TextRun.{most_entries, room_needed, process_of, order_of, value_of}
use Rattle.text_model.specs.TextRun.{trace_line, single}
use Rattle.text_entry.specs.RunState.{RunState, state_of, state_with, progress, Sound, Ready as Going, Becomes, Small, answer_line}
use Rattle.text_entry.specs.Turned.{refusal_of, place_of, turned, turn_lines, Turnable, Turns}
use Rattle.text_entry.proofs.ObeyLaws.{order_obeyed, plain_none}
use Rattle.text_entry.proofs.OrderLaws.{in_order, enough, most_processes}
use Rattle.text_entry.proofs.TraceLaws.{shown_same}
use Rattle.text_entry.proofs.SingleLaws.{value_every, refused_becomes, answered_becomes, lines_fit, words_lent, single_12, single_14, single_ready, single_commanded}

-- row 8 can't hold: a text's SC brings W words
no_row_8 : (e : Entry) (w : ℕ) → (row8 (order_of e) w (length (value_of w e))).holds ≡ false
no_row_8 (StartLl p) w = refl
no_row_8 (StartVl p) w = refl
no_row_8 (StartSc p k) w = ap not (eq-eqb (length (replicate w k)) w (length-replicate w k))
no_row_8 (Step p) w = refl
no_row_8 (Finish p) w = refl

-- rows 4, 5, 6 and 7
abbrev rows_of : Order → ℕ → ℕ → Process → ℕ
rows_of o n p q = first (row4 n p ∷ row5 o q ∷ row6 o q ∷ row7 o q ∷ [])

module _ {len : ℕ} {h : RunState} (e : Entry) (small : Small e) (s : Sound len h) (z : h.stop ≡ 0) where
  abbrev b : Bench
  b = h.run.held.bench

  abbrev list : List Process
  list = h.run.held.all

  abbrev p : ℕ
  p = process_of e

  abbrev o : Order
  o = order_of e

  abbrev v : List ℕ
  v = value_of b.w e

  abbrev q : Process
  q = record_at list (record { 0 = p })

  abbrev room : ℕ
  room = length h.listing - h.written

  abbrev number : ℕ
  number = decision_number b list len p o (length v) (length h.words)

  by_rows : number ≡ rows_of o b.n p q
  unfolding late_number
  by_rows = sym (late_decides b list len p o (length v) (length h.words) (in_order s z)) ∙ simp (no_row_8 e b.w)

  -- the code looks at some record also where the process is none of N; row 4 holds there
  abbrev seen : Process
  seen = get_or list (place_of p) no_process

  seen_same : rows_of o b.n p seen ≡ rows_of o b.n p q
  seen_same = pick (ltb p 16) refl
    where
      pick : (t : Bool) → ltb p 16 ≡ t → rows_of o b.n p (get_or list (cond t p 0) no_process) ≡ rows_of o b.n p q
      pick true t = refl
      pick false t = simp (le-leb b.n p (omega (arith, ltb-false p 16 t, most_processes s z)))

  abbrev refusal : ℕ → ℕ
  refusal needed = refusal_of o h.run.entries room needed b.n p seen

  abbrev stopped_by : ℕ → RunState
  stopped_by k = state_with h.run k h.words h.listing h.written

  module _ {needed : ℕ} (en : needed ≡ room_needed h.run.traced) where
    -- refused: 12, 14, or a row
    pub entry_refused : (k : ℕ) → k ≡ refusal needed → (k ≡ 0 → ⊥) → Becomes len (single e) h (stopped_by k)
    entry_refused k f n = pick (leb most_entries h.run.entries) refl (ltb room needed) refl f
      where
        by_row : h.run.entries < most_entries → needed ≤ room → k ≡ rows_of o b.n p seen → Becomes len (single e) h (stopped_by k)
        by_row m l g =
            let l' : room_needed h.run.traced ≤ room = omega (arith, en, l) in
            let r = single_ready e s z m l' in
            let d = refused_law b list len p o v h.words k (g ∙ seen_same ∙ sym by_rows) n in
            single_commanded e s z m l' (refused_becomes e (refused_outcome b len k) h.words small s r d n)

        pick : (x : Bool) → leb most_entries h.run.entries ≡ x → (y : Bool) → ltb room needed ≡ y
            → k ≡ cond x 12 (cond y 14 (rows_of o b.n p seen)) → Becomes len (single e) h (stopped_by k)
        pick true ex y ey g = rw g (single_12 e s z (leb-true most_entries h.run.entries ex))
        pick false ex true ey g = rw g (single_14 e s z (leb-false most_entries h.run.entries ex) (omega (arith, en, ltb-true room needed ey)))
        pick false ex false ey g = by_row (leb-false most_entries h.run.entries ex) (ltb-false room needed ey) g

    -- nothing refuses it
    module _ (f : refusal needed ≡ 0) where
      record Free : Type 0 where
        entries : h.run.entries < most_entries
        room_left : room_needed h.run.traced ≤ room
        rows : rows_of o b.n p q ≡ 0

      free : Free
      free = pick (leb most_entries h.run.entries) refl (ltb room needed) refl f
        where
          pick : (x : Bool) → leb most_entries h.run.entries ≡ x → (y : Bool) → ltb room needed ≡ y → ◌≡◌ {A = ℕ} (cond x 12 (cond y 14 (rows_of o b.n p seen))) 0 → Free
          pick true ex y ey g = let w : ⊥ = omega (arith, g) in absurd w
          pick false ex true ey g = let w : ⊥ = omega (arith, g) in absurd w
          pick false ex false ey g = record { entries = leb-false most_entries h.run.entries ex; room_left = omega (arith, en, ltb-false room needed ey); rows = sym seen_same ∙ g }

      none : number ≡ 0
      none = by_rows ∙ free.rows

      pub entry_ready : Ready b.n b.w q (record { 0 = p }) h.words
      entry_ready = (obeyable b list len p o v h.words s.filled.sixteen none).ready

      pub process_small : p < 16
      process_small = let l = entry_ready.lent in omega (arith, l.process, l.n_most)

      pub place_same : place_of p ≡ p
      place_same = simp (lt-ltb p 16 process_small)

      going : Going h
      going = single_ready e s z free.entries free.room_left

      -- carried out on the places taken out for it
      module _ {i : SequenceNumber} {j : ProcessNumber} {t : Taken} (ei : i ≡ bank_index (point_of q.line) b.n q)
          (ej : j ≡ help_index (point_of q.line) b.n (record { 0 = p }) q) (et : t ≡ taken_at b i j) where
        abbrev out : Stepped × List ℕ
        out = turned e b.n b.w t q h.words

        abbrev moved : Moved
        moved = put_back b i j out.0

        obeyed : ◌≡◌ {A = Moved × List ℕ} (moved, out.1) (obey o (record { 0 = p }) v b q h.words)
        obeyed = whole_order (record { 0 = p }) b q h.words o v refl ei ej et refl

        decides : ◌≡◌ {A = Outcome × List ℕ} (obeyed_outcome moved p, out.1) (decided b list len p o v h.words)
        decides = obeyed_law b list len p o v h.words (moved, out.1) none obeyed

        unrefused : number_of moved.reply ≡ 0
        unrefused = ap (λ (x : Moved × List ℕ). number_of x.0.reply) obeyed ∙ plain_none (order_obeyed entry_ready o v (value_every e b.w small)).reply

        abbrev lines : List ℕ
        lines = turn_lines h.run.traced (h.run.entries + 1) e b.n b.w t q h.words

        abbrev answer : List ℕ
        answer = answer_line b.n b.w out.1 p moved.reply

        lines_same : lines ≡ cond h.run.traced (trace_line (h.run.entries + 1) (progress len h).memory e moved.reply) [] ++ answer
        lines_same =
            ap (λ (x : List ℕ). x ++ answer)
            (shown_same s z e moved.reply entry_ready.lent.process (h.run.entries + 1) ei ej et h.run.traced)

        -- to is where its lines go, behind what is written of the listing
        module _ {to : Writer} (el : to.list.now ≡ h.listing) (ew : to.written ≡ h.written) where
          pub entry_turnable : Turnable h.run.traced (h.run.entries + 1) e b.n b.w t q h.words to
          entry_turnable =
              let fits = lines_fit e (obeyed_outcome moved p) out.1 small s going decides unrefused in
              record {
                ready = entry_ready;
                lent = words_lent e (obeyed_outcome moved p) out.1 small s going decides unrefused;
                fits = record { fits = omega (arith, ap length lines_same, ap length el, ew, fits) };
              }

          -- one entry more
          module _ {r : Stepped} {ws : List ℕ} {to' : Writer} (turn : Turns h.run.traced (h.run.entries + 1) e b.n b.w t q h.words to r ws to') where
            abbrev after : RunState
            after = state_of (record {
              held = record { bench = put_taken b i j r.taken; all = set list p r.process };
              entries = h.run.entries + 1;
              traced = h.run.traced;
            }) 0 ws to'

            pub entry_made : Becomes len (single e) h after
            entry_made =
                let a = turn.taken in let c = turn.process in let d = turn.words in
                let w = rw (el, ew) at (wrote turn.wrote) in
                rw (a, c, d) (single_commanded e s z free.entries free.room_left
                (answered_becomes e (obeyed_outcome moved p) out.1 small s going decides unrefused to'.list.now to'.written (same (sym lines_same) w)))

            pub own_line : (record_at (progress len after).memory.records (record { 0 = p })).line ≡ r.process.line
            own_line = ap (λ (x : Process). x.line)
                (get_or-take len (set list p r.process) p no_process (omega (arith, entry_ready.lent.process, enough s z)) ∙
                get_or-set_same list p r.process no_process (omega (arith, process_small, s.filled.sixteen)))
