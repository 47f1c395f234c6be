-- An entry that is one command, on a run that the code holds.
use mathlib.Core.Path.{◌≡◌, refl, sym, ap, subst, ◌∙◌}
use mathlib.Core.Bool.{cond}
use mathlib.Core.List.{List, [], ◌++◌}
use Prim.Native.Nat.{ℕ, ◌+◌, ◌-◌, ◌*◌, ◌≤◌, ◌<◌}
use native.Mathlib.Omega.{arith}
use lib.ListN.{length, set, take, length-append}
use lib.Seq.{take-set-lt}
use borrow.Author.Tests.{eq-eqb, ne_eqb, le-leb, lt-leb, lt-ltb, le-ltb}
use Rattle.model.specs.Replies.{number_of}
use Rattle.model.specs.declared.Reply.{Reply}
use Rattle.model.specs.declared.Reply.TheVariants.{Refused, Accepted, LlAnswered, ScAnswered, VlAnswered}
use Rattle.model.specs.Machine.{Memory}
use Rattle.model.specs.Command.{command}
use Rattle.text_entry.specs.Decision.{Outcome, decided, stored_back}
use Rattle.notation.specs.declared.Entry.{Entry}
use Rattle.notation.specs.declared.Entry.TheVariants.{StartLl, StartVl, StartSc, Step, Finish}
use Rattle.listing.specs.Writing.{Wrote}
use Rattle.listing.proofs.WritingLaws.{kept}
use Rattle.text_model.specs.Reached.{Reached}
use Rattle.text_runs.specs.TextRun.{most_entries, room_needed, process_of, order_of, value_of}
use Rattle.text_runs.specs.TextRun as TR
use Rattle.text_model.specs.TextRun.{Progress, line_of, trace_line, lines_of, counted, replied, commanded, single}
use Rattle.text_entry.specs.RunState.{RunState, state_with, progress, Sound, Ready, Kept, Becomes, Small, answer_line}
use Rattle.text_entry.proofs.WordLaws.{Below, Every, every_replicate, every_none}
use Rattle.text_entry.proofs.FilledLaws.{filled_set}
use Rattle.text_model.proofs.ReachedLaws.{reached_command}
use Rattle.text_entry.proofs.CommandLaws.{Decides, decides, decided_command}
use Rattle.text_entry.proofs.DecisionLaws.{Done, done, unchanged}
use Rattle.text_entry.proofs.TraceLaws.{shown_fits}

pub value_every : (e : Entry) (w : ℕ) → Small e → Every (value_of w e)
value_every (StartLl p) w s = every_none
value_every (StartVl p) w s = every_none
value_every (StartSc p k) w s = every_replicate w k s.1
value_every (Step p) w s = every_none
value_every (Finish p) w s = every_none

line_same : (m : Memory) (p : ℕ) (r : Reply) → answer_line m.bench.n m.bench.w m.words p r ≡ line_of m p r
line_same m p (Refused c) = refl
line_same m p Accepted = refl
line_same m p (LlAnswered k) = refl
line_same m p (ScAnswered t k) = refl
line_same m p (VlAnswered t k) = refl

-- a run that stops stays sound
pub stops : {len : ℕ} {h : RunState} (k : ℕ) → (k ≡ 0 → ⊥) → k ≤ 15 → Sound len h → Kept len h (state_with h.run k h.words h.listing h.written)
stops k n l s = record {
  sound = record { few = s.few; filled = s.filled; entries = s.entries; stop = l; room = s.room; going = λ z. absurd (n z) };
  words = refl;
  listing = refl;
}

module _ {len : ℕ} {h : RunState} (e : Entry) (out : Outcome) (ws : List ℕ) (small : Small e) (s : Sound len h) (r : Ready h)
    (d : ◌≡◌ {A = Outcome × List ℕ} (out, ws) (decided h.run.held.bench h.run.held.all len (process_of e) (order_of e) (value_of h.run.held.bench.w e) h.words)) where
  abbrev m : Memory
  m = (progress len h).memory

  abbrev v : List ℕ
  v = value_of h.run.held.bench.w e

  cases : Decides h.run.held.bench h.run.held.all len (process_of e) (order_of e) v h.words (out, ws)
  cases = subst (Decides h.run.held.bench h.run.held.all len (process_of e) (order_of e) v h.words) (sym d)
      (decides h.run.held.bench h.run.held.all len (process_of e) (order_of e) v h.words s.filled.sixteen (value_every e h.run.held.bench.w small))

  stored : stored_back (take len h.run.held.all) (out, ws) ≡ command m (process_of e) (order_of e) v
  stored = ap (stored_back (take len h.run.held.all)) d ∙ decided_command h.run.held.bench h.run.held.all len (process_of e) (order_of e) v h.words s.few s.filled

  -- refused: the run stops, and nothing changes
  pub refused_becomes : (number_of out.reply ≡ 0 → ⊥) → Becomes len (commanded e) h (state_with h.run (number_of out.reply) ws h.listing h.written)
  refused_becomes n =
      let u = unchanged h.run.held.bench h.run.held.all len (process_of e) (order_of e) v h.words s.filled.sixteen cases n in
      rw u.words (record {
        same = sym (ap (replied (progress len h) e) (sym stored) ∙ simp (ne_eqb (number_of out.reply) 0 n));
        kept = stops (number_of out.reply) n u.few s;
      })

  module _ (z : number_of out.reply ≡ 0) where
    did : Done h.run.held.bench h.run.held.all len (process_of e) (order_of e) v h.words (out, ws)
    did = done h.run.held.bench h.run.held.all len (process_of e) (order_of e) v h.words s.filled.sixteen cases z

    below : Below (5 * h.run.held.bench.n * h.run.held.bench.w) h.words
    below = record { at = (s.going r.goes).small }

    -- the trace's line, and then the line of the answer
    abbrev shown : List ℕ
    shown = cond h.run.traced (trace_line (h.run.entries + 1) m e out.reply) []

    shown_small : length shown ≤ cond h.run.traced 128 0
    shown_small = let x = did in shown_fits s r.goes e out.reply x.among h.run.traced (h.run.entries + 1) (omega (arith, r.entries)) small

    abbrev line : List ℕ
    line = answer_line out.bench.n out.bench.w ws (process_of e) out.reply

    pub lines_fit : h.written + length (shown ++ line) ≤ length h.listing
    lines_fit = let x = did in omega (arith, x.line below, shown_small, length-append shown line, r.room)

    pub words_lent : length ws ≡ length h.words
    words_lent = did.words

    -- obeyed: one entry more, with its lines
    module _ (list : List ℕ) (next : ℕ) (w : Wrote h.listing h.written (shown ++ line) list next) where
      abbrev after : RunState
      after =
          state_with (record {
            held = record { bench = out.bench; all = set h.run.held.all out.at out.process };
            entries = h.run.entries + 1;
            traced = h.run.traced;
          }) 0 ws list next

      lent_place : out.at < len
      lent_place = let x = did in omega (arith, x.place, x.process, x.records)

      abbrev left : Memory
      left = record { bench = out.bench; records = set (take len h.run.held.all) out.at out.process; words = ws }

      after_same : progress len after ≡ counted (progress len h) left (lines_of (progress len h) e (out.reply, left))
      after_same =
          let t : take len (set h.run.held.all out.at out.process)
          ≡ set (take len h.run.held.all) out.at out.process
          = take-set-lt len h.run.held.all out.at out.process lent_place in
          let l : line ≡ line_of left (process_of e) out.reply = line_same left (process_of e) out.reply in
          let p = w.place in
          let q = w.list in
          rw (t, p, q, l)

      after_reached : Reached (progress len after).memory
      after_reached =
          subst Reached
          (sym (ap (λ (o : Reply × Memory). o.1) stored) ∙ sym (ap (λ (y : Progress). y.memory) after_same))
          (reached_command (s.going r.goes).reached (process_of e) (order_of e) v)

      pub answered_becomes : Becomes len (commanded e) h after
      answered_becomes = let x = did in record {
        same = after_same ∙ sym (ap (replied (progress len h) e) (sym stored) ∙ simp (eq-eqb (number_of out.reply) 0 z));
        kept = record {
          sound = record {
            few = s.few;
            filled = filled_set out.at out.process lent_place s.filled;
            entries = omega (arith, r.entries);
            stop = omega arith;
            room = omega (arith, w.place, length-append shown line, x.line below, shown_small, r.room, kept w);
            going = λ y. record { reached = after_reached; width = x.w_most; small = (x.small below).at };
          };
          words = x.words;
          listing = kept w;
        };
      }

-- "before each entry 12, then 14"
module _ {len : ℕ} {h : RunState} (e : Entry) (s : Sound len h) where
  pub single_12 : h.stop ≡ 0 → most_entries ≤ h.run.entries → Becomes len (single e) h (state_with h.run 12 h.words h.listing h.written)
  unfolding TR.single
  single_12 z m = record { same = simp (eq-eqb h.stop 0 z, le-leb most_entries h.run.entries m); kept = stops 12 (λ y. omega arith) (omega arith) s }

  module _ (z : h.stop ≡ 0) (m : h.run.entries < most_entries) where
    pub single_14 : length h.listing - h.written < room_needed h.run.traced → Becomes len (single e) h (state_with h.run 14 h.words h.listing h.written)
    unfolding TR.single
    single_14 l = record {
      same = simp (eq-eqb h.stop 0 z, lt-leb most_entries h.run.entries m, lt-ltb (length h.listing - h.written) (room_needed h.run.traced) l);
      kept = stops 14 (λ y. omega arith) (omega arith) s;
    }

    pub single_ready : room_needed h.run.traced ≤ length h.listing - h.written → Ready h
    single_ready l = record { goes = z; entries = m; room = omega (arith, s.room) }

    pub single_commanded : {h' : RunState} → room_needed h.run.traced ≤ length h.listing - h.written → Becomes len (commanded e) h h' → Becomes len (single e) h h'
    unfolding TR.single
    single_commanded l b = record {
      same = b.same ∙ simp (eq-eqb h.stop 0 z, lt-leb most_entries h.run.entries m, le-ltb (length h.listing - h.written) (room_needed h.run.traced) l);
      kept = b.kept;
    }
