-- An entry of a run, over what the code has in its hands: its process, the record and the places taken out.
use mathlib.Core.Path.{◌≡◌, refl, sym, ap, subst, ◌∙◌}
use mathlib.Core.List.{List}
use Prim.Native.Nat.{ℕ, ◌+◌, ◌-◌, ◌<◌}
use native.Mathlib.Omega.{arith}
use lib.ListN.{length, get_or, set, take}
use borrow.Author.Tests.{eq-eqb}
use Rattle.model.specs.declared.SequenceNumber.{SequenceNumber}
use Rattle.llsc.specs.declared.ProcessNumber.{ProcessNumber}
use Rattle.model.specs.declared.Bench.{Bench}
use Rattle.model.specs.declared.Process.{Process}
use Rattle.llsc.specs.declared.Order.{Order}
use Rattle.model.specs.Records.{no_process, record_at}
use Rattle.model.specs.Tables.{no_bank, no_help}
use Rattle.model.specs.Points.{point_of}
use Rattle.lines.specs.Ranges.{Sized}
use Rattle.taken.specs.declared.Taken.{Taken}
use Rattle.taken.specs.Ranges.{Ready}
use Rattle.taken.specs.Taken.{bank_index, help_index, taken_at, put_taken}
use Rattle.taken.proofs.IndexLaws.{bank_index_small, help_index_small}
use Rattle.notation.specs.declared.Entry.{Entry}
use Rattle.notation.specs.declared.Entry.TheVariants.{StartLl, StartVl, StartSc, Step, Finish}
use Rattle.listing.specs.declared.Writer.{Writer}
use Rattle.taken.specs.declared.Stepped.{Stepped}
use Rattle.text_runs.specs.TextRun.{room_needed, process_of, order_of}
use Rattle.whole_runs.specs.Carrying.{gone_on}
use Rattle.text_model.specs.TextRun.{figure2, Progress, single}
use Rattle.text_entry.specs.RunState.{RunState, state_with, state_of, progress, Sound, Becomes, Small}
use Rattle.text_entry.specs.Turned.{refusal_of, place_of, Turnable, Turns, stays_at}
use Rattle.text_entry.proofs.EntryLaws.{entry_refused, entry_ready, place_same, entry_turnable, entry_made, own_line}

-- the places taken out, by the places in their tables
pub taken_at_lem : (b : Bench) {i : SequenceNumber} {j : ProcessNumber} {bank help : ℕ} {places : Taken} → bank ≡ i.0 → help ≡ j.0
    → places ≡ record { x = b.x; bank = get_or b.bank bank no_bank; help = get_or b.help help no_help } → places ≡ taken_at b i j
taken_at_lem b d f e = rw (d, f) at e

-- whether `!` goes on, by the line that the step left
goes_by_line : (e : Entry) (s : Progress) {line : ℕ} → s.stop ≡ 0 → (record_at s.memory.records (record { 0 = process_of e })).line ≡ line
    → gone_on figure2 e s ≡ stays_at e line
unfolding gone_on
goes_by_line (StartLl p) s z r = refl
goes_by_line (StartVl p) s z r = refl
goes_by_line (StartSc p k) s z r = refl
goes_by_line (Step p) s z r = refl
goes_by_line (Finish p) s z r = simp (eq-eqb s.stop 0 z, r)

-- an entry to carry out: what the code has in its hands
pub record Looking (len n w needed : ℕ) (h : RunState) (e : Entry) (p : ℕ) (k : ProcessNumber) (q : Process) (o : Order) : Type 0 where
  pub sound : Sound len h
  pub goes : h.stop ≡ 0
  pub small : Small e
  pub n_is : n ≡ h.run.held.bench.n
  pub w_is : w ≡ h.run.held.bench.w
  pub needed_is : needed ≡ room_needed h.run.traced
  pub process_is : p ≡ process_of e
  pub number_is : k ≡ record { 0 = place_of p }
  pub record_is : q ≡ get_or h.run.held.all k.0 no_process
  pub order_is : o ≡ order_of e

pub looking : {len needed p place : ℕ} {k : ProcessNumber} {h : RunState} {e : Entry} {o : Order}
    → Sound len h → h.stop ≡ 0 → Small e → needed ≡ room_needed h.run.traced → p ≡ process_of e → k ≡ record { 0 = place_of p } → place ≡ k.0
    → o ≡ order_of e → Looking len h.run.held.bench.n h.run.held.bench.w needed h e p k (get_or h.run.held.all place no_process) o
looking {h = h} s z small f b c d o = record {
  sound = s;
  goes = z;
  small = small;
  n_is = refl;
  w_is = refl;
  needed_is = f;
  process_is = b;
  number_is = c;
  record_is = ap (λ (i : ℕ). get_or h.run.held.all i no_process) d;
  order_is = o;
}

module _ {len n w needed p : ℕ} {k : ProcessNumber} {h : RunState} {e : Entry} {q : Process} {o : Order}
    (x : Looking len n w needed h e p k q o) where
  abbrev b : Bench
  b = h.run.held.bench

  abbrev list : List Process
  list = h.run.held.all

  abbrev own : Process
  own = record_at list (record { 0 = process_of e })

  abbrev refusal : ℕ
  refusal = refusal_of o h.run.entries (length h.listing - h.written) needed n p q

  abbrev looked : ℕ
  looked = refusal_of (order_of e) h.run.entries (length h.listing - h.written) needed b.n (process_of e) (get_or list (place_of (process_of e)) no_process)

  same_refusal : refusal ≡ looked
  same_refusal = rw (x.order_is, x.record_is, x.number_is, x.process_is, x.n_is)

  pub turn_refused : {stop : ℕ} → stop ≡ refusal → (stop ≡ 0 → ⊥) → Becomes len (single e) h (state_with h.run stop h.words h.listing h.written)
  turn_refused {stop} f y = entry_refused e x.small x.sound x.goes x.needed_is stop (f ∙ same_refusal) y

  module _ (f : refusal ≡ 0) where
    free : looked ≡ 0
    free = sym same_refusal ∙ f

    ready : Ready b.n b.w own (record { 0 = process_of e }) h.words
    ready = entry_ready e x.small x.sound x.goes x.needed_is free

    own_number : k ≡ record { 0 = process_of e }
    own_number = x.number_is ∙ ap (λ (i : ℕ). record { 0 = i }) (ap place_of x.process_is ∙ place_same e x.small x.sound x.goes x.needed_is free)

    own_place : k.0 ≡ process_of e
    own_place = ap (λ (y : ProcessNumber). y.0) own_number

    is_own : q ≡ own
    is_own = x.record_is ∙ ap (λ (i : ℕ). get_or list i no_process) own_place

    pub turn_sized : Sized n
    turn_sized = let r = ready.lent in record { some = omega (arith, x.n_is, r.n_some); most = omega (arith, x.n_is, r.n_most) }

    -- the places taken out
    module _ {i : SequenceNumber} {j : ProcessNumber} (ei : i ≡ bank_index (point_of q.line) n q) (ej : j ≡ help_index (point_of q.line) n k q) where
      at_bank : i ≡ bank_index (point_of own.line) b.n own
      at_bank = ei ∙ rw (is_own, x.n_is)

      at_help : j ≡ help_index (point_of own.line) b.n (record { 0 = process_of e }) own
      at_help = ej ∙ rw (is_own, x.n_is, own_number)

      pub turn_bank : i.0 < 32
      turn_bank = rw at_bank (bank_index_small ready (point_of own.line))

      pub turn_help : j.0 < 16
      turn_help = rw at_help (help_index_small ready (point_of own.line))

      module _ {places : Taken} (et : places ≡ taken_at b i j) where
        -- to is where the lines go
        abbrev goes_to : Writer → Type 0
        goes_to to = (to.list.now ≡ h.listing) × (to.written ≡ h.written)

        pub turnable : {to : Writer} → goes_to to → Turnable h.run.traced (h.run.entries + 1) e n w places q h.words to
        turnable g = rw (is_own, x.n_is, x.w_is) (entry_turnable e x.small x.sound x.goes x.needed_is free at_bank at_help et g.0 g.1)

        module _ {to to' : Writer} (g : goes_to to) {r : Stepped} {ws : List ℕ} (turn : Turns h.run.traced (h.run.entries + 1) e n w places q h.words to r ws to') where
          turn_own : Turns h.run.traced (h.run.entries + 1) e b.n b.w places own h.words to r ws to'
          turn_own = rw (is_own, x.n_is, x.w_is) at turn

          -- the run with one entry more, its record stored at a place
          abbrev after_at : ℕ → RunState
          after_at m = state_of (record {
            held = record { bench = put_taken b i j r.taken; all = set list m r.process };
            entries = h.run.entries + 1;
            traced = h.run.traced;
          }) 0 ws to'

          stored : (P : RunState → Type 0) → P (after_at (process_of e)) → P (after_at k.0)
          stored P x = subst (λ (m : ℕ). P (after_at m)) (sym own_place) x

          pub turn_made : Becomes len (single e) h (after_at k.0)
          turn_made = stored (Becomes len (single e) h) (entry_made e x.small x.sound x.goes x.needed_is free at_bank at_help et g.0 g.1 turn_own)

          line : (record_at (take len (set list (process_of e) r.process)) (record { 0 = process_of e })).line ≡ r.process.line
          line = own_line e x.small x.sound x.goes x.needed_is free at_bank at_help et g.0 g.1 turn_own

          pub turn_stays : gone_on figure2 e (progress len (after_at k.0)) ≡ stays_at e r.process.line
          turn_stays = stored (λ (d : RunState). gone_on figure2 e (progress len d) ≡ stays_at e r.process.line) (goes_by_line e (progress len (after_at (process_of e))) refl line)
