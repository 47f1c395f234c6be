-- An entry of a run on a held list: refused, or made with one command less left.
use mathlib.Core.Path.{◌≡◌, refl, sym, ap, subst, ◌∙◌}
use mathlib.Core.Bool.{Bool, true, false, not, cond}
use mathlib.Core.List.{List, [], ◌∷◌, ◌++◌, append-nil}
use Prim.Native.Nat.{ℕ, zero, suc, ◌+◌, ◌-◌, ◌*◌, ◌≤◌, ◌<◌}
use native.Mathlib.Omega.{arith}
use lib.Dec.{eqb, ltb, leb}
use lib.ListN.{length}
use lib.Seq.{sets}
use borrow.Author.Tests.{eq-eqb, ne_eqb, eqb-false, leb-false, ltb-false}
use Rattle.std.specs.Prelude.{Result, Ok, Err}
use Rattle.llsc.specs.declared.refusals.Refusal.{Refusal}
use Rattle.llsc.specs.declared.refusals.Refusal.TheVariants.{TooMuch, NoRoom}
use Rattle.llsc.specs.Refusals.{refusal_number, number_told, refused_if}
use Rattle.llsc.specs.declared.Order.{Order}
use Rattle.llsc.specs.declared.Order.TheVariants as order
use Rattle.llsc.proofs.RefusalNumbers.{number_some}
use Rattle.model.specs.declared.Reply.{Reply}
use Rattle.model.specs.Replies.{number_of}
use Rattle.listing.specs.declared.Writer.{Writer}
use Rattle.listing.specs.Writing.{Fits, Writes}
use Rattle.notation.specs.declared.Entry.{Entry}
use Rattle.notation.specs.declared.Entry.TheVariants.{StartLl, StartVl, StartSc, Step, Finish}
use Rattle.notation.specs.Stretches.{Small}
use Rattle.text_runs.specs.declared.runs.Run.{Run}
use Rattle.text_runs.specs.Parts.{before_entry}
use Rattle.text_runs.specs.TextRun.{Progress, most_entries, room_needed, process_of, order_of, value_of, stopped, counted, commanded, single}
use Rattle.text_runs.specs.TrueTraces.{outcome}
use Rattle.text_runs.proofs.TraceLengths.{line_length}
use Rattle.whole_runs.specs.Carrying.{gone_on, in_run}
use Rattle.station.specs.Station.{StationMemory}
use Rattle.station.specs.StationRefusals.{StationOrder, row23, row24}
use Rattle.station.specs.StationCommand.{station_refusal, station_command}
use Rattle.station_facts.proofs.Accepts.{accepts}
use Rattle.board_commands.proofs.Theorems.{command_number, w_stays}
use Rattle.station_text_laws.specs.EntryByEntry.{on_record0}
use Rattle.held_model.specs.Memory.{number_at, process_in, laid_out, memory_of}
use Rattle.held_model.proofs.MemoryLaws.{process_there}
use Rattle.held_text_model.specs.Upto.{nothing_shown}
use Rattle.held_texts.specs.declared.running.Left.{Left}
use Rattle.held_texts.specs.HeldRuns.{ObeyedOn, Obeyed, line_of_finish, lines, held_machine, held_memory, held_progress, Going, Sound}
use Rattle.held_texts.proofs.CommandLaws.{r_stays}

pub lines_room : (t : Bool) (k : ℕ) (e : Entry) → k ≤ most_entries → Small e → length (lines t k e) ≤ cond t 128 0
lines_room true k e h x = line_length nothing_shown k (record { process = process_of e }) e false h x (omega arith)
lines_room false k e h x = omega arith

-- 23 and 24 cannot be: a text is of one record
small_by : (a b x c d e y f g h i : Bool) → x ≡ false → y ≡ false
    → cond a 1 (cond b 2 (cond x 23 (cond c 3 (cond d 9 (cond e 4 (cond y 24 (cond f 8 (cond g 5 (cond h 6 (cond i 7 0)))))))))) ≤ 15
small_by a b x c d e y f g h i p q = rw (p, q) (by a b c d e f g h i)
  where
    by : (a b c d e f g h i : Bool) → cond a 1 (cond b 2 (cond c 3 (cond d 9 (cond e 4 (cond f 8 (cond g 5 (cond h 6 (cond i 7 0)))))))) ≤ 15
    by true b c d e f g h i = omega arith
    by false true c d e f g h i = omega arith
    by false false true d e f g h i = omega arith
    by false false false true e f g h i = omega arith
    by false false false false true f g h i = omega arith
    by false false false false false true g h i = omega arith
    by false false false false false false true h i = omega arith
    by false false false false false false false true i = omega arith
    by false false false false false false false false true = omega arith
    by false false false false false false false false false = omega arith

no_record : (o : Order) → (row24 o 1 0).holds ≡ false
no_record order.StartLl = refl
no_record order.StartSc = refl
no_record order.StartVl = refl
no_record order.Step = refl

small_number : (m : StationMemory) (p : ℕ) (o : Order) (v : List ℕ) → m.r ≡ 1 → station_refusal m (on_record0 p o v) ≤ 15
unfolding station_refusal
small_number m p o v e =
    let n23 : (row23 m.r).holds ≡ false = rw e refl in
    let n24 : (row24 o m.r 0).holds ≡ false = rw e (no_record o) in
    small_by _ _ _ _ _ _ _ _ _ _ _ n23 n24

-- whether no command is left
full_by : (b : Bool) {g : Refusal} → Err g ≡ refused_if b TooMuch → (b ≡ true) × (refusal_number g ≡ 12)
full_by true q = (refl, ap number_told q)
full_by false {g} q = absurd (number_some g (ap number_told q))

left_by : (b : Bool) {u : Unit {0}} → Ok u ≡ refused_if b TooMuch → b ≡ false
left_by true q = let zero_twelve : ◌≡◌ {A = ℕ} 0 12 = ap number_told q in absurd (let w : ⊥ = omega (arith, zero_twelve) in w)
left_by false q = refl

pub some_left : {left : ℕ} {u : Unit {0}} → Ok u ≡ refused_if (eqb left 0) TooMuch → left ≡ 0 → ⊥
some_left {left} q = eqb-false left 0 (left_by (eqb left 0) q)

module _ (self : Left) (done : ℕ) (t : Bool) (ws : List ℕ) (to : Writer) (e : Entry) where
  abbrev left : ℕ
  left = self.left

  abbrev run : Run Left
  run = in_run self done t

  abbrev p : Progress held_machine
  p = held_progress run 0 ws to

  abbrev room : ℕ
  room = length to.list.now - to.written

  abbrev by_rows : Bool → Bool → Progress held_machine
  by_rows a b = cond a (stopped held_machine 12 p) (cond b (stopped held_machine 14 p) (commanded held_machine e p))

  abbrev rows : Bool → Bool → Result (Unit {0}) Refusal
  rows a b = cond a (Err TooMuch) (cond b (Err NoRoom) (Ok tt))

  is_rows : single held_machine e p ≡ by_rows (leb most_entries done) (ltb room (room_needed t))
  unfolding single
  is_rows = refl

  refused_by : (a b : Bool) {g : Refusal} → rows a b ≡ Err g → by_rows a b ≡ stopped held_machine (refusal_number g) p
  refused_by true b q = ap (λ (o : Result (Unit {0}) Refusal). stopped held_machine (number_told o) p) q
  refused_by false true q = ap (λ (o : Result (Unit {0}) Refusal). stopped held_machine (number_told o) p) q
  refused_by false false {g} q = absurd (number_some g (sym (ap number_told q)))

  pub turn_refused : {g : Refusal} → before_entry done room (room_needed t) ≡ Err g → single held_machine e p ≡ stopped held_machine (refusal_number g) p
  turn_refused q = is_rows ∙ refused_by _ _ q

  -- the entry's command is looked at
  record Passed (a b : Bool) : Type 0 where
    few : a ≡ false
    wide : b ≡ false

  passed_by : (a b : Bool) {u : Unit {0}} → rows a b ≡ Ok u → Passed a b
  passed_by true b q = let twelve : ◌≡◌ {A = ℕ} 12 0 = ap number_told q in absurd (let w : ⊥ = omega (arith, twelve) in w)
  passed_by false true q = let fourteen : ◌≡◌ {A = ℕ} 14 0 = ap number_told q in absurd (let w : ⊥ = omega (arith, fourteen) in w)
  passed_by false false q = record { few = refl; wide = refl }

  module _ {u : Unit {0}} (passed : before_entry done room (room_needed t) ≡ Ok u) where
    both : Passed (leb most_entries done) (ltb room (room_needed t))
    both = passed_by _ _ passed

    is_commanded : single held_machine e p ≡ commanded held_machine e p
    is_commanded = is_rows ∙ simp (both.few, both.wide)

    pub few : done < most_entries
    few = leb-false most_entries done both.few

    wide : room_needed t ≤ room
    wide = ltb-false room (room_needed t) both.wide

    lines_small : Small e → length (lines t (done + 1) e) ≤ cond t 128 0
    lines_small x = lines_room t (done + 1) e (omega (arith, few)) x

    pub lines_fit : Small e → Fits to (lines t (done + 1) e)
    lines_fit x = record { fits = omega (arith, lines_small x, wide) }

    -- no command is left
    pub turn_full : {g : Refusal} → Err g ≡ refused_if (eqb left 0) TooMuch → single held_machine e p ≡ stopped held_machine (refusal_number g) p
    turn_full {g} q =
        let b = full_by (eqb left 0) {g = g} q in
        let halted : commanded held_machine e p ≡ stopped held_machine 12 p = simp b.0 in
        is_commanded ∙ halted ∙ ap (λ (k : ℕ). stopped held_machine k p) (sym b.1)

    module _ (some : left ≡ 0 → ⊥) (s : Sound run 0 ws to) where
      abbrev c : StationOrder
      c = on_record0 (process_of e) (order_of e) (value_of (number_at ws 1) e)

      abbrev out : Reply × StationMemory
      out = station_command (laid_out 1 ws) c

      going : Going ws
      going = s.going refl

      same_memory : memory_of ws ≡ laid_out 1 ws
      same_memory = ap (λ (k : ℕ). laid_out k ws) going.one

      module _ {r : Result (Unit {0}) Refusal} {ws' : List ℕ} (x : Obeyed ws c r ws') where
        on : ObeyedOn ws c r ws'
        on = x.on going.reached

        number_is : number_told r ≡ number_of out.0
        number_is = on.number ∙ ap (λ (m : StationMemory). number_of (station_command m c).0) same_memory

        one : number_at ws' 2 ≡ 1
        one =
            ap (λ (m : StationMemory). m.r) on.memory ∙ r_stays (memory_of ws) c ∙ going.one

        memory_is : laid_out 1 ws' ≡ out.1
        memory_is =
            sym (ap (λ (k : ℕ). laid_out k ws') one) ∙ on.memory ∙ ap (λ (m : StationMemory). (station_command m c).1) same_memory

        pub turn_stopped : {k : ℕ} → number_told r ≡ k → (k ≡ 0 → ⊥) → single held_machine e p ≡ held_progress run k ws' to
        turn_stopped {k} q n =
            let is : k ≡ number_of out.0 = sym q ∙ number_is in
            let stays : ws' ≡ ws = on.refused (λ z. n (sym q ∙ z)) in
            let halted : commanded held_machine e p ≡ stopped held_machine (number_of out.0) p = simp (ne_eqb left 0 some, ne_eqb (number_of out.0) 0 (λ z. n (is ∙ z))) in
            is_commanded ∙ halted ∙ ap (λ (j : ℕ). stopped held_machine j p) (sym is) ∙ ap (λ (l : List ℕ). held_progress run k l to) (sym stays)

        pub stopped_sound : {k : ℕ} → number_told r ≡ k → (k ≡ 0 → ⊥) → Sound run k ws' to
        stopped_sound {k} q n = record {
          few = s.few;
          stop = omega (arith, q, on.number, command_number (memory_of ws) c, small_number (memory_of ws) (process_of e) (order_of e) (value_of (number_at ws 1) e) going.one);
          room = s.room;
          going = λ z. absurd (n z);
        }

        still_going : Going ws'
        still_going = record {
          reached = on.reached;
          one = one;
          width = omega (arith, ap (λ (m : StationMemory). m.w) on.memory, w_stays (memory_of ws) c, going.width);
        }

        module _ (ok : number_told r ≡ 0) {to' : Writer} (w : Writes to (lines t (done + 1) e) to') where
          abbrev after : Progress held_machine
          after = held_progress (in_run (record { left = left - 1 }) (done + 1) t) 0 ws' to'

          accepted : number_of out.0 ≡ 0
          accepted = sym number_is ∙ ok

          as_counted : commanded held_machine e p ≡ counted held_machine p (left - 1, out.1) (lines t (done + 1) e ++ [])
          as_counted = simp (ne_eqb left 0 some, eq-eqb (number_of out.0) 0 accepted)

          pub turn_made : after ≡ single held_machine e p
          turn_made = sym (is_commanded ∙ as_counted
              ∙ ap (counted held_machine p (left - 1, out.1)) (append-nil (lines t (done + 1) e))
              ∙ ap (λ (m : StationMemory). counted held_machine p (left - 1, m) (lines t (done + 1) e)) (sym memory_is)
              ∙ ap (λ (l : List ℕ). written l (to.written + length (lines t (done + 1) e))) (sym w.list)
              ∙ ap (written to'.list.now) (sym w.place))
            where
              written : List ℕ → ℕ → Progress held_machine
              written l k = record { memory = (left - 1, laid_out 1 ws'); listing = l; written = k; entries = done + 1; stop = 0; traced = t }

          -- a process of N has its record
          below : process_of e < 16
          below = let a = accepts (laid_out 1 ws) c (sym (command_number (laid_out 1 ws) c) ∙ accepted) in omega (arith, a.below, a.n_high)

          pub turn_stays : gone_on held_machine e after ≡ line_of_finish ws' e
          unfolding gone_on line_of_finish
          turn_stays = by e below
            where
              by : (i : Entry) → process_of i < 16 → gone_on held_machine i after ≡ line_of_finish ws' i
              by (StartLl q) h = refl
              by (StartVl q) h = refl
              by (StartSc q k) h = refl
              by (Step q) h = refl
              by (Finish q) h = ap (λ z. not (eqb z.line 0)) (process_there 1 ws' q h)

          pub made_sound : Small e → Sound (in_run (record { left = left - 1 }) (done + 1) t) 0 ws' to'
          made_sound x = record {
            few = omega (arith, few);
            stop = omega arith;
            room = omega (arith, w.place, w.long, lines_small x, wide);
            going = λ z. still_going;
          }
