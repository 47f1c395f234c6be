-- A command by a look at what it reads alone, on a list that a set-up and commands reached.
use mathlib.Core.Path.{◌≡◌, refl, sym, ap, ◌∙◌}
use mathlib.Core.Bool.{Bool, true, false, cond}
use mathlib.Core.List.{List}
use Prim.Native.Nat.{ℕ, ◌≤◌}
use native.Mathlib.Omega.{arith}
use lib.Dec.{eqb}
use lib.ListN.{length, take, replicate, length-replicate}
use Rattle.std.specs.Prelude.{Result, Ok, Err}
use Rattle.llsc.specs.declared.refusals.Refusal.{Refusal}
use Rattle.llsc.specs.Refusals.{number_told, refusal_number}
use Rattle.llsc.proofs.RefusalNumbers.{number_some}
use Rattle.model.specs.declared.Reply.{Reply}
use Rattle.model.specs.declared.Reply.TheVariants.{Refused}
use Rattle.station.specs.Projection.{embed}
use Rattle.model.specs.Replies.{number_of}
use Rattle.station.specs.Station.{StationMemory}
use Rattle.station.specs.StationRefusals.{StationOrder, record_for}
use Rattle.station.specs.StationCommand.{station_refusal, station_command, obeyed_on}
use Rattle.station_facts.proofs.Accepts.{refuses}
use Rattle.board_commands.proofs.Theorems.{command_number}
use Rattle.held_model.specs.declared.Told.{Told}
use Rattle.held_model.specs.Memory.{number_at, memory_of}
use Rattle.held_model.specs.Near.{near_refusal}
use Rattle.held_model.specs.HeldCommand.{SteppedTo, Commanded}
use Rattle.held_model.proofs.MemoryLaws.{memory_shaped}
use Rattle.held_rows.proofs.NearLaws.{near_refusal_is}
use Rattle.held_laws.specs.Reached.{Reached}
use Rattle.held_laws.proofs.Theorems.{in_range_once_reached, step_is_command}
use Rattle.llsc.specs.declared.Order.{Order}
use Rattle.notation.specs.declared.Entry.{Entry}
use Rattle.text_entry.proofs.WordLaws.{take_replicate}
use Rattle.text_runs.specs.TextRun.{process_of, order_of, value_of}
use Rattle.station_text_laws.specs.EntryByEntry.{on_record0}
use Rattle.held_texts.specs.HeldRuns.{ObeyedOn, Obeyed}

same_refusal : {l : List ℕ} (c : StationOrder) → Reached l → near_refusal (memory_of l) c ≡ station_refusal (memory_of l) c
same_refusal {l} c h = near_refusal_is (memory_of l) (memory_shaped (number_at l 2) l) (in_range_once_reached l h) c

module _ {l : List ℕ} {c : StationOrder} where
  pub command_refused : {f : Refusal} → refusal_number f ≡ near_refusal (memory_of l) c → Obeyed l c (Err f) l
  command_refused {f} e = record {
    on = λ h.
        let is : refusal_number f ≡ station_refusal (memory_of l) c = e ∙ same_refusal c h in
        let r = refuses (memory_of l) c (λ z. number_some f (is ∙ z)) in
        record {
          number = is ∙ sym (ap (λ (x : Reply × StationMemory). number_of x.0) r);
          memory = sym (ap (λ (x : Reply × StationMemory). x.1) r);
          refused = λ z. refl;
          reached = h;
        };
    stays = refl;
  }

  pub command_done : {t : Told} {l' : List ℕ} → 0 ≡ near_refusal (memory_of l) c → SteppedTo l c t l' → length l' ≡ length l → Obeyed l c (Ok tt) l'
  command_done {t} {l'} e d n = record {
    on = λ h.
        let x = step_is_command l l' c t h d in
        record {
          number = accepted (sym (same_refusal c h) ∙ sym e);
          memory = x.0.memory;
          refused = λ z. absurd (z refl);
          reached = x.1;
        };
    stays = n;
  }
    where
      accepted : station_refusal (memory_of l) c ≡ 0 → 0 ≡ number_of (station_command (memory_of l) c).0
      accepted z = sym (command_number (memory_of l) c ∙ z)

-- an entry's command, by its process, its order and its value
module _ {l l' : List ℕ} {r : Result (Unit {0}) Refusal} {p : ℕ} {o : Order} where
  pub carried_as : (e : Entry) {v : List ℕ} → p ≡ process_of e → o ≡ order_of e → v ≡ value_of (number_at l 1) e
      → Obeyed l (on_record0 p o v) r l' → Obeyed l (on_record0 (process_of e) (order_of e) (value_of (number_at l 1) e)) r l'
  carried_as e a b d x = rw (a, b, d) at x

pub row_is : {v : List ℕ} {w k n : ℕ} → v ≡ replicate 64 k → n ≡ w → w ≤ 64 → take n v ≡ replicate w k
row_is {w = w} {k = k} e n h = rw (e, n) (take_replicate w 64 k h)

pub row_length : {v : List ℕ} {w k n : ℕ} → v ≡ replicate 64 k → n ≡ w → w ≤ 64 → n ≤ length v
row_length {k = k} e n h = rw (e, n) (omega (arith, h, length-replicate 64 k))

pub ruleset carry_laws = (carried_as, row_is, row_length)

-- a command keeps R
pub r_stays : (s : StationMemory) (c : StationOrder) → (station_command s c).1.r ≡ s.r
unfolding station_command
r_stays s c = go (eqb (station_refusal s c) 0)
  where
    go : (t : Bool) → (cond t (embed s (record_for s c) c.process (obeyed_on s (record_for s c) c)) (Refused (station_refusal s c), s)).1.r ≡ s.r
    go true = refl
    go false = refl
