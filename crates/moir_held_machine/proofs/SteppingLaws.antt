-- The two answers of a command by a look at what it reads alone, and by one at the whole list.
use mathlib.Core.Path.{◌≡◌, sym, ap, ◌∙◌}
use mathlib.Core.List.{List}
use mathlib.Core.Bool.{false, cond}
use Prim.Native.Nat.{ℕ}
use lib.Dec.{eqb}
use borrow.Author.Tests.{eq-eqb, ne_eqb}
use Rattle.llsc.specs.declared.Order.{Order}
use Rattle.held_model.specs.Memory.{number_at}
use Rattle.moir_model.specs.declared.Reply.{Reply}
use Rattle.moir_model.specs.declared.Reply.TheVariants.{Refused}
use Rattle.moir_model.specs.Machine.{Memory}
use Rattle.moir_model.specs.Command.{obeyed}
use Rattle.moir_held_model.specs.declared.Told.{Told}
use Rattle.moir_held_model.specs.Memory.{memory_of}
use Rattle.moir_held_model.specs.Told.{told_with, told}
use Rattle.moir_held_model.specs.Ranges.{held_refusal, held_command, near_refusal, near_command}
use Rattle.moir_held_model.specs.HeldCommand.{MarksAfter, DoneBy, Commanded, SteppedTo}
use Rattle.moir_held_model.proofs.MemoryLaws.{memory_shaped}
use Rattle.moir_held_model.proofs.RangeLaws.{held_refusal_is, held_command_is}
use Rattle.moir_held_rows.specs.ListRows.{memory_number}
use Rattle.moir_held_rows.proofs.NearRowLaws.{memory_refuses, memory_passes}
use Rattle.moir_held_rows.proofs.NearLaws.{near_refusal_is, near_command_is, near_is_held}

-- a command that is done by one pair of refusal and command is done by another that says the same of this memory
pub done_as : {r r' : Memory → ℕ → Order → List ℕ → ℕ} {f f' : Memory → ℕ → Order → List ℕ → Reply × Memory} {l : List ℕ} {p : ℕ} {o : Order} {v : List ℕ} {t : Told}
    {l' : List ℕ} → r (memory_of l) p o v ≡ r' (memory_of l) p o v → f (memory_of l) p o v ≡ f' (memory_of l) p o v → DoneBy r f l p o v t l' → DoneBy r' f' l p o v t l'
done_as {l = l} {p = p} e g d = record {
  answer = d.answer ∙ ap (λ (x : Reply × Memory). told (number_at l 0) (number_at l 1) p x.0) g;
  memory = d.memory ∙ ap (λ (x : Reply × Memory). x.1) g;
  marks = λ z. d.marks (e ∙ z);
  refused = λ n. d.refused (λ z. n (sym e ∙ z));
}

module _ (m : Memory) (p : ℕ) (o : Order) (v : List ℕ) where
  abbrev answer : ℕ → Reply × Memory
  answer k = cond (eqb k 0) (obeyed m (record { 0 = p }) o v) (Refused k, m)

  refuses : (k : ℕ) → (k ≡ 0 → ⊥) → answer k ≡ (Refused k, m)
  refuses k n = ap (λ b. cond b (obeyed m (record { 0 = p }) o v) (Refused k, m)) (ne_eqb k 0 n)

  obeys : (k : ℕ) → k ≡ 0 → answer k ≡ obeyed m (record { 0 = p }) o v
  obeys k e = ap (λ b. cond b (obeyed m (record { 0 = p }) o v) (Refused k, m)) (eq-eqb k 0 e)

  near_refuses : (k : ℕ) → k ≡ near_refusal m p o v → (k ≡ 0 → ⊥) → near_command m p o v ≡ (Refused k, m)
  unfolding near_command
  near_refuses k e n = ap answer (sym e) ∙ refuses k n

  near_obeys : near_refusal m p o v ≡ 0 → near_command m p o v ≡ obeyed m (record { 0 = p }) o v
  unfolding near_command
  near_obeys e = obeys (near_refusal m p o v) e

  held_refuses : (k : ℕ) → k ≡ held_refusal m p o v → (k ≡ 0 → ⊥) → held_command m p o v ≡ (Refused k, m)
  unfolding held_command
  held_refuses k e n = ap answer (sym e) ∙ refuses k n

module _ {l : List ℕ} {p : ℕ} {o : Order} {v : List ℕ} {t : Told} {l' : List ℕ} where
  -- a refusal that leaves every number
  refused_by : {r : Memory → ℕ → Order → List ℕ → ℕ} {f : Memory → ℕ → Order → List ℕ → Reply × Memory} (k : ℕ) → f (memory_of l) p o v ≡ (Refused k, memory_of l)
      → (r (memory_of l) p o v ≡ 0 → ⊥) → t ≡ told_with k 0 false 0 0 → l' ≡ l → DoneBy r f l p o v t l'
  refused_by k r n a b = record {
    answer = a ∙ ap (λ (x : Reply × Memory). told (number_at l 0) (number_at l 1) p x.0) (sym r);
    memory = ap memory_of b ∙ ap (λ (x : Reply × Memory). x.1) (sym r);
    marks = λ z. absurd (n z);
    refused = λ z. b;
  }

  is_stepped : DoneBy near_refusal near_command l p o v t l' → SteppedTo l p o v t l'
  is_stepped d = record {
    near = d;
    command = λ h. done_as (near_refusal_is (memory_of l) (memory_shaped l) h p o v) (near_command_is (memory_of l) (memory_shaped l) h p o v) d;
  }

  is_commanded : DoneBy held_refusal held_command l p o v t l' → Commanded l p o v t l'
  is_commanded d = record { held = d; command = λ h. done_as (held_refusal_is (memory_of l) p o v h) (held_command_is (memory_of l) p o v h) d }

  pub step_refused : (k : ℕ) → k ≡ near_refusal (memory_of l) p o v → (k ≡ 0 → ⊥) → t ≡ told_with k 0 false 0 0 → l' ≡ l → SteppedTo l p o v t l'
  step_refused k e n a b = is_stepped (refused_by k (near_refuses (memory_of l) p o v k e n) (λ z. n (e ∙ z)) a b)

  pub step_done : (reply : Reply) → near_refusal (memory_of l) p o v ≡ 0 → (reply, memory_of l') ≡ obeyed (memory_of l) (record { 0 = p }) o v
      → t ≡ told (number_at l 0) (number_at l 1) p reply → MarksAfter l l' p → SteppedTo l p o v t l'
  step_done reply e d a marks =
      let r : (reply, memory_of l') ≡ near_command (memory_of l) p o v = d ∙ sym (near_obeys (memory_of l) p o v e) in
      is_stepped (record {
        answer = a ∙ ap (λ (x : Reply × Memory). told (number_at l 0) (number_at l 1) p x.0) r;
        memory = ap (λ (x : Reply × Memory). x.1) r;
        marks = λ z. marks;
        refused = λ n. absurd (n e);
      })

  pub command_refused : (k : ℕ) → k ≡ memory_number l → (k ≡ 0 → ⊥) → t ≡ told_with k 0 false 0 0 → l' ≡ l → Commanded l p o v t l'
  command_refused k e n a b =
      let z = memory_refuses l p o v k e n in
      is_commanded (refused_by k (held_refuses (memory_of l) p o v k z n) (λ x. n (z ∙ x)) a b)

  pub command_passed : memory_number l ≡ 0 → SteppedTo l p o v t l' → Commanded l p o v t l'
  command_passed e d =
      let h = memory_passes l e in
      let z = near_is_held (memory_of l) (memory_shaped l) h p o v in
      is_commanded (done_as z.0 z.1 d.near)
