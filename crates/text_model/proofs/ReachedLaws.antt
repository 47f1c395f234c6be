-- Memory that a set-up and commands have made: a command keeps it so, and meets none of the rows that speak of the lent memory.
use mathlib.Core.Path.{◌≡◌, refl, sym, ap, subst, ◌∙◌}
use mathlib.Core.List.{List, [], ◌∷◌, ◌++◌}
use mathlib.Core.Bool.{Bool, true, false, cond}
use Prim.Native.Nat.{ℕ}
use lib.ListN.{length}
use Rattle.llsc.specs.declared.Order.{Order}
use Rattle.model.specs.Machine.{Memory, Shaped}
use Rattle.llsc.specs.Rows.{row1, row2, row9}
use Rattle.model.specs.Refusals.{in_range, row3}
use Rattle.model.specs.Command.{refusal, command}
use Rattle.model.specs.SetUp.{set_up}
use Rattle.llsc.specs.History.{Command}
use Rattle.after_commands.specs.After.{after}
use Rattle.llsc.specs.Rows.{NotLentMemory}
use Rattle.linearization.proofs.Theorems.{never_for_its_own_doing}
use Rattle.text_runs.proofs.RunCommands as R
use Rattle.text_model.specs.Reached.{Reached}
use Rattle.text_model.specs.TextRun.{figure2}

-- one command more
pub after_one : (m : Memory) (cs : List Command) (c : Command) → after m (cs ++ c ∷ []) ≡ (command (after m cs) c.process c.order c.value).1
unfolding after
after_one m cs c = R.after_one figure2 m cs c

pub reached_set_up : (m : Memory) → Shaped m → (n w : ℕ) (value : List ℕ) → (set_up m n w value).0 ≡ 0 → Reached (set_up m n w value).1
unfolding after
reached_set_up m s n w value e = record { lent = m; shaped = s; n = n; w = w; value = value; accepted = e; commands = []; is = refl }

unfoldable pub reached_command : {m : Memory} → Reached m → (p : ℕ) (o : Order) (value : List ℕ) → Reached (command m p o value).1
reached_command r p o value = record {
  lent = r.lent;
  shaped = r.shaped;
  n = r.n;
  w = r.w;
  value = r.value;
  accepted = r.accepted;
  commands = r.commands ++ record { process = p; order = o; value = value } ∷ [];
  is = ap (λ (x : Memory). (command x p o value).1) r.is ∙ sym (after_one _ r.commands (record { process = p; order = o; value = value }));
}

-- none of the rows of the lent memory holds
pub record Unhindered (m : Memory) : Type 0 where
  pub row_1 : (row1 m.bench.n).holds ≡ false
  pub row_2 : (row2 m.bench.w).holds ≡ false
  pub row_3 : (row3 m.bench.n m.bench.w (length m.records) (length m.words)).holds ≡ false
  pub row_9 : (row9 (in_range m)).holds ≡ false

passed_1 : (a : Bool) (rest : ℕ) → NotLentMemory (cond a 1 rest) → (a ≡ false) × NotLentMemory rest
passed_1 true rest h = absurd (h.not_1 refl)
passed_1 false rest h = (refl, h)

passed_2 : (a : Bool) (rest : ℕ) → NotLentMemory (cond a 2 rest) → (a ≡ false) × NotLentMemory rest
passed_2 true rest h = absurd (h.not_2 refl)
passed_2 false rest h = (refl, h)

passed_3 : (a : Bool) (rest : ℕ) → NotLentMemory (cond a 3 rest) → (a ≡ false) × NotLentMemory rest
passed_3 true rest h = absurd (h.not_3 refl)
passed_3 false rest h = (refl, h)

passed_9 : (a : Bool) (rest : ℕ) → NotLentMemory (cond a 9 rest) → a ≡ false
passed_9 true rest h = absurd (h.not_9 refl)
passed_9 false rest h = refl

module _ {m : Memory} (r : Reached m) (p : ℕ) (o : Order) (value : List ℕ) where
  clean : NotLentMemory (refusal m p o value)
  clean =
      subst (λ (x : Memory). NotLentMemory (refusal x p o value)) (sym r.is)
      (never_for_its_own_doing r.lent r.shaped r.n r.w r.value r.commands r.accepted
      (record { process = p; order = o; value = value }))

  pub unhindered : Unhindered m
  unfolding refusal
  unhindered =
      let a = passed_1 (row1 m.bench.n).holds _ clean in
      let b = passed_2 (row2 m.bench.w).holds _ a.1 in
      let c = passed_3 (row3 m.bench.n m.bench.w (length m.records) (length m.words)).holds _ b.1 in
      record { row_1 = a.0; row_2 = b.0; row_3 = c.0; row_9 = passed_9 (row9 (in_range m)).holds _ c.1 }
