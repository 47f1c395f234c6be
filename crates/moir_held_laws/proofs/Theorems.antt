-- Every list that a set-up and commands reached is in range, so that there a step is the command.
use mathlib.Core.Path.{◌≡◌, refl, sym, ap, subst, ◌∙◌}
use mathlib.Core.Bool.{Bool, true, false, not, cond}
use mathlib.Core.List.{List, [], ◌∷◌, ◌++◌}
use Prim.Native.Nat.{ℕ}
use lib.ListN.{length}
use Rattle.llsc.specs.declared.Order.TheVariants.{Step}
use Rattle.llsc.specs.History.{Command}
use Rattle.llsc.specs.Rows.{first, row1, row2, NotLentMemory}
use Rattle.moir_model.specs.Records.{record_at}
use Rattle.moir_model.specs.Machine.{Memory}
use Rattle.moir_model.specs.Refusals.{in_range, row3, process_rows}
use Rattle.moir_model.specs.Command.{refusal, command}
use Rattle.moir_model.specs.SetUp.{set_up}
use Rattle.moir_model.specs.History.{next}
use Rattle.moir_linearization.specs.After.{after}
use Rattle.moir_linearization.proofs.Theorems.{never_for_its_own_doing}
use Rattle.moir_held_model.specs.declared.Told.{Told}
use Rattle.moir_held_model.specs.Memory.{memory_of}
use Rattle.moir_held_model.specs.Ranges.{tags_ok, held_in_range}
use Rattle.moir_held_model.specs.HeldCommand.{DoneBy, Commanded}
use Rattle.moir_held_model.proofs.MemoryLaws.{memory_shaped}
use Rattle.moir_held_model.proofs.RangeLaws.{range_is, held_refusal_is, held_command_is}
use Rattle.moir_held_machine.proofs.SteppingLaws.{done_as}
use Rattle.moir_held_laws.specs.Reached.{Reached, SetUpReaches, InRangeOnceReached, CommandIsTheBenchs, CommandReaches, StepIsCommand}
use Rattle.moir_held_laws.proofs.TagsFit.{tags_fit}

-- where the first row that holds is none of 1, 2, 3 and 9, row 9 does not hold
passes : (a b d t : Bool) (rest : ℕ) → NotLentMemory (cond a 1 (cond b 2 (cond d 3 (cond (not t) 9 rest)))) → t ≡ true
passes true b d t rest n = absurd (n.not_1 refl)
passes false true d t rest n = absurd (n.not_2 refl)
passes false false true t rest n = absurd (n.not_3 refl)
passes false false false true rest n = refl
passes false false false false rest n = absurd (n.not_9 refl)

abbrev nobody : Command
nobody = record { process = 0; order = Step; value = [] }

module _ (m : Memory) where
  late : ℕ
  late = first (process_rows m.bench.n m.bench.w 0 Step 0 (record_at m.records (record { 0 = 0 })))

  in_range_by : NotLentMemory (refusal m 0 Step []) → in_range m ≡ true
  unfolding refusal late
  in_range_by n =
      passes (row1 m.bench.n).holds (row2 m.bench.w).holds (row3 m.bench.n m.bench.w (length m.records) (length m.words)).holds (in_range m) late n

module _ (l : List ℕ) (h : Reached l) where
  tags_low : tags_ok (memory_of l) ≡ true
  tags_low = ap tags_ok h.left ∙ tags_fit h.before h.n h.w h.value h.commands h.accepted

  ranges : in_range (memory_of l) ≡ true
  ranges =
      ap in_range h.left
      ∙ in_range_by (after (set_up h.before h.n h.w h.value).1 h.commands)
      (never_for_its_own_doing h.before h.shaped h.n h.w h.value h.commands h.accepted nobody)

  all_in_range : held_in_range (memory_of l) ≡ true
  all_in_range = range_is (memory_of l) tags_low ∙ ranges

pub in_range_once_reached : InRangeOnceReached
in_range_once_reached l h = all_in_range l h

pub command_is_the_benchs : CommandIsTheBenchs
command_is_the_benchs l l' c t h d = d.command (tags_low l h)

-- one command more at the end of a list
one_more : (m : Memory) (cs : List Command) (c : Command) → after m (cs ++ (c ∷ [])) ≡ next (after m cs) c
unfolding after
one_more m [] c = refl
one_more m (d ∷ cs) c = one_more (next m d) cs c

pub command_reaches : CommandReaches
command_reaches l l' c t h d =
    let m = (set_up h.before h.n h.w h.value).1 in
    record {
      before = h.before;
      shaped = h.shaped;
      n = h.n;
      w = h.w;
      value = h.value;
      commands = h.commands ++ (c ∷ []);
      accepted = h.accepted;
      left =
          (command_is_the_benchs l l' c t h d).memory ∙ ap (λ (x : Memory). next x c) h.left ∙ sym (one_more m h.commands c);
    }

pub step_is_command : StepIsCommand
step_is_command l l' c t h d =
    let e : DoneBy refusal command l c.process c.order c.value t l' = d.command (all_in_range l h) in
    let m = memory_of l in
    let z : Commanded l c.process c.order c.value t l' = record {
      held = done_as (sym (held_refusal_is m c.process c.order c.value (tags_low l h))) (sym (held_command_is m c.process c.order c.value (tags_low l h))) e;
      command = λ _. e;
    } in
    (z, command_reaches l l' c t h z)

pub set_up_reaches : SetUpReaches
unfolding after
set_up_reaches l l' n w value d = record {
  before = memory_of l;
  shaped = memory_shaped l;
  n = n;
  w = w;
  value = value;
  commands = [];
  accepted = sym (ap (λ (x : ℕ × Memory). x.0) d.done);
  left = ap (λ (x : ℕ × Memory). x.1) d.done;
}
