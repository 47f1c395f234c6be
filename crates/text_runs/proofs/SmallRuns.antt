-- Text runs by computation, on a machine of one process whose every call takes two steps.
use mathlib.Core.Path.{◌≡◌, refl}
use mathlib.Core.Bool.{Bool, true, false, cond}
use mathlib.Core.List.{List, [], ◌∷◌, ◌++◌}
use Prim.Native.Nat.{ℕ, zero, suc}
use lib.Dec.{eqb}
use lib.ListN.{replicate, take}
use Rattle.llsc.specs.declared.Order.{Order}
use Rattle.llsc.specs.declared.Order.TheVariants as order
use Rattle.notation.specs.declared.Entry.{Entry}
use Rattle.notation.specs.declared.Entry.TheVariants.{StartLl, Step, Finish}
use Rattle.listing.specs.Quoted.{quoted}
use Rattle.listing.specs.Decimal.{digits, decimal}
use Rattle.listing.specs.Lines.{end_line, refused_line}
use Rattle.trace_parts.specs.TraceParts.{spaced, head_text, start_text, start_line}
use Rattle.text_runs.specs.Machines.{Machine}
use Rattle.text_runs.specs.TextRun.{Ended, single, steps, carry, carry_all, begun, ended}
use Rattle.positions.specs.declared.StopReport.TheVariants.{AtItem}
use Rattle.text_runs.specs.StopPlaces.{stop_index, item_report}

-- the steps that the open call has left, 0 where there is none: a start, and a step
start : ℕ → (ℕ × Bool) × ℕ
start zero = ((0, false), 2)
start (suc k) = ((5, false), suc k)

step : ℕ → (ℕ × Bool) × ℕ
step zero = ((6, false), 0)
step (suc k) = ((0, eqb k 0), k)

obeyed : Order → ℕ → (ℕ × Bool) × ℕ
obeyed order.StartLl m = start m
obeyed order.StartSc m = start m
obeyed order.StartVl m = start m
obeyed order.Step m = step m

abbrev two_steps : Machine
two_steps = record {
  Memory = ℕ;
  Reply = ℕ × Bool;
  set_up = λ m n w v. (0, 0);
  command = λ m p o v. cond (eqb p 0) (obeyed o m) ((4, false), m);
  width = λ m. 1;
  idle = λ m p. eqb m 0;
  number_of = λ r. r.0;
  answers = λ r. r.1;
  line_of = λ m p r. cond r.1 (quoted "a\n") [];
  Shown = ℕ;
  shows = λ m p. m;
  step_line = λ k p a t. decimal k ++ (quoted " " ++ (decimal a ++ cond t (quoted " answers ") (quoted "\n")));
}

-- what a run of these entries comes to: its number, the entries done, and the bytes written
record Outcome : Type 0 where
  number : ℕ
  entries : ℕ
  bytes : List ℕ

run : Bool → List Entry → Outcome
run t es =
    let r : Ended two_steps = ended two_steps (carry_all two_steps es (begun two_steps t 0 (replicate 900 0) 0)) in
    record { number = r.number; entries = r.entries; bytes = take r.written r.listing }

-- "`!` is steps until the call answers, at least one"
until_it_answers : run false (StartLl 0 ∷ Finish 0 ∷ StartLl 0 ∷ []) ≡ record { number = 0; entries = 4; bytes = quoted "a\nend 4\n" }
unfolding run start step obeyed carry_all carry steps single end_line refused_line decimal digits
until_it_answers = refl

-- "at least one": at an idle process it is a step, which is refused; "After a refused entry nothing more runs."
a_step_at_least : run false (Finish 0 ∷ StartLl 0 ∷ []) ≡ record { number = 6; entries = 0; bytes = quoted "refused 6 0\n" }
unfolding run start step obeyed carry_all carry steps single end_line refused_line decimal digits
a_step_at_least = refl

-- a refused entry is not counted
not_counted : run false (StartLl 0 ∷ Step 0 ∷ StartLl 0 ∷ Step 0 ∷ []) ≡ record { number = 5; entries = 2; bytes = quoted "refused 5 2\n" }
unfolding run start step obeyed carry_all carry steps single end_line refused_line decimal digits
not_counted = refl

-- a trace shows each step in the memory that its command found
traced : run true (StartLl 0 ∷ Finish 0 ∷ []) ≡ record { number = 0; entries = 3; bytes = quoted "1 0 start L\n2 2\n3 1 answers a\nend 3\n" }
unfolding run start step obeyed carry_all carry steps single end_line refused_line decimal digits start_line head_text spaced start_text
traced = refl

-- the item whose entry stopped the run: its place and its process
stopped_at_lem : item_report two_steps 1 1 (StartLl 0 ∷ Finish 0 ∷ StartLl 3 ∷ Step 0 ∷ []) (7 ∷ 8 ∷ 9 ∷ 10 ∷ []) (begun two_steps false 0 (replicate 900 0) 0)
    ≡ AtItem (record { n = 1; w = 1 }) (record { place = 9; process = 3 })
unfolding start step obeyed carry_all carry steps single stop_index
stopped_at_lem = refl
