-- Runs for so many commands, by computation, on a machine that counts its commands: a call answers at each fifth, and process 1
-- is refused.
use mathlib.Core.Path.{◌≡◌, refl}
use mathlib.Core.List.{List, [], ◌∷◌, map}
use mathlib.Core.Bool.{Bool, false, cond}
use Prim.Native.Nat.{ℕ, ◌+◌, ◌%◌}
use Prim.Native.String.{String}
use lib.Dec.{eqb}
use Rattle.notation.specs.Bytes.{kind_of}
use Rattle.notation.specs.Grammar.{times}
use Rattle.notation.specs.Scan.{on_digit, more, move, said, at_end, go, scan}
use Rattle.notation.specs.FirstLine.{starting, inside, step, whole, proceed, read_from, read}
use Rattle.notation.proofs.ReadingLaws.{reader}
use Rattle.listing.specs.Quoted.{quoted}
use Rattle.trace_parts.specs.TraceParts.{step_line}
use Rattle.text_runs.specs.Machines.{Machine}
use Rattle.text_runs.specs.TextRun as T
use Rattle.text_runs.specs.TextRun.{run_with}
use Rattle.held_text_model.specs.declared.Unseen.{Unseen}
use Rattle.held_text_model.specs.Upto.{nothing_shown, quiet, upto}

abbrev counter : Machine
counter = record {
  Memory = ℕ;
  Reply = ℕ;
  set_up = λ m n w v. (0, 0);
  command = λ m p o v. cond (eqb p 1) (4, m) (0, m + 1);
  width = λ m. 1;
  idle = λ m p. eqb (m % 5) 0;
  number_of = λ k. k;
  answers = λ k. false;
  line_of = λ m p k. [];
  Shown = Unseen;
  shows = λ m p. record { process = p };
  step_line = step_line nothing_shown;
}

-- a text that is run for so many commands, on a memory of 9: the number of what ends the run, its commands, how many are left,
-- and the memory
record Counted : Type 0 where
  text : String
  most : ℕ
  number : ℕ
  entries : ℕ
  left : ℕ
  memory : ℕ

counted : Counted → Counted
counted c =
    let e = run_with (upto counter) reader false (c.most, 9) (quoted c.text) quiet in
    record { text = c.text; most = c.most; number = e.number; entries = e.entries; left = e.memory.0; memory = e.memory.1 }

runs : List Counted
runs =
    -- one command more than are asked for is 12: before the first, between two entries, within `!`
    record { text = "2 1 5\n0l 0! 0."; most = 0; number = 12; entries = 0; left = 0; memory = 0 } ∷
    record { text = "2 1 5\n0l 0! 0."; most = 1; number = 12; entries = 1; left = 0; memory = 1 } ∷
    record { text = "2 1 5\n0l 0! 0."; most = 3; number = 12; entries = 3; left = 0; memory = 3 } ∷
    record { text = "2 1 5\n0l 0! 0."; most = 5; number = 12; entries = 5; left = 0; memory = 5 } ∷
    -- the end, with none left and with one
    record { text = "2 1 5\n0l 0! 0."; most = 6; number = 0; entries = 6; left = 0; memory = 6 } ∷
    record { text = "2 1 5\n0l 0! 0."; most = 7; number = 0; entries = 6; left = 1; memory = 6 } ∷
    -- 12 before the command's own refusal, which is none of them
    record { text = "2 1 5\n0l 1l 0l"; most = 1; number = 12; entries = 1; left = 0; memory = 1 } ∷
    record { text = "2 1 5\n0l 1l 0l"; most = 2; number = 4; entries = 1; left = 1; memory = 1 } ∷
    -- a wrong text leaves all as it was
    record { text = "2 1 5\n0l )"; most = 2; number = 10; entries = 0; left = 2; memory = 9 } ∷
    []

counted_runs : map counted runs ≡ runs
unfolding counted runs T.run_with read read_from proceed step starting inside whole scan go move said more on_digit at_end kind_of times
    T.carry_all T.carry T.steps T.single
counted_runs = refl
