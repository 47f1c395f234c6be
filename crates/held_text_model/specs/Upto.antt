-- A machine for at most so many commands, which writes no lines of its answers. Beside its memory stands how many commands
-- are left; where none is, one more is refused with 12, as a text's entry after the 60,000th is.
use Rattle.std.specs.Prelude.{ℕ, ◌-◌, List, [], Bool, false, cond, eqb, replicate}
use Rattle.trace_parts.specs.TraceParts.{step_line}
use Rattle.text_runs.specs.Machines.{Machine}
use Rattle.held_text_model.specs.declared.Unseen.{Unseen}

-- room for a run that writes no line of an answer
abbrev pub quiet : List ℕ
quiet = replicate 744 0

-- no access is shown
abbrev pub nothing_shown : Unseen → List ℕ
nothing_shown u = []

module _ (M : Machine) where
  -- a refused command is none of them
  abbrev pub one_less : ℕ → M.Reply × M.Memory → ℕ × (ℕ × M.Memory)
  one_less left out = (M.number_of out.0, (cond (eqb (M.number_of out.0) 0) (left - 1) left, out.1))

  abbrev pub upto : Machine
  upto = record {
    Memory = ℕ × M.Memory;
    Reply = ℕ;
    set_up = λ s n w v. ((M.set_up s.1 n w v).0, (s.0, (M.set_up s.1 n w v).1));
    command = λ s p o v. cond (eqb s.0 0) (12, s) (one_less s.0 (M.command s.1 p o v));
    width = λ s. M.width s.1;
    idle = λ s p. M.idle s.1 p;
    number_of = λ k. k;
    answers = λ k. false;
    line_of = λ s p k. [];
    Shown = Unseen;
    shows = λ s p. record { process = p };
    step_line = step_line nothing_shown;
  }
