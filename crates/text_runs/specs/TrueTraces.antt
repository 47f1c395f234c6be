-- What a run's trace tells: a run goes on only by entries whose lines are true of their own commands, and may stop.
use Rattle.std.specs.Prelude.{◌≡◌, ℕ, ◌+◌, List, ◌++◌}
use Rattle.std.proofs.lemmas.List.Edits.{sets}
use Rattle.notation.specs.declared.Entry.{Entry}
use Rattle.text_runs.specs.Machines.{Machine}
use Rattle.text_runs.specs.TextRun.{Progress, process_of, order_of, value_of, stopped, trace_line, commanded}

-- the command of an entry, on a run in progress: its reply and the memory after it
abbrev pub outcome : (M : Machine) → Entry → Progress M → M.Reply × M.Memory
outcome M e s = M.command s.memory (process_of e) (order_of e) (value_of (M.width s.memory) e)

-- An accepted entry ("one line for each command"). What it writes is its trace line, made of the memory that its
-- command found, and the line of its answer, if any; and the trace line is true of that memory, the reply and the
-- memory that the command left.
pub record TrueLine (M : Machine) (True : Entry → M.Memory → M.Reply × M.Memory → Type 0) (e : Entry) (s : Progress M) : Type 0 where
  pub accepted : M.number_of (outcome M e s).0 ≡ 0
  pub written : (commanded M e s).listing
      ≡ sets s.listing s.written (trace_line M (s.entries + 1) s.memory e (outcome M e s).0 ++ M.line_of (outcome M e s).1 (process_of e) (outcome M e s).0)
  pub left : (commanded M e s).memory ≡ (outcome M e s).1
  pub truth : True e s.memory (outcome M e s)

-- A run goes from s on only by entries of which `Line` is so, and may stop.
pub data Told (M : Machine) (Line : Entry → Progress M → Type 0) (s : Progress M) : Progress M → Type 0 where
  begins : Told M Line s s
  writes : {t : Progress M} → Told M Line s t → (e : Entry) → Line e t → Told M Line s (commanded M e t)
  stops : {t : Progress M} → Told M Line s t → (k : ℕ) → Told M Line s (stopped M k t)
