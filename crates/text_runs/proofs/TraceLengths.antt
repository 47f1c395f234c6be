-- How long the trace's line of an entry is: at most the 128 bytes that a trace keeps beside the listing's line.
use Prim.Native.Nat.{ℕ, ◌≤◌}
use mathlib.Core.List.{List}
use mathlib.Core.Bool.{Bool}
use lib.ListN.{length}
use Rattle.notation.specs.declared.Entry.{Entry}
use Rattle.notation.specs.declared.Entry.TheVariants.{StartLl, StartVl, StartSc, Step, Finish}
use Rattle.notation.specs.Stretches.{Small}
use Rattle.trace_parts.specs.declared.Start.TheVariants as call
use Rattle.trace_parts.specs.TraceParts.{step_line}
use Rattle.trace_parts.proofs.Lengths.{start_length, step_length}
use Rattle.text_runs.specs.TextRun.{most_entries, line_by}

-- what is shown of a step has at most 103 bytes
pub line_length : {A : Type 0} (shown : A → List ℕ) (k : ℕ) (a : A) (e : Entry) (answered : Bool)
    → k ≤ most_entries → Small e → length (shown a) ≤ 103 → length (line_by (step_line shown) k a e answered) ≤ 128
line_length shown k a (StartLl p) t h s x = start_length k p call.Ll h s tt
line_length shown k a (StartVl p) t h s x = start_length k p call.Vl h s tt
line_length shown k a (StartSc p v) t h s x = start_length k p (call.Sc v) h s.0 s.1
line_length shown k a (Step p) t h s x = step_length shown k p a t h s x
line_length shown k a (Finish p) t h s x = step_length shown k p a t h s x
