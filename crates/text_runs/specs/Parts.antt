-- The parts of a text run that every bench has, as its code does them.
-- Inner: they are those of `TextRun`'s run.
use Rattle.std.specs.Prelude.{ℕ, List, [], Bool, cond, eqb, ltb, leb, Option, Some, None, Result, Ok, Err}
use Rattle.llsc.specs.declared.refusals.Refusal.{Refusal}
use Rattle.llsc.specs.declared.refusals.Refusal.TheVariants.{TooMuch, NoRoom}
use Rattle.listing.specs.Lines.{end_line, refused_line}
use Rattle.notation.specs.declared.Entry.{Entry}
use Rattle.trace_parts.specs.TraceParts.{step_line}
use Rattle.text_runs.specs.TextRun.{most_entries, line_by}

-- "before each entry 12, then 14"
abbrev pub before_entry : ℕ → ℕ → ℕ → Result (Unit {0}) Refusal
before_entry entries room needed = cond (leb most_entries entries) (Err TooMuch) (cond (ltb room needed) (Err NoRoom) (Ok tt))

-- "The last line is `end E` or `refused C E`"
abbrev pub last_text : ℕ → ℕ → List ℕ
last_text stop entries = cond (eqb stop 0) (end_line entries) (refused_line stop entries)

-- the trace's line of an accepted entry, none where no access is shown
abbrev pub shown_line : {A : Type 0} → (A → List ℕ) → ℕ → Option A → Entry → Bool → List ℕ
shown_line shown k (Some a) e answered = line_by (step_line shown) k a e answered
shown_line shown k None e answered = []
