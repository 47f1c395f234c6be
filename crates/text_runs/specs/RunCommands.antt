-- The commands of a text run, as a list: what is said of the answers of every list of commands is so said of every text
-- (01: "An entry is one command; `!` is an entry for each of its steps.").
use Rattle.std.specs.Prelude.{ℕ, ◌≤◌, ◌≡◌, List, [], ◌∷◌, ◌++◌, Bool, false, cond, eqb, length}
use Rattle.std.proofs.lemmas.List.Edits.{sets}
use Rattle.llsc.specs.History.{Command, after_all}
use Rattle.listing.specs.Lines.{end_line, refused_line}
use Rattle.text_runs.specs.Machines.{Machine}
use Rattle.text_runs.specs.TextRun.{Ended, most_entries}

module _ (M : Machine) where
  -- the reply to one command, and the memory that it leaves
  abbrev pub obeying : M.Memory → Command → M.Reply × M.Memory
  obeying m c = M.command m c.process c.order c.value

  abbrev pub next : M.Memory → Command → M.Memory
  next m c = (obeying m c).1

  -- "After a refused entry nothing more runs.": none of these commands is refused
  abbrev pub Accepted : M.Memory → List Command → Type 0
  Accepted m [] = Unit {0}
  Accepted m (c ∷ cs) = (M.number_of (obeying m c).0 ≡ 0) × Accepted (next m c) cs

  -- "The listing has a line for each answer": the lines of their answers, in their order
  abbrev pub answer_lines : M.Memory → List Command → List ℕ
  answer_lines m [] = []
  answer_lines m (c ∷ cs) = M.line_of (next m c) c.process (obeying m c).0 ++ answer_lines (next m c) cs

  -- "The last line is `end E` or `refused C E`"
  abbrev pub final_line : Ended M → List ℕ
  final_line r = cond (eqb r.number 0) (end_line r.entries) (refused_line r.number r.entries)

-- r is what a run on the memory m that its set-up left has come to, with a trace or without, by these commands:
-- "E being the commands carried out, each step of `!` counted", and "60,000 entries already done" refuse one more.
pub record Carries (M : Machine) (traced : Bool) (m : M.Memory) (listing : List ℕ) (r : Ended M) : Type 0 where
  pub commands : List Command
  pub accepted : Accepted M m commands
  pub count : length commands ≡ r.entries
  pub most : length commands ≤ most_entries
  pub memory : r.memory ≡ after_all (next M) m commands
  -- "Bytes after the last line stay."
  pub lines : traced ≡ false → r.listing ≡ sets listing 0 (answer_lines M m commands ++ final_line M r)
