-- The meaning of a text run (01, "When the bench says no" and "Schedule text and listing"), on any machine and with any
-- reader of texts, in two styles: the listing, and the trace, which has a line for each accepted command.
use Rattle.std.specs.Prelude.{ℕ, zero, suc, ◌+◌, ◌-◌, List, [], ◌∷◌, ◌++◌, Bool, not, ◌&&◌, cond, eqb, ltb, leb, length, replicate}
use Rattle.std.proofs.lemmas.List.Edits.{sets}
use Rattle.llsc.specs.declared.Order.{Order}
use Rattle.llsc.specs.declared.Order.TheVariants
use Rattle.notation.specs.declared.Entry.{Entry}
use Rattle.notation.specs.declared.Entry.TheVariants.{StartLl, StartVl, StartSc, Step, Finish}
use Rattle.notation.specs.Grammar.{Said}
use Rattle.notation.specs.Readings.{Reading, right, wrong, Reader}
use Rattle.listing.specs.Lines.{end_line, refused_line}
use Rattle.trace_parts.specs.declared.Start.TheVariants as call
use Rattle.trace_parts.specs.TraceParts.{start_line}
use Rattle.text_runs.specs.Machines.{Machine}

-- "60,000 entries already done", "listing room left under 744 bytes", "text over 16,384 bytes"
abbrev pub most_entries : ℕ
most_entries = 60000

-- a trace needs 128 bytes more
abbrev pub room_needed : Bool → ℕ
room_needed t = cond t 128 0 + 744

abbrev pub longest_text : ℕ
longest_text = 16384

-- an entry that is one command: its process, its order, and its value ("The value k has k in all W words.")
abbrev pub process_of : Entry → ℕ
process_of (StartLl p) = p
process_of (StartVl p) = p
process_of (StartSc p k) = p
process_of (Step p) = p
process_of (Finish p) = p

abbrev pub order_of : Entry → Order
order_of (StartLl p) = TheVariants.StartLl
order_of (StartVl p) = TheVariants.StartVl
order_of (StartSc p k) = TheVariants.StartSc
order_of (Step p) = TheVariants.Step
order_of (Finish p) = TheVariants.Step

abbrev pub value_of : ℕ → Entry → List ℕ
value_of w (StartLl p) = []
value_of w (StartVl p) = []
value_of w (StartSc p k) = replicate w k
value_of w (Step p) = []
value_of w (Finish p) = []

-- the trace's line for entry k: a start with its letter, or a step with its access, which such a line shows
abbrev pub line_by : {A : Type 0} → (ℕ → ℕ → A → Bool → List ℕ) → ℕ → A → Entry → Bool → List ℕ
line_by step_line k a (StartLl p) answered = start_line k p call.Ll
line_by step_line k a (StartVl p) answered = start_line k p call.Vl
line_by step_line k a (StartSc p v) answered = start_line k p (call.Sc v)
line_by step_line k a (Step p) answered = step_line k p a answered
line_by step_line k a (Finish p) answered = step_line k p a answered

-- A run in progress: the lent memory, the listing, how many of its bytes are written, the entries done, the number of
-- the refusal that stopped it, 0 while it goes on, and whether it writes a trace.
pub record Progress (M : Machine) : Type 0 where
  pub memory : M.Memory
  pub listing : List ℕ
  pub written : ℕ
  pub entries : ℕ
  pub stop : ℕ
  pub traced : Bool

-- "Every text run returns a number (0 at `end`), the entries done and the count of listing bytes written."
pub record Ended (M : Machine) : Type 0 where
  pub number : ℕ
  pub entries : ℕ
  pub written : ℕ
  pub memory : M.Memory
  pub listing : List ℕ

module _ (M : Machine) where
  abbrev pub stopped : ℕ → Progress M → Progress M
  stopped k s = record { memory = s.memory; listing = s.listing; written = s.written; entries = s.entries; stop = k; traced = s.traced }

  -- the trace's line for entry k, on this machine
  abbrev pub entry_line : ℕ → M.Shown → Entry → M.Reply → List ℕ
  entry_line k a e r = line_by M.step_line k a e (M.answers r)

  -- the same from the memory before the command
  abbrev pub trace_line : ℕ → M.Memory → Entry → M.Reply → List ℕ
  trace_line k m e r = entry_line k (M.shows m (process_of e)) e r

  -- what an accepted command adds: in a trace its line, and in both styles the line of its answer
  abbrev pub lines_of : Progress M → Entry → M.Reply × M.Memory → List ℕ
  lines_of s e out = cond s.traced (trace_line (s.entries + 1) s.memory e out.0) [] ++ M.line_of out.1 (process_of e) out.0

  -- what a reply makes of the run: "After a refused entry nothing more runs."; else one entry more, with its lines
  abbrev pub counted : Progress M → M.Memory → List ℕ → Progress M
  counted s m lines = record { memory = m; listing = sets s.listing s.written lines; written = s.written + length lines; entries = s.entries + 1; stop = 0; traced = s.traced }

  abbrev pub replied : Progress M → Entry → M.Reply × M.Memory → Progress M
  replied s e out = cond (eqb (M.number_of out.0) 0) (counted s out.1 (lines_of s e out)) (stopped (M.number_of out.0) s)

  abbrev pub commanded : Entry → Progress M → Progress M
  commanded e s = replied s e (M.command s.memory (process_of e) (order_of e) (value_of (M.width s.memory) e))

  -- "before each entry 12, then 14"
  unfoldable pub single : Entry → Progress M → Progress M
  single e s =
      cond (eqb s.stop 0)
      (cond (leb most_entries s.entries) (stopped 12 s)
      (cond (ltb (length s.listing - s.written) (room_needed s.traced)) (stopped 14 s)
      (commanded e s)))
      s

  -- "`!` is steps until the call answers, at least one": whether a further step follows
  abbrev pub unanswered : ℕ → Progress M → Bool
  unanswered p s = eqb s.stop 0 && not (M.idle s.memory p)

  -- steps of p until its call answers, `left` of them at the most
  unfoldable pub steps : ℕ → ℕ → Progress M → Progress M
  steps zero p s = s
  steps (suc left) p s = cond (unanswered p (single (Step p) s)) (steps left p (single (Step p) s)) (single (Step p) s)

  -- A recursion needs an end: there is a step for each entry that the run has left, and one that 12 refuses. So this end
  -- is never met, and `!` is steps until the call answers (`until_answered`).
  abbrev pub finish : ℕ → Progress M → Progress M
  finish p s = steps (suc (most_entries - s.entries)) p s

  -- "An entry is one command; `!` is an entry for each of its steps."
  unfoldable pub carry : Entry → Progress M → Progress M
  carry (StartLl p) s = single (StartLl p) s
  carry (StartVl p) s = single (StartVl p) s
  carry (StartSc p k) s = single (StartSc p k) s
  carry (Step p) s = single (Step p) s
  carry (Finish p) s = cond (eqb s.stop 0) (finish p s) s

  unfoldable pub carry_all : List Entry → Progress M → Progress M
  carry_all [] s = s
  carry_all (e ∷ es) s = carry_all es (carry e s)

  -- "The last line is `end E` or `refused C E`", "Bytes after the last line stay."
  abbrev pub last_line : Progress M → List ℕ
  last_line s = cond (eqb s.stop 0) (end_line s.entries) (refused_line s.stop s.entries)

  abbrev pub ended : Progress M → Ended M
  ended s = record { number = s.stop; entries = s.entries; written = s.written + length (last_line s); memory = s.memory; listing = sets s.listing s.written (last_line s) }

  -- a run before its first entry; one that is refused before the set-up has its number at once
  abbrev pub begun : Bool → M.Memory → List ℕ → ℕ → Progress M
  begun t m listing stop = record { memory = m; listing = listing; written = 0; entries = 0; stop = stop; traced = t }

  -- "then 1, 2, 3, then the set-up, then the entries"
  abbrev pub started : Bool → M.Memory → List ℕ → Said → ℕ × M.Memory → Ended M
  started t m listing a prepared = cond (eqb prepared.0 0) (ended (carry_all a.entries (begun t prepared.1 listing 0))) (ended (begun t m listing prepared.0))

  abbrev pub carried_out : Bool → M.Memory → List ℕ → Reading → Ended M
  carried_out t m listing (right a) = started t m listing a (M.set_up m a.n a.w (replicate a.w a.initial))
  carried_out t m listing (wrong k left) = ended (begun t m listing k)

  -- "A text run takes 14 at its start, then 12 for length, then 10 and 11 over the whole text"; "A refusal 14 at the
  -- start writes nothing."
  unfoldable pub run_with : Reader → Bool → M.Memory → List ℕ → List ℕ → Ended M
  run_with r t m text listing =
      cond (ltb (length listing) (room_needed t)) (record { number = 14; entries = 0; written = 0; memory = m; listing = listing })
      (cond (ltb longest_text (length text)) (ended (begun t m listing 12))
      (carried_out t m listing (r.read text)))
