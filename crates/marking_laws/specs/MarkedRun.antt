-- What `swaps` prints of a text run (CR 13): before the line of each accepted entry a mark, which comes exactly where
-- its command and the one before it meet `commute`'s condition; and then the two could change places.
use Rattle.std.specs.Prelude.{◌≡◌, ◌≢◌, ℕ, ◌+◌, ◌≤◌, List, [], ◌++◌, true, length, take, replicate}
use Rattle.llsc.specs.History.{Command}
use Rattle.model.specs.Machine.{Memory, Shaped}
use Rattle.model.specs.Command.{command}
use Rattle.model.specs.SetUp.{set_up}
use Rattle.model.specs.History.{next}
use Rattle.doings.specs.Doings.{Apart}
use Rattle.commuting_laws.specs.OnTheBench.{Admitted, bench_does, BenchSwapped}
use Rattle.notation.specs.declared.Entry.{Entry}
use Rattle.notation.specs.Grammar.{Said, deepest}
use Rattle.notation.specs.Right.{Tells}
use Rattle.listing.specs.Quoted.{quoted}
use Rattle.text_runs.specs.TextRun.{most_entries, process_of, order_of, value_of}
use Rattle.text_model.specs.TextRun.{Progress, line_of, trace_line, carry_all, Ended, last_line, begun, ended, trace_text}
use Rattle.marking.specs.Marked.{marked}

-- the command of an entry that finds the memory m; `!` is an entry for each of its steps
abbrev pub command_of : Memory → Entry → Command
command_of m e = record { process = process_of e; order = order_of e; value = value_of m.bench.w e }

-- the trace's line of the k-th accepted entry, with the listing's own line where it answers (`TextRun.lines_of`)
abbrev pub line_at : ℕ → Memory → Entry → List ℕ
line_at k m e =
    trace_line k m e (command m (process_of e) (order_of e) (value_of m.bench.w e)).0
    ++ line_of (next m (command_of m e)) (process_of e) (command m (process_of e) (order_of e) (value_of m.bench.w e)).0

-- what an entry comes after: nothing, or an accepted entry, with the memory that it found
pub data Before : Type 0 where
  first : Before
  after : Memory → Entry → Before

-- "two neighbouring accepted commands of different processes, with no item in common or both only looking"
abbrev pub MayChange : Before → Memory → Entry → Type 0
MayChange first m e = ⊥
MayChange (after m₀ e₀) m e = (process_of e₀ ≢ process_of e) × Apart (bench_does m₀ (command_of m₀ e₀)) (bench_does m (command_of m e))

-- ".. leave the same memory and give the same two answers in either order"
abbrev pub Changed : Before → Memory → Entry → Type 0
Changed first m e = ⊥
Changed (after m₀ e₀) m e = BenchSwapped m₀ (command_of m₀ e₀) (command_of m e)

-- the mark comes where the condition P holds, and then Q does; else two spaces come
pub data Mark (P Q : Type 0) : List ℕ → Type 0 where
  swap : P → Q → Mark P Q (quoted "~ ")
  stay : (P → ⊥) → Mark P Q (quoted "  ")

-- A run from the memory m₀ on: after k accepted entries it is at m, its trace has these bytes and the marked trace
-- those. Each entry finds the memory that the one before it left.
pub data Printed (m₀ : Memory) : ℕ → Memory → Before → List ℕ → List ℕ → Type 0 where
  begins : Printed m₀ 0 m₀ first [] []
  line : {k : ℕ} {m : Memory} {before : Before} {trace out : List ℕ} → Printed m₀ k m before trace out
      → (e : Entry) → Admitted m (command_of m e)
      → {mark : List ℕ} → Mark (MayChange before m e) (Changed before m e) mark
      → Printed m₀ (k + 1) (next m (command_of m e)) (after m e) (trace ++ line_at (k + 1) m e) (out ++ (mark ++ line_at (k + 1) m e))

-- the bytes that a run has written
abbrev pub written_by : Ended → List ℕ
written_by r = take r.written r.listing

-- A run of entries that began at m₀, at its end: the last line has no mark.
pub record MarkedRun (m₀ : Memory) (s : Progress) : Type 0 where
  pub before : Before
  pub trace : List ℕ
  pub out : List ℕ
  pub printed : Printed m₀ s.entries s.memory before trace out
  pub few : s.entries ≤ most_entries
  pub written : written_by (ended s) ≡ trace ++ last_line s
  pub marks : marked (written_by (ended s)) ≡ out ++ (quoted "  " ++ last_line s)

-- a run that is refused before its first entry has only the last line, without a mark
pub record OnlyLast (m : Memory) (listing : List ℕ) (r : Ended) : Type 0 where
  pub number : ℕ
  pub is : r ≡ ended (begun true m listing number)
  pub written : written_by r ≡ last_line (begun true m listing number)
  pub marks : marked (written_by r) ≡ quoted "  " ++ last_line (begun true m listing number)

abbrev pub initial_of : Said → List ℕ
initial_of a = replicate a.w a.initial

-- the run of a text that says `a`, after its set-up
abbrev pub ready_for : Memory → Said → Memory
ready_for m a = (set_up m a.n a.w (initial_of a)).1

abbrev pub carried_from : Memory → List ℕ → Said → Progress
carried_from m listing a = carry_all a.entries (begun true (ready_for m a) listing 0)

pub data MarkedOutput (m : Memory) (text listing : List ℕ) : Ended → Type 0 where
  refused : {r : Ended} → OnlyLast m listing r → MarkedOutput m text listing r
  ran : (a : Said) → Tells deepest text a → (set_up m a.n a.w (initial_of a)).0 ≡ 0 → MarkedRun (ready_for m a) (carried_from m listing a)
      → MarkedOutput m text listing (ended (carried_from m listing a))

-- of every text, on every lent memory
abbrev pub EveryTextIsMarked : Type 0
EveryTextIsMarked =
    (m : Memory) → Shaped m → (text listing : List ℕ) → 872 ≤ length listing
    → MarkedOutput m text listing (trace_text m text listing)

-- It is at most 2 times 60,001 bytes longer than the trace: `swaps` lends as many more.
abbrev pub MarkedFits : Type 0
MarkedFits =
    (m : Memory) → Shaped m → (text listing : List ℕ) → 872 ≤ length listing → let trace = written_by (trace_text m text listing) in
    length (marked trace) ≤ length trace + 120002
