-- The mark of a trace's line (CR 13): its command could change places with the command of the line before it.
use Rattle.std.specs.Prelude.{◌≡◌, ◌≢◌, List, [], ℕ, ◌%◌, Bool, true, false, not, ◌&&◌, ◌||◌, eqb, Option, Some, None}
use Rattle.std.specs.Bool.{beq}
use Rattle.llsc.specs.declared.ProcessNumber.{ProcessNumber}
use Rattle.llsc.specs.declared.Order.TheVariants.{Step}
use Rattle.llsc.specs.History.{Command}
use Rattle.model.specs.declared.Process.{Process}
use Rattle.model.specs.Words.{word_of}
use Rattle.model.specs.Points.{point_of, idle}
use Rattle.model.specs.Records.{record_at}
use Rattle.model.specs.Machine.{Memory, Shaped}
use Rattle.model.specs.SetUp.{set_up}
use Rattle.model.specs.History.{next}
use Rattle.after_commands.specs.After.{after}
use Rattle.doings.specs.declared.Item.{Item}
use Rattle.doings.specs.declared.Item.TheVariants.{X, Bank, Help, Half}
use Rattle.doings.specs.Doings.{looks, Touching, nothing, one, Apart}
use Rattle.access.specs.declared.Act.{Act}
use Rattle.access.specs.declared.Act.TheVariants.{Read, Write, Ll, Sc, Vl}
use Rattle.access.specs.declared.Access.{Access}
use Rattle.access.specs.Accesses.{item_of, access_of}
use Rattle.commuting_laws.specs.OnTheBench.{Admitted, bench_does, BenchSwapped}
use Rattle.marking.specs.declared.NamedItem.{NamedItem}
use Rattle.marking.specs.declared.NamedItem.TheVariants as name
use Rattle.marking.specs.declared.Touch.{Touch}
use Rattle.marking.specs.declared.Line.{Line}

-- the name that a trace gives to an item; of the halves of a word the second is the high one
abbrev pub named : Item → NamedItem
named X = name.X
named (Bank i) = name.Bank i.0
named (Help i) = name.Help i.0
named (Half f k) = name.Half (eqb (k % 2) 1) f.0 (word_of k)

-- the line of a start of process p, and of a step that shows the access a
abbrev pub started_line : ℕ → Line
started_line p = record { process = p; touched = None }

abbrev pub only_looks : Act → Bool
only_looks (Read v) = true
only_looks (Write v) = false
only_looks (Ll v) = true
only_looks (Sc t v) = false
only_looks (Vl t i) = true

abbrev pub shown_line : ℕ → Access → Line
shown_line p a = record { process = p; touched = Some (record { item = named (item_of a.act); looks = only_looks a.act }) }

-- one item
abbrev pub same_item : NamedItem → NamedItem → Bool
same_item name.X name.X = true
same_item (name.Bank i) (name.Bank j) = eqb i j
same_item (name.Help i) (name.Help j) = eqb i j
same_item (name.Half h f w) (name.Half h' f' w') = beq h h' && (eqb f f' && eqb w w')
same_item a b = false

-- "with no item in common or both only looking"; a start touches no item
abbrev pub both_apart : Option Touch → Option Touch → Bool
both_apart None u = true
both_apart (Some t) None = true
both_apart (Some t) (Some u) = not (same_item t.item u.item) || (t.looks && u.looks)

abbrev pub apart : Line → Line → Bool
apart a b = both_apart a.touched b.touched

-- "two neighbouring accepted commands of different processes"
abbrev pub may_swap : Option Line → Option Line → Bool
may_swap None b = false
may_swap (Some a) None = false
may_swap (Some a) (Some b) = not (eqb a.process b.process) && apart a b

-- what the line of a command says, if t is what the command does
abbrev pub line_of : ℕ → Touching Item Process → Line
line_of p (nothing out) = started_line p
line_of p (one d) = record { process = p; touched = Some (record { item = named d.item; looks = looks d.act }) }

-- The mark comes exactly where `commute` has its premises.
pub record MeansApart (p q : ℕ) (t u : Touching Item Process) : Type 0 where
  pub marked : may_swap (Some (line_of p t)) (Some (line_of q u)) ≡ true → (p ≢ q) × Apart t u
  pub unmarked : may_swap (Some (line_of p t)) (Some (line_of q u)) ≡ false → p ≢ q → Apart t u → ⊥

abbrev pub MarksMeanApart : Type 0
MarksMeanApart = (p q : ℕ) (t u : Touching Item Process) → MeansApart p q t u

-- The line that a trace shows of an accepted step is the line of what the step does.
abbrev pub TraceShowsLine : Type 0
TraceShowsLine =
    (m : Memory) (p : ProcessNumber) → let q = record_at m.records p in
    point_of q.line ≢ idle
    → shown_line p.0 (access_of (point_of q.line) p m.bench q m.words)
    ≡ line_of p.0 (bench_does m (record { process = p.0; order = Step; value = [] }))

-- After a set-up and any commands, a marked line's command and the one before it may change places.
abbrev pub MarkedChangePlaces : Type 0
MarkedChangePlaces =
    (m : Memory) → Shaped m → (n w : ℕ) (value : List ℕ) (cs : List Command) → (set_up m n w value).0 ≡ 0
    → let here = after (set_up m n w value).1 cs in
    (c d : Command) → Admitted here c → Admitted (next here c) d
    → may_swap (Some (line_of c.process (bench_does here c))) (Some (line_of d.process (bench_does (next here c) d))) ≡ true
    → BenchSwapped here c d
