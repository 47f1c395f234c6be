-- "the words of a successful write, and the set-up value, stay unaltered in their buffer until X has changed 2N more
-- times" (CR 9).
use Rattle.std.specs.Prelude.{◌≡◌, ℕ, ◌<◌, List, [], ◌∷◌, ◌++◌, true, take, drop}
use Rattle.model.specs.declared.BufferNumber.{BufferNumber}
use Rattle.model.specs.Sizes.{sequence_numbers}
use Rattle.model.specs.Words.{buffer_word}
use Rattle.model.specs.Machine.{Memory, Shaped}
use Rattle.model.specs.SetUp.{set_up}
use Rattle.llsc.specs.Answers.{answered, sc_truth}
use Rattle.llsc.specs.Object.{sc}
use Rattle.llsc.specs.History.{Command, running, slots}
use Rattle.model.specs.History.{events, event_of}
use Rattle.after_commands.specs.After.{after}
use Rattle.after_commands.specs.Changes.{changes}

-- the words of a buffer
abbrev pub buffer_words : Memory → BufferNumber → List ℕ
buffer_words m b = take m.bench.w (drop (buffer_word m.bench.w b 0) m.words)

-- "a successful write": after the commands `cs` an SC with the words `offered` is open, and the command c ends it with
-- the answer true
pub record Writes (m : Memory) (cs : List Command) (c : Command) (offered : List ℕ) : Type 0 where
  pub start : ℕ
  pub steps : ℕ
  pub count : ℕ
  pub running_sc : slots (events m cs) c.process ≡ running (sc offered) start steps
  pub ends : (event_of (after m cs) c).said ≡ answered (sc_truth true) count

-- The buffer that X names in m has these words, and has them after whatever follows in which X changes fewer than
-- `most` times.
abbrev pub Stay : ℕ → List ℕ → Memory → Type 0
Stay most ws m = (more : List Command) → changes m more < most → buffer_words (after m more) m.bench.x.content.buf ≡ ws

-- "2N more times"
abbrev pub lasting : ℕ → ℕ
lasting n = sequence_numbers n

-- "the set-up value"
abbrev pub SetUpValueStays : (ℕ → ℕ) → Type 0
SetUpValueStays most =
    (m : Memory) → Shaped m → (n w : ℕ) (value : List ℕ) → (set_up m n w value).0 ≡ 0
    → Stay (most n) value (set_up m n w value).1

-- "the words of a successful write": any one, after any commands
abbrev pub WrittenWordsStay : (ℕ → ℕ) → Type 0
WrittenWordsStay most =
    (m : Memory) → Shaped m → (n w : ℕ) (value : List ℕ) → (set_up m n w value).0 ≡ 0
    → (cs : List Command) (c : Command) (offered : List ℕ) → Writes (set_up m n w value).1 cs c offered
    → Stay (most n) offered (after (set_up m n w value).1 (cs ++ c ∷ []))

pub record WordsStay : Type 0 where
  pub of_set_up : SetUpValueStays lasting
  pub of_writes : WrittenWordsStay lasting
