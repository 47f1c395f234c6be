-- Every buffer has one place (CR 9): "after a set-up and any commands the 3N buffer numbers are each found exactly once
-- among N owned and 2N kept".
use Rattle.std.specs.Prelude.{◌≡◌, ℕ, ◌+◌, ◌<◌, List, [], ◌∷◌, ◌++◌, map, Bool, ◌&&◌, cond, eqb}
use Rattle.model.specs.declared.Process.{Process}
use Rattle.model.specs.Sizes.{buffers, sequence_numbers}
use Rattle.model.specs.Points.{line_number, line2, line3, line4, line5, line6, line7, line7copy, line8, line9, line10}
use Rattle.model.specs.Tables.{bank_at, help_at}
use Rattle.model.specs.Records.{record_at}
use Rattle.llsc.specs.Rows.{some}
use Rattle.model.specs.Machine.{Memory, Shaped}
use Rattle.model.specs.SetUp.{set_up, numbers}
use Rattle.llsc.specs.History.{Command}
use Rattle.after_commands.specs.After.{after}

-- "if p has done line 1 but not line 10 of an LL": its next step is at line 2 or a later one, up to line 10
abbrev pub asking : Process → Bool
asking q = some (λ y. eqb q.line (line_number y)) (line2 ∷ line3 ∷ line4 ∷ line5 ∷ line6 ∷ line7 ∷ line7copy ∷ line8 ∷ line9 ∷ line10 ∷ [])

-- "Owned by p: the buffer in Help[p], if p has done line 1 but not line 10 of an LL and the flag is 0, else mybuf."
abbrev pub owned : Memory → ℕ → ℕ
owned m p =
    cond (asking (record_at m.records (record { 0 = p })) && eqb (help_at m.bench (record { 0 = p })).content.flag 0)
    (help_at m.bench (record { 0 = p })).content.buf.0
    (record_at m.records (record { 0 = p })).mybuf.0

-- "Kept at i: Bank[i], but at X's sequence number X's own buffer."
abbrev pub kept : Memory → ℕ → ℕ
kept m i = cond (eqb i m.bench.x.content.seq.0) m.bench.x.content.buf.0 (bank_at m.bench (record { 0 = i })).content.0

-- "N owned and 2N kept": kept at the sequence numbers, owned by the processes
abbrev pub held : Memory → ℕ → List ℕ
held m n = map (kept m) (numbers 0 (sequence_numbers n)) ++ map (owned m) (numbers 0 n)

-- how often b stands in a list
abbrev pub occurrences : ℕ → List ℕ → ℕ
occurrences b [] = 0
occurrences b (a ∷ rest) = cond (eqb a b) 1 0 + occurrences b rest

-- "after a set-up and any commands the 3N buffer numbers are each found exactly once"
abbrev pub EveryBufferOnce : Type 0
EveryBufferOnce =
    (m : Memory) → Shaped m → (n w : ℕ) (value : List ℕ) (cs : List Command) → (set_up m n w value).0 ≡ 0
    → (b : ℕ) → b < buffers n → occurrences b (held (after (set_up m n w value).1 cs) n) ≡ 1
