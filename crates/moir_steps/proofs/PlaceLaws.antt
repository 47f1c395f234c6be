-- Places in the lent words.
use mathlib.Core.List.{List}
use Prim.Native.Nat.{ℕ, ◌+◌, ◌*◌, ◌≤◌, ◌<◌}
use native.Mathlib.Omega.{arith}
use lib.ListN.{length}
use Rattle.words.proofs.WordLaws.{within}
use Rattle.moir_model.specs.declared.Bench.{Bench}
use Rattle.moir_model.specs.declared.Process.{Process}
use Rattle.moir_steps.specs.declared.word_places.Row.{Row}
use Rattle.moir_steps.specs.declared.word_places.Row.TheVariants.{Announced, Segments, Returned, Offered}
use Rattle.moir_steps.specs.Ranges.{Standing}
use Rattle.moir_steps.specs.Rows.{row_number, row_word}

-- a word of one of the 3N + 1 rows is lent
pub lies : (n : ℕ) {b k w l : ℕ} → b < 3 * n + 1 → k < w → (3 * n + 1) * w ≤ l → b * w + k < l
lies n {b} {k} {w} {l} hb hk hl = omega (arith, within {b = b} {c = 3 * n + 1} hb hk)

pub row_lies : (b : Bench) (q : Process) (ws : List ℕ) (row : Row) → Standing b q ws → row_number b.n row ≤ 3 * b.n
    → row_word b.n b.w row q.word < length ws
row_lies b q ws (Announced p) s h = lies b.n (omega (arith, h)) s.word s.words
row_lies b q ws Segments s h = lies b.n (omega (arith, h)) s.word s.words
row_lies b q ws (Returned p) s h = lies b.n (omega (arith, h)) s.word s.words
row_lies b q ws (Offered p) s h = lies b.n (omega (arith, h)) s.word s.words
