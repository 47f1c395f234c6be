-- What a command left, written over the numbers, is put back in the memory that they stand for.
use mathlib.Core.Path.{◌≡◌, refl, ap₂, ◌∙◌}
use mathlib.Core.List.{List, [], ◌∷◌, map}
use mathlib.Core.Bool.{Bool, true, false, not, cond}
use Prim.Native.Nat.{ℕ, ◌+◌, ◌<◌, ◌≤◌}
use native.Mathlib.Omega.{arith}
use lib.Dec.{eqb}
use lib.ListN.{length, get_or, set, drop}
use lib.Seq.{sets, length-sets}
use Rattle.model.specs.SetUp.{numbers}
use Rattle.held_model.specs.Memory.{number_at}
use Rattle.held_model.proofs.BlockLaws.{outside, within, after}
use Rattle.held_model.proofs.TabLaws.{tab_set}
use Rattle.held_model.proofs.MemoryLaws.{Same}
use Rattle.moir_model.specs.declared.Header.{Header}
use Rattle.moir_model.specs.declared.Process.{Process}
use Rattle.moir_model.specs.declared.Moved.{Moved}
use Rattle.moir_model.specs.Records.{no_process}
use Rattle.moir_model.specs.Machine.{Memory}
use Rattle.moir_held_model.specs.Layout.{header_place, tag_place, process_place, mark_place, words_place}
use Rattle.moir_held_model.specs.HeldCommand.{MarksAfter}
use Rattle.moir_held_model.specs.Memory.{header_from, process_from, tag_from, memory_of}
use Rattle.moir_held_model.proofs.MemoryLaws.{process_same}
use Rattle.held_machine.proofs.WrittenLaws.{Off, truth_back}
use Rattle.moir_held_machine.specs.Writes.{header_numbers, process_numbers, written}

-- a memory, part by part
abbrev mk : ℕ → ℕ → Header → List ℕ → List Process → List ℕ → Memory
mk n w h ts ps ws = record { bench = record { n = n; w = w; header = h; tags = ts }; records = ps; words = ws }

pub parts : {n n' w w' : ℕ} {h h' : Header} {ts ts' : List ℕ} {ps ps' : List Process} {ws ws' : List ℕ}
    → n ≡ n' → w ≡ w' → h ≡ h' → ts ≡ ts' → ps ≡ ps' → ws ≡ ws' → mk n w h ts ps ws ≡ mk n' w' h' ts' ps' ws'
parts {n} {n'} {w} {w'} {h} {h'} {ts} {ts'} {ps} {ps'} {ws} {ws'} a b c d e f =
    ap₂ (λ (y z : ℕ). mk y z h ts ps ws) a b ∙ ap₂ (λ (y : Header) (z : List ℕ). mk n' w' y z ps ws) c d
    ∙ ap₂ (λ (y : List Process) (z : List ℕ). mk n' w' h' ts' y z) e f

low : (t : Bool) → cond t 1 0 ≤ 1
low true = omega arith
low false = omega arith

-- l is the list before the command, m that with the words after it
module _ (l m : List ℕ) (p k : ℕ) (s : Moved) (k_in : k < 64) (p_in : p < 16) (long : words_place ≤ length m) (stay : Same l m 0 words_place) where
  abbrev tag : ℕ
  tag = get_or s.bench.tags k 0

  abbrev l₁ : List ℕ
  l₁ = sets m header_place (header_numbers s.bench.header)

  abbrev l₂ : List ℕ
  l₂ = sets l₁ (tag_place k) (tag ∷ [])

  abbrev l₃ : List ℕ
  l₃ = written m p k s

  same₁ : length l₁ ≡ length m
  same₁ = length-sets m header_place (header_numbers s.bench.header)

  same₂ : length l₂ ≡ length m
  same₂ = length-sets l₁ (tag_place k) (tag ∷ []) ∙ same₁

  off₃ : (i : ℕ) → Off (process_place p) 17 i → number_at l₃ i ≡ number_at l₂ i
  off₃ i x = outside l₂ (process_numbers s.process) (process_place p) i x

  off₂ : (i : ℕ) → Off (process_place p) 17 i → Off (tag_place k) 1 i → number_at l₃ i ≡ number_at l₁ i
  off₂ i x y = off₃ i x ∙ outside l₁ (tag ∷ []) (tag_place k) i y

  -- a number before the words that is none of the three blocks
  others : (i : ℕ) → i < words_place → Off (process_place p) 17 i → Off (tag_place k) 1 i → Off header_place 2 i → number_at l₃ i ≡ number_at l i
  others i b x y z = off₂ i x y ∙ outside m (header_numbers s.bench.header) header_place i z ∙ stay i (omega arith) b

  header_at : (j : ℕ) {e : ℕ} → e ≡ header_place + j → j < 2 → number_at l₃ e ≡ get_or (header_numbers s.bench.header) j 0
  header_at j {e} z b =
      off₂ e (λ x y. omega (arith, x, y, z, b)) (λ x y. omega (arith, x, y, z, b)) ∙ within m (header_numbers s.bench.header) header_place j z b (omega arith)

  tag_at : number_at l₃ (tag_place k) ≡ tag
  tag_at = off₃ (tag_place k) (λ x y. omega (arith, x, y, k_in)) ∙ within l₁ (tag ∷ []) (tag_place k) 0 (omega arith) (omega arith) (omega (arith, same₁))

  process_at : (j : ℕ) {e : ℕ} → e ≡ process_place p + j → j < 17 → number_at l₃ e ≡ get_or (process_numbers s.process) j 0
  process_at j {e} z b = within l₂ (process_numbers s.process) (process_place p) j z b (omega (arith, same₂))

  header_written : header_from l₃ header_place ≡ s.bench.header
  header_written = rw (header_at 0 {e = header_place} (omega arith) (omega arith), header_at 1 {e = header_place + 1} (omega arith) (omega arith)) refl

  process_written : process_from l₃ p ≡ s.process
  process_written =
      rw (
        process_at 0 {e = process_place p} (omega arith) (omega arith),
        process_at 1 {e = process_place p + 1} (omega arith) (omega arith),
        process_at 2 {e = process_place p + 2} (omega arith) (omega arith),
        process_at 3 {e = process_place p + 3} (omega arith) (omega arith),
        process_at 4 {e = process_place p + 4} (omega arith) (omega arith),
        process_at 5 {e = process_place p + 5} (omega arith) (omega arith),
        process_at 6 {e = process_place p + 5 + 1} (omega arith) (omega arith),
        process_at 7 {e = process_place p + 7} (omega arith) (omega arith),
        process_at 8 {e = process_place p + 7 + 1} (omega arith) (omega arith),
        process_at 9 {e = process_place p + 9} (omega arith) (omega arith),
        process_at 10 {e = process_place p + 9 + 1} (omega arith) (omega arith),
        process_at 11 {e = process_place p + 11} (omega arith) (omega arith),
        process_at 12 {e = process_place p + 11 + 1} (omega arith) (omega arith),
        process_at 13 {e = process_place p + 13} (omega arith) (omega arith),
        process_at 14 {e = process_place p + 13 + 1} (omega arith) (omega arith),
        process_at 15 {e = process_place p + 15} (omega arith) (omega arith),
        process_at 16 {e = process_place p + 15 + 1} (omega arith) (omega arith),
        truth_back s.process.answered,
      ) refl

  tags_after : map (tag_from l₃) (numbers 0 64) ≡ set (map (tag_from l) (numbers 0 64)) k tag
  tags_after =
      tab_set (tag_from l) (tag_from l₃) 64 k tag 0 k_in tag_at
      (λ i b n. others (tag_place i) (omega (arith, b)) (λ x y. omega (arith, x, y, b)) (λ x y. omega (arith, x, y, n)) (λ x y. omega (arith, x, y)))

  records_after : map (process_from l₃) (numbers 0 16) ≡ set (map (process_from l) (numbers 0 16)) p s.process
  records_after =
      tab_set (process_from l) (process_from l₃) 16 p s.process no_process p_in process_written
      (λ i b n. process_same l l₃ i (λ z x y. others z (omega (arith, y, b)) (λ u v. omega (arith, u, v, x, y, n)) (λ u v. omega (arith, u, v, x, y, k_in)) (λ u v. omega (arith, u, v, x, y))))

  words_after : drop words_place l₃ ≡ drop words_place m
  words_after =
      after l₂ (process_numbers s.process) (process_place p) words_place (omega arith) ∙ after l₁ (tag ∷ []) (tag_place k) words_place (omega arith)
      ∙ after m (header_numbers s.bench.header) header_place words_place (omega arith)

  pub memory_after : memory_of l₃ ≡ record {
    bench = record { n = number_at l 0; w = number_at l 1; header = s.bench.header; tags = set (memory_of l).bench.tags k tag };
    records = set (memory_of l).records p s.process;
    words = drop words_place m;
  }
  memory_after =
      parts (others 0 (omega arith) (λ x y. omega (arith, x)) (λ x y. omega (arith, x)) (λ x y. omega (arith, x)))
      (others 1 (omega arith) (λ x y. omega (arith, x)) (λ x y. omega (arith, x)) (λ x y. omega (arith, x))) header_written tags_after records_after words_after

  pub marks_after : MarksAfter l l₃ p
  marks_after = record {
    own = let z : number_at l₃ (mark_place p) ≡ cond s.process.answered 1 0 = process_at 3 (omega arith) (omega arith) in omega (arith, z, low s.process.answered);
    others = λ q b n. others (mark_place q) (omega (arith, b)) (λ u v. omega (arith, u, v, n, b, p_in)) (λ u v. omega (arith, u, v, k_in)) (λ u v. omega (arith, u, v));
  }
