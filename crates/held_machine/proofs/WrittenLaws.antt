-- What a step left, written: the numbers of its five blocks, and that the others stay.
use mathlib.Core.Path.{◌≡◌, refl, sym, subst, ◌∙◌}
use mathlib.Core.List.{List}
use mathlib.Core.Bool.{Bool, true, false, not, cond}
use Prim.Native.Nat.{ℕ, ◌+◌, ◌<◌, ◌≤◌}
use native.Mathlib.Omega.{arith}
use lib.Dec.{eqb}
use lib.ListN.{length, get_or, drop}
use lib.Seq.{sets, length-sets}
use Rattle.taken.specs.declared.Stepped.{Stepped}
use Rattle.held_model.specs.Layout.{call_place, record_place, bank_place, help_place, holding_place, mark_place, words_place}
use Rattle.held_model.specs.Memory.{number_at, x_from, bank_from, help_from, held_from}
use Rattle.held_model.proofs.BlockLaws.{outside, within, after}
use Rattle.held_machine.specs.Writes.{x_numbers, bank_numbers, help_numbers, holding_numbers, call_numbers, written}

-- k is none of the c numbers from a on
abbrev pub Off : ℕ → ℕ → ℕ → Type 0
Off a c k = a ≤ k → k < a + c → ⊥

pub truth_back : (t : Bool) → not (eqb (cond t 1 0) 0) ≡ t
truth_back true = refl
truth_back false = refl

module _ (l : List ℕ) (j i h p : ℕ) (s : Stepped) (i_in : i < 32) (h_in : h < 16) (p_in : p < 16) (long : words_place (j + 1) ≤ length l) where
  abbrev bank : ℕ
  bank = bank_place j i

  abbrev help : ℕ
  help = help_place j h

  abbrev own : ℕ
  own = holding_place j p

  abbrev l₁ : List ℕ
  l₁ = sets l (record_place j) (x_numbers s.taken.x)

  abbrev l₂ : List ℕ
  l₂ = sets l₁ bank (bank_numbers s.taken.bank)

  abbrev l₃ : List ℕ
  l₃ = sets l₂ help (help_numbers s.taken.help)

  abbrev l₄ : List ℕ
  l₄ = sets l₃ own (holding_numbers s.process)

  abbrev l₅ : List ℕ
  l₅ = written l j bank help p s

  same₁ : length l₁ ≡ length l
  same₁ = length-sets l (record_place j) (x_numbers s.taken.x)

  same₂ : length l₂ ≡ length l
  same₂ = length-sets l₁ bank (bank_numbers s.taken.bank) ∙ same₁

  same₃ : length l₃ ≡ length l
  same₃ = length-sets l₂ help (help_numbers s.taken.help) ∙ same₂

  same₄ : length l₄ ≡ length l
  same₄ = length-sets l₃ own (holding_numbers s.process) ∙ same₃

  pub written_length : length l₅ ≡ length l
  written_length = length-sets l₄ (call_place p) (call_numbers j s.process) ∙ same₄

  -- a number that none of the later writes reaches
  off₅ : (k : ℕ) → Off (call_place p) 8 k → number_at l₅ k ≡ number_at l₄ k
  off₅ k n = outside l₄ (call_numbers j s.process) (call_place p) k n

  off₄ : (k : ℕ) → Off (call_place p) 8 k → Off own 4 k → number_at l₅ k ≡ number_at l₃ k
  off₄ k n m = off₅ k n ∙ outside l₃ (holding_numbers s.process) own k m

  off₃ : (k : ℕ) → Off (call_place p) 8 k → Off own 4 k → Off help 3 k → number_at l₅ k ≡ number_at l₂ k
  off₃ k n m o = off₄ k n m ∙ outside l₂ (help_numbers s.taken.help) help k o

  off₂ : (k : ℕ) → Off (call_place p) 8 k → Off own 4 k → Off help 3 k → Off bank 2 k → number_at l₅ k ≡ number_at l₁ k
  off₂ k n m o q = off₃ k n m o ∙ outside l₁ (bank_numbers s.taken.bank) bank k q

  pub others : (k : ℕ) → Off (call_place p) 8 k → Off own 4 k → Off help 3 k → Off bank 2 k → Off (record_place j) 3 k → number_at l₅ k ≡ number_at l k
  others k n m o q x = off₂ k n m o q ∙ outside l (x_numbers s.taken.x) (record_place j) k x

  pub call_first : number_at l₅ (call_place p) ≡ s.process.line
  call_first = within l₄ (call_numbers j s.process) (call_place p) 0 (omega arith) (omega arith) (omega (arith, same₄))

  pub call_numbers_at : (k : ℕ) → k < 8 → number_at l₅ (call_place p + k) ≡ get_or (call_numbers j s.process) k 0
  call_numbers_at k b = within l₄ (call_numbers j s.process) (call_place p) k refl b (omega (arith, same₄))

  own_at : (k : ℕ) {e : ℕ} → e ≡ own + k → k < 4 → number_at l₅ e ≡ get_or (holding_numbers s.process) k 0
  own_at k {e} z b = off₅ e (λ x y. omega (arith, x, y, z, b)) ∙ within l₃ (holding_numbers s.process) own k z b (omega (arith, same₃))

  help_at : (k : ℕ) {e : ℕ} → e ≡ help + k → k < 3 → number_at l₅ e ≡ get_or (help_numbers s.taken.help) k 0
  help_at k {e} z b =
      off₄ e (λ x y. omega (arith, x, y, z, b)) (λ x y. omega (arith, x, y, z, b)) ∙ within l₂ (help_numbers s.taken.help) help k z b (omega (arith, same₂))

  bank_at : (k : ℕ) {e : ℕ} → e ≡ bank + k → k < 2 → number_at l₅ e ≡ get_or (bank_numbers s.taken.bank) k 0
  bank_at k {e} z b =
      off₃ e (λ x y. omega (arith, x, y, z, b)) (λ x y. omega (arith, x, y, z, b)) (λ x y. omega (arith, x, y, z, b))
      ∙ within l₁ (bank_numbers s.taken.bank) bank k z b (omega (arith, same₁))

  x_at : (k : ℕ) {e : ℕ} → e ≡ record_place j + k → k < 3 → number_at l₅ e ≡ get_or (x_numbers s.taken.x) k 0
  x_at k {e} z b =
      off₂ e (λ x y. omega (arith, x, y, z, b)) (λ x y. omega (arith, x, y, z, b)) (λ x y. omega (arith, x, y, z, b)) (λ x y. omega (arith, x, y, z, b))
      ∙ within l (x_numbers s.taken.x) (record_place j) k z b (omega arith)

  -- the five blocks, read
  pub x_written : x_from l₅ (record_place j) ≡ s.taken.x
  x_written = rw (x_at 0 {e = record_place j} (omega arith) (omega arith), x_at 1 refl (omega arith), x_at 2 refl (omega arith)) refl

  pub bank_written : bank_from l₅ bank ≡ s.taken.bank
  bank_written = rw (bank_at 0 {e = bank} (omega arith) (omega arith), bank_at 1 refl (omega arith)) refl

  pub help_written : help_from l₅ help ≡ s.taken.help
  help_written = rw (help_at 0 {e = help} (omega arith) (omega arith), help_at 1 refl (omega arith), help_at 2 refl (omega arith)) refl

  pub held_written : held_from l₅ p j ≡ record { mybuf = s.process.mybuf; x = s.process.x; answered = s.process.answered }
  held_written =
      rw (own_at 0 {e = own} (omega arith) (omega arith), own_at 1 refl (omega arith), own_at 2 refl (omega arith), own_at 3 refl (omega arith), truth_back s.process.answered) refl

  -- the mark is 0 or 1
  pub mark_written : number_at l₅ (mark_place j p) ≤ 1
  mark_written = subst (λ (k : ℕ). k ≤ 1) (sym (own_at 3 refl (omega arith))) (small s.process.answered)
    where
      small : (t : Bool) → cond t 1 0 ≤ 1
      small true = omega arith
      small false = omega arith

  -- the words stay
  pub words_written : (n : ℕ) → words_place (j + 1) ≤ n → drop n l₅ ≡ drop n l
  words_written n b =
      after l₄ (call_numbers j s.process) (call_place p) n (omega arith) ∙ after l₃ (holding_numbers s.process) own n (omega arith)
      ∙ after l₂ (help_numbers s.taken.help) help n (omega arith) ∙ after l₁ (bank_numbers s.taken.bank) bank n (omega arith)
      ∙ after l (x_numbers s.taken.x) (record_place j) n (omega arith)
