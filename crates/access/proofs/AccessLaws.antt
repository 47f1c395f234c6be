-- The access seen in the places taken out for a step is the one that `access_of` sees in the bench.
use mathlib.Core.Path.{◌≡◌, refl, sym, ap, ◌∙◌}
use mathlib.Core.List.{List}
use Prim.Native.Nat.{ℕ, ◌+◌, ◌*◌, ◌<◌}
use native.Mathlib.Omega.{arith}
use lib.ListN.{get_or, take, drop}
use lib.Seq.{get_or-take, get_or-drop}
use Rattle.model.specs.declared.SequenceNumber.{SequenceNumber}
use Rattle.llsc.specs.declared.ProcessNumber.{ProcessNumber}
use Rattle.model.specs.declared.Bench.{Bench}
use Rattle.model.specs.declared.Process.{Process}
use Rattle.model.specs.Points.{Point, idle, line1, line2, line3, line4, line5, line6, line7, line7copy, line8, line9, line10, line11}
use Rattle.model.specs.Points.{line12, line12valid, line13, line14, line14valid, line15, line17, line18, line19, line23}
use Rattle.model.specs.Words.{word_of, half}
use Rattle.taken.specs.declared.Taken.{Taken}
use Rattle.taken.specs.Taken.{bank_index, help_index, taken_at, taken_from}
use Rattle.doings.specs.Doings.{doing_at}
use Rattle.access.specs.declared.Act.TheVariants.{Write}
use Rattle.access.specs.Accesses.{access_of}
use Rattle.access.specs.AccessOn.{half_access, access_on}

module _ (p : ProcessNumber) (b : Bench) (q : Process) (ws : List ℕ) (h : word_of q.word < b.w) where
  -- the word of an area, at row r, as its process has it
  of_area : (r : ℕ) → get_or ws (r * b.w + word_of q.word) 0 ≡ get_or (take b.w (drop (r * b.w + 0) ws)) (word_of q.word) 0
  of_area r =
      let a = r * b.w in let i = word_of q.word in
      ap (λ (j : ℕ). get_or ws j 0) (let y : a + i ≡ a + 0 + i = omega arith in y)
      ∙ sym (get_or-take b.w (drop (a + 0) ws) i 0 h ∙ get_or-drop (a + 0) ws i 0)

  pub access_by_taken : (y : Point) → access_on y p b.n b.w (taken_from y b p q) q ws ≡ access_of y p b q ws
  unfolding access_on access_of doing_at
  access_by_taken idle = refl
  access_by_taken line1 = refl
  access_by_taken line2 = refl
  access_by_taken line3 = refl
  access_by_taken line4 = refl
  access_by_taken line5 = refl
  access_by_taken line6 = refl
  access_by_taken line7 = refl
  access_by_taken line7copy = refl
  access_by_taken line8 = refl
  access_by_taken line9 = refl
  access_by_taken line10 = refl
  access_by_taken line11 = ap (λ (v : ℕ). half_access 11 q.mybuf q.word Write (half q.word v)) (of_area (3 * b.n + p.0))
  access_by_taken line12 = refl
  access_by_taken line12valid = refl
  access_by_taken line13 = refl
  access_by_taken line14 = refl
  access_by_taken line14valid = refl
  access_by_taken line15 = refl
  access_by_taken line17 = ap (λ (v : ℕ). half_access 17 q.mybuf q.word Write (half q.word v)) (of_area (4 * b.n + p.0))
  access_by_taken line18 = refl
  access_by_taken line19 = refl
  access_by_taken line23 = refl

  -- the parts of a step, put together
  pub access_seen_is : (y : Point) {i : SequenceNumber} {j : ProcessNumber} {t : Taken}
      → i ≡ bank_index y b.n q → j ≡ help_index y b.n p q → t ≡ taken_at b i j
      → access_on y p b.n b.w t q ws ≡ access_of y p b q ws
  access_seen_is y e f g = rw (g, e, f) (access_by_taken y)
