-- What of a process record is live at its line: b, c, d and e only between the line that sets them and the last that
-- reads them.
use mathlib.Core.Path.{◌≡◌, refl}
use mathlib.Core.Bool.{Bool, true, false, cond}
use mathlib.Core.List.{List, [], ◌∷◌}
use Prim.Native.Nat.{ℕ}
use lib.Dec.{eqb}
use Rattle.model.specs.declared.BufferNumber.{BufferNumber}
use Rattle.model.specs.declared.XContent.{XContent}
use Rattle.model.specs.declared.Process.{Process}
use Rattle.model.specs.Sizes.{halves}
use Rattle.llsc.specs.Rows.{some}
use Rattle.model.specs.Points.{Point, line_number, line3, line4, line5, line6, line7, line7copy, line8, line9, line10, line11, line12, line12valid, line13, line14, line14valid, line15, line17, line19}

abbrev pub On : Bool → Type 0 → Type 0
On true A = A
On false A = Unit {0}

-- a line number is that of one of these points
abbrev pub is_one : ℕ → List Point → Bool
is_one k ys = some (λ y. eqb k (line_number y)) ys

abbrev pub needs_b : ℕ → Bool
needs_b k = is_one k (line5 ∷ line6 ∷ line7 ∷ line7copy ∷ [])

abbrev pub needs_c : ℕ → Bool
needs_c k = is_one k (line9 ∷ [])

abbrev pub needs_d : ℕ → Bool
needs_d k = is_one k (line14valid ∷ line15 ∷ [])

abbrev pub needs_e : ℕ → Bool
needs_e k = is_one k (line19 ∷ [])

-- the lines at which the whole return area is live, and the number of its first halves that are; the words of the offer
-- area
abbrev pub whole : ℕ → Bool
whole k = is_one k (line4 ∷ line5 ∷ line6 ∷ line7 ∷ line7copy ∷ line8 ∷ line9 ∷ line10 ∷ line11 ∷ [])

abbrev pub returns : ℕ → ℕ → ℕ → ℕ
returns W k word = cond (whole k) (halves W) (cond (is_one k (line3 ∷ [])) word 0)

abbrev pub offers : ℕ → ℕ → ℕ
offers W k = cond (is_one k (line12 ∷ line12valid ∷ line13 ∷ line14 ∷ line14valid ∷ line15 ∷ line17 ∷ [])) W 0

-- the same live numbers
pub record LiveProcess (q u : Process) : Type 0 where
  pub mybuf : q.mybuf ≡ u.mybuf
  pub x : q.x ≡ u.x
  pub line : q.line ≡ u.line
  pub word : q.word ≡ u.word
  pub count : q.count ≡ u.count
  pub answered : q.answered ≡ u.answered
  pub b : On (needs_b u.line) (q.b ≡ u.b)
  pub c : On (needs_c u.line) (q.c ≡ u.c)
  pub d : On (needs_d u.line) (q.d ≡ u.d)
  pub e : On (needs_e u.line) (q.e ≡ u.e)

-- a process record at a point
abbrev pub pr : Point → BufferNumber → XContent → ℕ → ℕ → Bool → BufferNumber → BufferNumber → BufferNumber → BufferNumber → Process
pr y mb cx wd ct an b c d e = record { mybuf = mb; x = cx; line = line_number y; word = wd; count = ct; answered = an; b = b; c = c; d = d; e = e }

pub live : (y : Point) {mb : BufferNumber} {cx : XContent} {wd ct : ℕ} {an : Bool} {b c d e b' c' d' e' : BufferNumber}
    → On (needs_b (line_number y)) (b ≡ b') → On (needs_c (line_number y)) (c ≡ c') → On (needs_d (line_number y)) (d ≡ d') → On (needs_e (line_number y)) (e ≡ e')
    → LiveProcess (pr y mb cx wd ct an b c d e) (pr y mb cx wd ct an b' c' d' e')
live y hb hc hd he = record { mybuf = refl; x = refl; line = refl; word = refl; count = refl; answered = refl; b = hb; c = hc; d = hd; e = he }
