-- The byte-at-a-time reading is a reader by the grammar, and there is no other.
use Prim.Native.Nat.{ℕ}
use mathlib.Core.Path.{◌≡◌, refl, ap, ◌∙◌}
use mathlib.Core.List.{List}
use native.Mathlib.Omega.{arith}
use Rattle.notation.specs.Readings.{Reading, right, wrong, Reads, Reader}
use Rattle.notation.specs.FirstLine.{read}
use Rattle.notation.proofs.Theorems.{read_is_right, says_one_thing, wrong_has_fault, fault_is_wrong, one_place, wrong_at_fault, one_number}

abbrev pub reader : Reader
reader = record { read = read; reads = λ s. as_read s (read s) refl }
  where
    as_read : (s : List ℕ) (r : Reading) → read s ≡ r → Reads s r
    as_read s (right a) e = read_is_right s a e
    as_read s (wrong k left) e = let f = wrong_has_fault s k left e in record { fault = f; place = wrong_at_fault s k k left f e }

-- a text has one reading, so every reader reads as this one
pub one_reading : (s : List ℕ) (r r' : Reading) → Reads s r → Reads s r' → r ≡ r'
one_reading s (right a) (right b) p q = ap right (says_one_thing s a b p q)
one_reading s (right a) (wrong k left) p q = absurd (fault_is_wrong s k q.fault (record { tree = p.tree; text = p.text }))
one_reading s (wrong k left) (right b) p q = absurd (fault_is_wrong s k p.fault (record { tree = q.tree; text = q.text }))
one_reading s (wrong k left) (wrong j rest) p q =
    let same : left ≡ rest = omega (arith, one_place s k j p.fault q.fault, p.place, q.place) in
    ap (λ (i : ℕ). wrong i left) (one_number s k j p.fault q.fault) ∙ ap (λ (i : ℕ). wrong j i) same
