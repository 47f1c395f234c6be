-- An entry kept as a number: its parts, read again.
use Prim.Native.Nat.{ℕ, ◌+◌, ◌*◌, ◌≤◌, ◌<◌}
use mathlib.Core.Path.{◌≡◌, sym, ap}
use mathlib.Core.Bool.{Bool, cond}
use native.Mathlib.Omega.{arith}
use native.Mathlib.Decide.{dec_le}
use borrow.Author.Tests.{le-leb, lt-leb}
use Rattle.notation.specs.Grammar.{largest}
use Rattle.notation.specs.EntryWords.{kept_process, entry_of_kind, process_unit, number_unit, place_unit, kind_in, process_in, number_in, entry_in, place_in}

-- a process number in the code
pub kept_itself : (p : ℕ) → p ≤ 15 → p ≡ kept_process p
kept_itself p h = sym (ap (λ (b : Bool). cond b p 16) (le-leb p 15 h))

pub kept_none : (p : ℕ) → 15 < p → 16 ≡ kept_process p
kept_none p h = sym (ap (λ (b : Bool). cond b p 16) (lt-leb p 15 h))

pub kept_small : (p : ℕ) → kept_process p ≤ 16
kept_small p = go (dec_le p 15)
  where
    go : Dec (p ≤ 15) → kept_process p ≤ 16
    go (yes h) = omega (arith, kept_itself p h)
    go (no h) = omega (arith, kept_none p (omega (arith, h)))

-- the parts of a packed number
abbrev word : ℕ → ℕ → ℕ → ℕ
word kind p k = kind + process_unit * p + number_unit * k

module _ (kind p k : ℕ) (few : kind ≤ 4) (small : p ≤ 16) (fits : k ≤ largest) where
  kind_in_is : kind_in (word kind p k) ≡ kind
  kind_in_is = omega arith

  process_in_is : process_in (word kind p k) ≡ p
  process_in_is = omega arith

  number_in_lem : number_in (word kind p k) ≡ k
  number_in_lem = omega arith

  pub packed_reads : entry_in (word kind p k) ≡ entry_of_kind kind p k
  unfolding entry_in
  packed_reads = rw (kind_in_is, process_in_is, number_in_lem)

  pub packed_below : word kind p k < place_unit
  packed_below = omega arith

-- a place beside an entry
module _ (w place : ℕ) where
  kind_beside : kind_in (w + place_unit * place) ≡ kind_in w
  kind_beside = omega arith

  process_beside : process_in (w + place_unit * place) ≡ process_in w
  process_beside = omega arith

  number_beside : number_in (w + place_unit * place) ≡ number_in w
  number_beside = omega arith

  pub entry_beside : entry_in (w + place_unit * place) ≡ entry_in w
  unfolding entry_in
  entry_beside = rw (kind_beside, process_beside, number_beside)

  pub place_beside : w < place_unit → place_in (w + place_unit * place) ≡ place
  place_beside h = omega arith
