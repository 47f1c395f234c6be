-- The points in an order in which every set of points that a clause names is a range, and these ranges.
use mathlib.Core.Path.{◌≡◌, refl}
use mathlib.Core.Bool.{Bool, true, false, not}
use Prim.Native.Nat.{ℕ, ◌≤◌}
use native.Mathlib.Omega.{arith}
use lib.Dec.{leb, eqb}
use borrow.Author.Tests.{leb-true, le-leb}
use Rattle.laws.proofs.Updates.{contra}
use Rattle.moir_model.specs.Points.{Point, line_number, idle, ll10, ll2, ll4, ll5, ll6, ll7, sc14, sc17, sc19, sc2, sc4, sc5, sc6, sc7, vl13}

abbrev pub line_order : Point → ℕ
line_order ll2 = 0
line_order ll4 = 1
line_order ll5 = 2
line_order ll6 = 3
line_order ll7 = 4
line_order ll10 = 5
line_order idle = 6
line_order vl13 = 7
line_order sc14 = 8
line_order sc17 = 9
line_order sc19 = 10
line_order sc2 = 11
line_order sc4 = 12
line_order sc5 = 13
line_order sc6 = 14
line_order sc7 = 15

abbrev pub is_idle : Point → Bool
is_idle y = eqb (line_number y) (line_number idle)

abbrev pub busy : Point → Bool
busy y = not (is_idle y)

-- in Copy, called by an SC: its CAS on the header has succeeded
abbrev pub copying : Point → Bool
copying y = leb 11 (line_order y)

abbrev pub both : Bool → Bool → Bool
both true b = b
both false b = false

abbrev pub lines : ℕ → ℕ → Point → Bool
lines a b y = both (leb a (line_order y)) (leb (line_order y) b)

both_iff : (a b : Bool) → both a b ≡ true → (a ≡ true) × (b ≡ true)
both_iff true b e = (refl, e)
both_iff false b e = absurd (contra e refl)

both_tt : (a b : Bool) → a ≡ true → b ≡ true → both a b ≡ true
both_tt true b p q = q
both_tt false b p q = p

pub rng_get : (a b : ℕ) (y : Point) → lines a b y ≡ true → (a ≤ line_order y) × (line_order y ≤ b)
rng_get a b y e = let z = both_iff _ _ e in (leb-true a (line_order y) z.0, leb-true (line_order y) b z.1)

pub rng_put : (a b : ℕ) (y : Point) → a ≤ line_order y → line_order y ≤ b → lines a b y ≡ true
rng_put a b y p q = both_tt _ _ (le-leb a (line_order y) p) (le-leb (line_order y) b q)

-- a range within a range
pub wide : (a b c d : ℕ) (y : Point) → c ≤ a → b ≤ d → lines a b y ≡ true → lines c d y ≡ true
wide a b c d y p q e = let z = rng_get a b y e in rng_put c d y (omega arith) (omega arith)
