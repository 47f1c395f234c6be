-- Where the items of a right text begin, a byte at a time: the words in which the readers promise places.
-- Inner: what places a text has is Grammar's `places`, and proofs/PlacedTrees proves that this finds them.
use Rattle.std.specs.Prelude.{ℕ, suc, ◌+◌, ◌*◌, ◌≡◌, List, [], ◌∷◌, ◌++◌, cond, eqb, drop}
use Rattle.notation.specs.declared.Kind.{Kind}
use Rattle.notation.specs.declared.Kind.TheVariants.{Digit, Gap, Marked, Offer, Open, Close, Other}
use Rattle.notation.specs.Bytes.{line_feed, kind_of}
use Rattle.notation.specs.Grammar.{times}

-- before an item; in the first number of the item that begins at a place, with its value so far; or past its sign
pub data Part : Type 0 where
  fore : Part
  head : ℕ → ℕ → Part
  tail : Part

-- an open group: its count, and the places before it
pub record Level : Type 0 where
  pub count : ℕ
  pub outer : List ℕ

-- how the text goes on
abbrev pub Onto : Type 0
Onto = Part → List Level → List ℕ → List ℕ

abbrev pub closes : Onto → List Level → List ℕ → List ℕ
closes k [] ps = ps
closes k (f ∷ stack) ps = k tail stack (f.outer ++ times f.count ps)

-- what a byte of a kind does at a place; a kind that no right text has there ends it
unfoldable pub stride : Onto → ℕ → Part → Kind → List Level → List ℕ → List ℕ
stride k at fore (Digit d) stack ps = k (head at d) stack ps
stride k at fore Gap stack ps = k fore stack ps
stride k at fore (Marked m) stack ps = ps
stride k at fore Offer stack ps = ps
stride k at fore Open stack ps = ps
stride k at fore Close stack ps = closes k stack ps
stride k at fore Other stack ps = ps
stride k at (head p v) (Digit d) stack ps = k (head p (v * 10 + d)) stack ps
stride k at (head p v) Gap stack ps = ps
stride k at (head p v) (Marked m) stack ps = k tail stack (ps ++ p ∷ [])
stride k at (head p v) Offer stack ps = k tail stack (ps ++ p ∷ [])
stride k at (head p v) Open stack ps = k fore (record { count = v; outer = ps } ∷ stack) []
stride k at (head p v) Close stack ps = ps
stride k at (head p v) Other stack ps = ps
stride k at tail (Digit d) stack ps = k tail stack ps
stride k at tail Gap stack ps = k fore stack ps
stride k at tail (Marked m) stack ps = ps
stride k at tail Offer stack ps = ps
stride k at tail Open stack ps = ps
stride k at tail Close stack ps = closes k stack ps
stride k at tail Other stack ps = ps

-- the places in a text that goes on from `at`, with the open groups and the places since the last was opened
unfoldable pub locate : List ℕ → ℕ → Part → List Level → List ℕ → List ℕ
locate [] at m stack ps = ps
locate (b ∷ l) at m stack ps = stride (locate l (suc at)) at m (kind_of b) stack ps

-- from the first line on, which ends with a line feed
unfoldable pub locate_text : List ℕ → ℕ → List ℕ
locate_text [] at = []
locate_text (b ∷ l) at = cond (eqb b line_feed) (locate l (suc at) fore [] []) (locate_text l (suc at))

-- the text from one place and part to another has the places ps
pub record Moves (s : List ℕ) (at : ℕ) (m : Part) (next : ℕ) (m' : Part) (ps : List ℕ) : Type 0 where
  pub same : (stack : List Level) (os : List ℕ)
      → locate (drop at s) at m stack os ≡ locate (drop next s) next m' stack (os ++ ps)

-- a `(` opens a group of n turns
pub record Opens (s : List ℕ) (at n next : ℕ) : Type 0 where
  pub same : (stack : List Level) (os : List ℕ)
      → locate (drop at s) at fore stack os ≡ locate (drop next s) next fore (record { count = n; outer = os } ∷ stack) []

-- a `)` closes the last group that was opened: behind an item, and behind the places of its items
pub record Closes (s : List ℕ) (at next : ℕ) : Type 0 where
  pub same : (f : Level) (stack : List Level) (os : List ℕ)
      → locate (drop at s) at tail (f ∷ stack) os ≡ locate (drop next s) next tail stack (f.outer ++ times f.count os)

pub record ClosesAfter (s : List ℕ) (at next : ℕ) (ps : List ℕ) : Type 0 where
  pub same : (f : Level) (stack : List Level)
      → locate (drop at s) at fore (f ∷ stack) [] ≡ locate (drop next s) next tail stack (f.outer ++ times f.count ps)

-- the text ends: behind an item, and behind places
pub record EndsHere (s : List ℕ) (at : ℕ) : Type 0 where
  pub same : (os : List ℕ) → locate (drop at s) at tail [] os ≡ os

pub record EndsAfter (s : List ℕ) (at : ℕ) (ps : List ℕ) : Type 0 where
  pub same : locate (drop at s) at fore [] [] ≡ ps
