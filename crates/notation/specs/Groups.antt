-- What the readers of items and of groups promise of the reading `scan`.
-- Inner: `GroupLaws` carries it to the whole text, and `Theorems` has that the reading is `Grammar`'s.
use Rattle.std.specs.Prelude.{ℕ, ◌-◌, ◌≤◌, ◌<◌, ◌≡◌, List, [], ◌++◌, false, length, drop}
use Rattle.notation.specs.declared.Entry.{Entry}
use Rattle.notation.specs.Scan.{between, done, Frame, end, shut, fault, scan}
use Rattle.notation.specs.Stretches.{AtItem}

-- an item from `at` to `next`, where groups may stand d deep, says es
pub record ItemRead (s : List ℕ) (at d next : ℕ) (es : List Entry) : Type 0 where
  pub on : at < next
  pub within : next ≤ length s
  pub same : (stack : List Frame) (os : List Entry) → scan (drop at s) (between false) stack os d ≡ scan (drop next s) done stack (os ++ es) d

-- an item has a fault, at a place
pub record ItemBroken (s : List ℕ) (at d k place : ℕ) : Type 0 where
  pub within : place ≤ length s
  pub same : (stack : List Frame) (os : List Entry) → scan (drop at s) (between false) stack os d ≡ fault k (length s - place)

-- the items from `at` on end with the text
pub record ItemsEnded (s : List ℕ) (at d : ℕ) (es : List Entry) : Type 0 where
  pub same : scan (drop at s) (between false) [] [] d ≡ end es

-- they end with a `)`, and `next` is after it
pub record ItemsClosed (s : List ℕ) (at d next : ℕ) (es : List Entry) : Type 0 where
  pub on : at < next
  pub within : next ≤ length s
  pub same : scan (drop at s) (between false) [] [] d ≡ shut es (drop next s)

-- they have a fault, at a place
pub record ItemsBroken (s : List ℕ) (at d k place : ℕ) : Type 0 where
  pub within : place ≤ length s
  pub same : scan (drop at s) (between false) [] [] d ≡ fault k (length s - place)

-- they have said es before the item at `next`
pub record Sofar (s : List ℕ) (at d next : ℕ) (es : List Entry) : Type 0 where
  pub on : at ≤ next
  pub item : AtItem s next
  pub same : scan (drop at s) (between false) [] [] d ≡ scan (drop next s) (between false) [] es d
