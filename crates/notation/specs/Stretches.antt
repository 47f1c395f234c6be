-- What stretches of a text are to the reading `scan`, and what places they have.
-- Inner: steps between the readers' promises and the reading, which `Theorems` ties to `Grammar`.
use Rattle.std.specs.Prelude.{ℕ, suc, ◌-◌, ◌≤◌, ◌<◌, ◌≡◌, List, [], ◌∷◌, ◌++◌, false, length, drop, get_or, Ok, Err}
use Rattle.std.proofs.Math.Seq.{slice}
use Rattle.notation.specs.declared.Entry.{Entry}
use Rattle.notation.specs.declared.Entry.TheVariants.{StartLl, StartVl, StartSc, Step, Finish}
use Rattle.notation.specs.declared.Start.TheVariants.{Single, Group}
use Rattle.notation.specs.declared.Follow.TheVariants.{Item, Shut, End}
use Rattle.notation.specs.Bytes.{kind_of, is_gap}
use Rattle.notation.specs.Readers.{Beginning, Following}
use Rattle.notation.specs.Grammar.{largest}
use Rattle.notation.specs.Written.{entry_written, count_written}
use Rattle.notation.specs.Places.{fore, tail, Moves, Opens, Closes, EndsHere}
use Rattle.notation.specs.Scan.{Mode, between, done, Frame, end, shut, fault, entered, scan}

-- the reading goes from one place and mode to another, with es said on the way
pub record Goes (s : List ℕ) (at : ℕ) (m : Mode) (next : ℕ) (m' : Mode) (es : List Entry) : Type 0 where
  pub on : at ≤ next
  pub within : next ≤ length s
  pub same : (stack : List Frame) (os : List Entry) (d : ℕ) → scan (drop at s) m stack os d ≡ scan (drop next s) m' stack (os ++ es) d

-- the reading faults, at a place
pub record Faults (s : List ℕ) (at : ℕ) (m : Mode) (k place : ℕ) : Type 0 where
  pub within : place ≤ length s
  pub same : (stack : List Frame) (os : List Entry) (d : ℕ) → scan (drop at s) m stack os d ≡ fault k (length s - place)

-- a place at which a byte stands that is no gap
pub record AtItem (s : List ℕ) (at : ℕ) : Type 0 where
  pub here : at < length s
  pub item : is_gap (kind_of (get_or s at 0)) ≡ false

-- the numbers of an entry of a text
abbrev pub Small : Entry → Type 0
Small (StartLl p) = p ≤ largest
Small (StartVl p) = p ≤ largest
Small (StartSc p k) = (p ≤ largest) × (k ≤ largest)
Small (Step p) = p ≤ largest
Small (Finish p) = p ≤ largest

-- an item that is no group, from a mode on
pub record Once (s : List ℕ) (at : ℕ) (m : Mode) (e : Entry) (next : ℕ) : Type 0 where
  pub on : at < next
  pub small : Small e
  pub goes : Goes s at m next done (e ∷ [])
  pub again : slice at next s ≡ entry_written e
  pub places : Moves s at fore next tail (at ∷ [])

-- a group up to its `(`
pub record Begun (s : List ℕ) (at n next : ℕ) : Type 0 where
  pub on : at < next
  pub within : next ≤ length s
  pub turns : 0 < n
  pub few : n ≤ 255
  pub again : slice at next s ≡ count_written n
  pub places : Opens s at n next
  pub same : (stack : List Frame) (os : List Entry) (d : ℕ) → scan (drop at s) (between false) stack os d ≡ entered (scan (drop next s)) (suc (length (drop next s))) n stack os d

abbrev pub StartSays : List ℕ → ℕ → Beginning → Type 0
StartSays s at (Ok (Single e, next)) = Once s at (between false) e next
StartSays s at (Ok (Group n, next)) = Begun s at n next
StartSays s at (Err place) = Faults s at (between false) 10 place

-- right after an item: the next item, a `)` with no open group, the end, or a stray byte
pub record Onward (s : List ℕ) (at next : ℕ) : Type 0 where
  pub on : at < next
  pub item : AtItem s next
  pub goes : Goes s at done next (between false) []
  pub places : Moves s at tail next fore []

pub record Shuts (s : List ℕ) (at next : ℕ) : Type 0 where
  pub on : at < next
  pub within : next ≤ length s
  pub same : (os : List Entry) (d : ℕ) → scan (drop at s) done [] os d ≡ shut os (drop next s)
  pub places : Closes s at next

pub record Ends (s : List ℕ) (at : ℕ) : Type 0 where
  pub same : (os : List Entry) (d : ℕ) → scan (drop at s) done [] os d ≡ end os
  pub places : EndsHere s at

abbrev pub FollowSays : List ℕ → ℕ → Following → Type 0
FollowSays s at (Ok (Item, next)) = Onward s at next
FollowSays s at (Ok (Shut, next)) = Shuts s at next
FollowSays s at (Ok (End, next)) = Ends s at
FollowSays s at (Err place) = Faults s at done 10 place
