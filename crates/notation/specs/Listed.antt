-- The list of a text's entries, kept as numbers in an array that the caller lends, and what its writers promise.
-- Inner: `ListedText` proves that the list has what the text says and where it stands, by `Grammar`.
use Rattle.std.specs.Prelude.{ℕ, ◌+◌, ◌-◌, ◌*◌, ◌≤◌, ◌<◌, min, ◌≡◌, List, length, get_or, Result, Ok, Err}
use Rattle.notation.specs.declared.Entry.{Entry}
use Rattle.notation.specs.declared.Entry.TheVariants.{Step}
use Rattle.llsc.specs.Refusals.{refusal_number}
use Rattle.notation.specs.declared.items.Fault.{Fault}
use Rattle.notation.specs.declared.items.Items.{Items}
use Rattle.notation.specs.declared.items.Items.TheVariants.{Ended, Closed}
use Rattle.notation.specs.EntryWords.{entry_in, kept_entry, largest_place, place_in}
use Rattle.notation.specs.Places.{fore, tail, Moves, ClosesAfter, EndsAfter}
use Rattle.notation.specs.Written.{Standing}
use Rattle.notation.specs.Stretches.{Begun}
use Rattle.notation.specs.Groups.{ItemRead, ItemBroken, ItemsEnded, ItemsClosed, ItemsBroken}

-- what stands past the end of a list of entries
abbrev pub no_entry : Entry
no_entry = Step 0

-- xs are kept from `from` to `to`, as many as there is room for: `f` reads in a word what `g` leaves of each
pub record Kept {A B : Type 0} (f : ℕ → B) (g : A → B) (none : A) (list list' : List ℕ) (from to : ℕ) (xs : List A) : Type 0 where
  pub to_is : to ≡ min (length list) (from + length xs)
  pub lent : length list' ≡ length list
  pub before : (i : ℕ) → i < from → get_or list' i 0 ≡ get_or list i 0
  pub listed : (i : ℕ) → from + i < to → f (get_or list' (from + i) 0) ≡ g (get_or xs i none)

-- a place is kept as it is
abbrev pub same_place : ℕ → ℕ
same_place p = p

-- entries es and the places ps of their items
pub record Lists (list list' : List ℕ) (from to : ℕ) (es : List Entry) (ps : List ℕ) : Type 0 where
  pub entries : Kept entry_in kept_entry no_entry list list' from to es
  pub places : Kept place_in same_place 0 list list' from to ps

-- a block of a list of `len` numbers, and how often it is to stand there
pub record Block (len from to n : ℕ) : Type 0 where
  pub on : from ≤ to
  pub within : to ≤ len
  pub turns : 0 < n

-- where the last of its turns ends
pub record TurnsEnd (len from to n end : ℕ) : Type 0 where
  pub is : end ≡ min len (from + n * (to - from))
  pub on : to ≤ end
  pub within : end ≤ len
  pub some : to < end → from < to

-- the block from `from` to `to`, n times in a row, as far as there is room
pub record Repeated (list list' : List ℕ) (from to n end : ℕ) : Type 0 where
  pub ends : TurnsEnd (length list) from to n end
  pub lent : length list' ≡ length list
  pub before : (i : ℕ) → i < to → get_or list' i 0 ≡ get_or list i 0
  pub again : (i : ℕ) → to ≤ i → i < end → get_or list' i 0 ≡ get_or list' (i - (to - from)) 0

-- an item or items of s read once, and what they say and where they stand kept; CR 3: "a number read and written again
-- gives the same digits"
pub record Keeps (s list list' : List ℕ) (from to : ℕ) (P : List Entry → Type 0) (Q : List ℕ → Type 0) : Type 0 where
  pub says : List Entry
  pub read : P says
  pub places : List ℕ
  pub located : Q places
  pub again : Standing s places says
  pub lists : Lists list list' from to says places

-- a fault leaves the array its length
pub record Spoilt (list list' : List ℕ) (A : Type 0) : Type 0 where
  pub is : A
  pub lent : length list' ≡ length list

abbrev pub ItemIs : List ℕ → ℕ → ℕ → List ℕ → List ℕ → ℕ → Result (ℕ × ℕ) Fault → Type 0
ItemIs s at d list list' from (Ok (next, to)) = Keeps s list list' from to (λ es. ItemRead s at d next es) (λ ps. Moves s at fore next tail ps)
ItemIs s at d list list' from (Err f) = Spoilt list list' (ItemBroken s at d (refusal_number f.cause) f.place)

pub record ItemSays (s : List ℕ) (at d : ℕ) (list list' : List ℕ) (from : ℕ) (o : Result (ℕ × ℕ) Fault) : Type 0 where
  pub is : ItemIs s at d list list' from o

-- a text whose places fit into a word
abbrev pub Placeable : List ℕ → Type 0
Placeable s = length s ≤ largest_place

-- a group of n turns, whose items begin at `body`, stands in the text
pub record Opened (s : List ℕ) (n body : ℕ) : Type 0 where
  pub at : ℕ
  pub begun : Begun s at n body

-- read from its body on, it is the item that begins with its count
pub record GroupSays (s : List ℕ) (n body d : ℕ) (list list' : List ℕ) (from : ℕ) (o : Result (ℕ × ℕ) Fault) : Type 0 where
  pub is : (at : ℕ) → Begun s at n body → ItemSays s at d list list' from o

abbrev pub ItemsAre : List ℕ → ℕ → ℕ → List ℕ → List ℕ → ℕ → Result Items Fault → Type 0
ItemsAre s at d list list' from (Ok (Ended to)) = Keeps s list list' from to (λ es. ItemsEnded s at d es) (λ ps. EndsAfter s at ps)
ItemsAre s at d list list' from (Ok (Closed next to)) = Keeps s list list' from to (λ es. ItemsClosed s at d next es) (λ ps. ClosesAfter s at next ps)
ItemsAre s at d list list' from (Err f) = Spoilt list list' (ItemsBroken s at d (refusal_number f.cause) f.place)

pub record ItemsSay (s : List ℕ) (at d : ℕ) (list list' : List ℕ) (from : ℕ) (o : Result Items Fault) : Type 0 where
  pub are : ItemsAre s at d list list' from o
