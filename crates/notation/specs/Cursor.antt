-- What the methods of a reader and of a list of entries promise: the text stays, and of it stands what `Readers` says, up
-- to the place at which the reader stands then; and the list is the one that was lent.
-- Inner: `Readers` says what a reply is, and `Listed` what is kept.
use Rattle.std.specs.Prelude.{ℕ, ◌≤◌, ◌<◌, ◌≡◌, List, false, length, get_or, Option, Some, None, Result, Ok, Err}
use Rattle.notation.specs.declared.Kind.{Kind}
use Rattle.notation.specs.declared.Kind.TheVariants.{Digit}
use Rattle.notation.specs.declared.First.{First}
use Rattle.notation.specs.declared.Entry.{Entry}
use Rattle.notation.specs.declared.reader.Reader.{Reader}
use Rattle.notation.specs.declared.entry_list.EntryList.{EntryList}
use Rattle.notation.specs.declared.items.Fault.{Fault}
use Rattle.notation.specs.declared.items.Items.{Items}
use Rattle.notation.specs.declared.items.Items.TheVariants.{Ended, Closed}
use Rattle.notation.specs.Bytes.{kind_of, is_digit}
use Rattle.notation.specs.Readers.{Skipped, Headed, NotHeaded}
use Rattle.notation.specs.Listed.{Lists, Repeated, ItemSays, GroupSays, ItemsSay}

-- what the byte at a place is, where there is one
abbrev pub KindAt : List ℕ → ℕ → Option Kind → Type 0
KindAt s at (Some k) = (at < length s) × (kind_of (get_or s at 0) ≡ k)
KindAt s at None = length s ≤ at

-- the digit at a place, if one stands there
abbrev pub DigitAt : List ℕ → ℕ → Option ℕ → Type 0
DigitAt s at (Some d) = (at < length s) × (kind_of (get_or s at 0) ≡ Digit d)
DigitAt s at None = at < length s → is_digit (kind_of (get_or s at 0)) ≡ false

-- what was read and the place after it; or the place in the way
abbrev pub told : {A : Type 0} → Option A → ℕ → Result (A × ℕ) ℕ
told (Some x) at = Ok (x, at)
told None at = Err at

-- read on by a method: P holds of the text from the old place, with what was read and the new place
pub record ReadsAs {A : Type 0} (P : List ℕ → ℕ → Result (A × ℕ) ℕ → Type 0) (a b : Reader) (r : Option A) : Type 0 where
  pub same : b.text.now ≡ a.text.now
  pub says : P a.text.now a.at (told r b.at)

-- it has passed the gaps
pub record Passes (a b : Reader) : Type 0 where
  pub same : b.text.now ≡ a.text.now
  pub skipped : Skipped a.text.now a.at b.at

-- of the first line
abbrev pub HeadSays : List ℕ → ℕ → Result (First × ℕ) ℕ → Type 0
HeadSays s at (Ok (f, next)) = Headed s f.n f.w f.initial f.items
HeadSays s at (Err place) = NotHeaded s place

-- entries and the places of their items are put into a list, or its last ones from a place on are repeated
pub record Puts (es : List Entry) (ps : List ℕ) (l m : EntryList) : Type 0 where
  pub same : m.list.ghost_name ≡ l.list.ghost_name
  pub lists : Lists l.list.now m.list.now l.count m.count es ps

pub record Repeats (from n : ℕ) (l m : EntryList) : Type 0 where
  pub same : m.list.ghost_name ≡ l.list.ghost_name
  pub repeated : Repeated l.list.now m.list.now from l.count n m.count

-- where an item ends in the text, and its entries in the list
abbrev pub ends_at : Result (Unit {0}) Fault → ℕ → ℕ → Result (ℕ × ℕ) Fault
ends_at (Ok done) next to = Ok (next, to)
ends_at (Err f) next to = Err f

-- the text and the list stay
pub record Stay (a b : Reader) (l m : EntryList) : Type 0 where
  pub text : b.text.now ≡ a.text.now
  pub list : m.list.ghost_name ≡ l.list.ghost_name

-- an item has been read, or a group from its body on, or items
pub record ReadsItem (d : ℕ) (a b : Reader) (l m : EntryList) (r : Result (Unit {0}) Fault) : Type 0 where
  pub stay : Stay a b l m
  pub says : ItemSays a.text.now a.at d l.list.now m.list.now l.count (ends_at r b.at m.count)

pub record ReadsGroup (n d : ℕ) (a b : Reader) (l m : EntryList) (r : Result (Unit {0}) Fault) : Type 0 where
  pub stay : Stay a b l m
  pub says : GroupSays a.text.now n a.at d l.list.now m.list.now l.count (ends_at r b.at m.count)

-- where they stand behind the `)` that closes items
abbrev pub StandAt : Result Items Fault → ℕ → ℕ → Type 0
StandAt (Ok (Closed next to)) at count = (at ≡ next) × (count ≡ to)
StandAt (Ok (Ended to)) at count = Unit {0}
StandAt (Err f) at count = Unit {0}

pub record ReadsItems (d : ℕ) (a b : Reader) (l m : EntryList) (r : Result Items Fault) : Type 0 where
  pub stay : Stay a b l m
  pub says : ItemsSay a.text.now a.at d l.list.now m.list.now l.count r
  pub stand : StandAt r b.at m.count
