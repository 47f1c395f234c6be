-- The items of a text, a byte at a time: where a reading stands, what each byte does there, and what it all says.
-- Inner: `Theorems` proves that the whole reading, FirstLine's `read`, and `Grammar` agree.
use Rattle.std.specs.Prelude.{ℕ, zero, suc, ◌+◌, ◌*◌, List, [], ◌∷◌, ◌++◌, Bool, true, false, cond, length}
use Rattle.notation.specs.declared.Kind.{Kind}
use Rattle.notation.specs.declared.Kind.TheVariants.{Digit, Gap, Marked, Offer, Open, Close, Other}
use Rattle.notation.specs.declared.Entry.{Entry}
use Rattle.notation.specs.declared.Entry.TheVariants.{StartSc}
use Rattle.notation.specs.Bytes.{kind_of, entry_of}
use Rattle.notation.specs.Grammar.{digit_ok, count_ok, times}

-- one more digit of a number that is v so far
unfoldable pub on_digit : {A : Type 0} → ℕ → ℕ → (ℕ → A) → A → A
on_digit v d fits stray = cond (digit_ok v d) (fits (v * 10 + d)) stray

-- where a reading stands
pub data Mode : Type 0 where
  -- before an item; `true`: after an item and a gap, so that the items may end here
  between : Bool → Mode
  -- in the first number of an item, which is v so far
  num : ℕ → Mode
  -- after the `s` of process p
  offer : ℕ → Mode
  -- in the number after the `s` of process p, which is v so far
  offer_num : ℕ → ℕ → Mode
  -- right after an item
  done : Mode

-- what a byte does
pub data Move : Type 0 where
  to : Mode → Move
  -- a group of so many turns begins
  enter : ℕ → Move
  -- a group ends
  leave : Move
  -- no text goes on so
  bad : Move

-- one more digit
unfoldable pub more : (ℕ → Mode) → ℕ → ℕ → Move
more f v d = on_digit v d (λ x. to (f x)) bad

-- right after an item: a gap or the end of the group
abbrev pub after : Kind → Move
after (Digit d) = bad
after Gap = to (between true)
after (Marked m) = bad
after Offer = bad
after Open = bad
after Close = leave
after Other = bad

abbrev pub shut_after : Bool → Move
shut_after true = leave
shut_after false = bad

unfoldable pub move : Mode → Kind → Move
move (between e) (Digit d) = to (num d)
move (between e) Gap = to (between e)
move (between e) (Marked m) = bad
move (between e) Offer = bad
move (between e) Open = bad
move (between e) Close = shut_after e
move (between e) Other = bad
move (num v) (Digit d) = more num v d
move (num v) Gap = bad
move (num v) (Marked m) = to done
move (num v) Offer = to (offer v)
move (num v) Open = enter v
move (num v) Close = bad
move (num v) Other = bad
move (offer p) (Digit d) = to (offer_num p d)
move (offer p) Gap = bad
move (offer p) (Marked m) = bad
move (offer p) Offer = bad
move (offer p) Open = bad
move (offer p) Close = bad
move (offer p) Other = bad
move (offer_num p v) (Digit d) = more (offer_num p) v d
move (offer_num p v) Gap = after Gap
move (offer_num p v) (Marked m) = after (Marked m)
move (offer_num p v) Offer = after Offer
move (offer_num p v) Open = after Open
move (offer_num p v) Close = after Close
move (offer_num p v) Other = after Other
move done k = after k

-- the entries that are complete with a byte: a marked one, or the number of an `s` by the first byte after it
abbrev pub said_by_mark : ℕ → Kind → List Entry
said_by_mark p (Digit d) = []
said_by_mark p Gap = []
said_by_mark p (Marked m) = entry_of m p ∷ []
said_by_mark p Offer = []
said_by_mark p Open = []
said_by_mark p Close = []
said_by_mark p Other = []

abbrev pub said_by_offer : ℕ → ℕ → Kind → List Entry
said_by_offer p v (Digit d) = []
said_by_offer p v Gap = StartSc p v ∷ []
said_by_offer p v (Marked m) = StartSc p v ∷ []
said_by_offer p v Offer = StartSc p v ∷ []
said_by_offer p v Open = StartSc p v ∷ []
said_by_offer p v Close = StartSc p v ∷ []
said_by_offer p v Other = StartSc p v ∷ []

unfoldable pub said : Mode → Kind → List Entry
said (between e) k = []
said (num p) k = said_by_mark p k
said (offer p) k = []
said (offer_num p v) k = said_by_offer p v k
said done k = []

-- an open group: its count, the entries before it, and how many groups could be opened where it stands
pub record Frame : Type 0 where
  pub count : ℕ
  pub before : List Entry
  pub room : ℕ

-- what a reading comes to: the text ends where items may end; or a `)` with no open group, with the text after it; or a
-- fault, with the number of bytes from its place on (01: "the text's end counts as one" byte: there none is left)
pub data Verdict : Type 0 where
  end : List Entry → Verdict
  shut : List Entry → List ℕ → Verdict
  fault : ℕ → ℕ → Verdict

unfoldable pub at_end : Mode → List Frame → List Entry → Verdict
at_end (between e) [] es = end es
at_end (num v) [] es = fault 10 0
at_end (offer p) [] es = fault 10 0
at_end (offer_num p v) [] es = end (es ++ StartSc p v ∷ [])
at_end done [] es = end es
at_end m (f ∷ stack) es = fault 10 0

-- a group of n turns where so many groups may be opened: with no room for it, 11, with the bytes left from its `(` on
abbrev pub entered : (Mode → List Frame → List Entry → ℕ → Verdict) → ℕ → ℕ → List Frame → List Entry → ℕ → Verdict
entered k left n stack es zero = fault 11 left
entered k left n stack es (suc r) = k (between false) (record { count = n; before = es; room = suc r } ∷ stack) [] r

-- 01: "10 first": a bad count is 10 also where there is no room
unfoldable pub go : (Mode → List Frame → List Entry → ℕ → Verdict) → List ℕ → Move → List Frame → List Entry → ℕ → Verdict
go k l (to m) stack es room = k m stack es room
go k l (enter n) stack es room = cond (count_ok n) (entered k (suc (length l)) n stack es room) (fault 10 (suc (length l)))
go k l leave [] es room = shut es l
go k l leave (f ∷ stack) es room = k done stack (f.before ++ times f.count es) f.room
go k l bad stack es room = fault 10 (suc (length l))

-- the reading of a text from where it stands, with the open groups, the entries since the last one was opened, and how
-- many more may be opened
unfoldable pub scan : List ℕ → Mode → List Frame → List Entry → ℕ → Verdict
scan [] m stack es room = at_end m stack es
scan (b ∷ l) m stack es room = go (scan l) l (move m (kind_of b)) stack (es ++ said m (kind_of b)) room
