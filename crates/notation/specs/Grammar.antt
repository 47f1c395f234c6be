-- The notation of schedules, to be held against 01's "Schedule text and listing": which bytes a text has, and what they
-- say.
use Rattle.std.specs.Prelude.{ℕ, zero, suc, ◌+◌, ◌*◌, ◌≡◌, List, [], ◌∷◌, ◌++◌, Bool, true, false, cond, eqb, leb, length}
use Rattle.notation.specs.declared.Mark.{Mark}
use Rattle.notation.specs.declared.Kind.{Kind}
use Rattle.notation.specs.declared.Kind.TheVariants.{Digit, Gap, Marked, Offer, Open, Close}
use Rattle.notation.specs.declared.Entry.{Entry}
use Rattle.notation.specs.declared.Entry.TheVariants.{StartSc}
use Rattle.notation.specs.Bytes.{space, line_feed, kind_of, entry_of}

-- a byte of a kind
pub record Byte (c : ℕ) (k : Kind) : Type 0 where
  pub is : kind_of c ≡ k

-- 01: "Numbers are decimal, at most 4,294,967,295"
abbrev pub largest : ℕ
largest = 4294967295

-- CR 3: "A number in schedule text must no longer have a leading zero; `0` itself stays": a digit d may follow digits of
-- value v unless they are a zero, and unless the number becomes too large
abbrev pub digit_ok : ℕ → ℕ → Bool
digit_ok v d = cond (eqb v 0) false (leb (v * 10 + d) largest)

-- digits `ds` of value v
pub data Number : List ℕ → ℕ → Type 0 where
  digit : {c d : ℕ} → Byte c (Digit d) → Number (c ∷ []) d
  more : {ds : List ℕ} {v c d : ℕ} → Number ds v → Byte c (Digit d) → digit_ok v d ≡ true → Number (ds ++ c ∷ []) (v * 10 + d)

-- spaces and line feeds, or nothing
pub data Gaps : List ℕ → Type 0 where
  none : Gaps []
  gap : {c : ℕ} {g : List ℕ} → Byte c Gap → Gaps g → Gaps (c ∷ g)

-- 01: "a count 1 to 255"
abbrev pub count_ok : ℕ → Bool
count_ok n = cond (eqb n 0) false (leb n 255)

mutual
  -- an item in which groups may stand d deep
  pub data Item : ℕ → Type 0 where
    -- 01: "a process number and directly `l`, `v`, `.`, `!`"
    marked : {d : ℕ} (ds : List ℕ) (p c : ℕ) (m : Mark) → Number ds p → Byte c (Marked m) → Item d
    -- 01: "or `s` with a number directly after it"
    offer : {d : ℕ} (ds : List ℕ) (p c : ℕ) (ks : List ℕ) (k : ℕ) → Number ds p → Byte c Offer → Number ks k → Item d
    -- 01: "a count 1 to 255, directly `(`, at least one item, `)`"; gaps "just inside brackets"
    group : {d : ℕ} (ds : List ℕ) (n a : ℕ) → Number ds n → count_ok n ≡ true → Byte a Open → Items d → (g : List ℕ) (z : ℕ) → Gaps g → Byte z Close → Item (suc d)

  -- one or more items
  pub data Items : ℕ → Type 0 where
    item : {d : ℕ} → Lead d → Item d → Items d

  -- what stands before an item: gaps, "allowed before the first item"; or items, and then "one or more spaces or line
  -- feeds"
  pub data Lead : ℕ → Type 0 where
    fresh : {d : ℕ} (g : List ℕ) → Gaps g → Lead d
    apart : {d : ℕ} → Items d → (c : ℕ) (g : List ℕ) → Byte c Gap → Gaps g → Lead d

-- the items of a text, or none ("An empty schedule is allowed"), with gaps "after the last"
pub data Schedule : ℕ → Type 0 where
  empty : {d : ℕ} (g : List ℕ) → Gaps g → Schedule d
  items : {d : ℕ} → Items d → (g : List ℕ) → Gaps g → Schedule d

-- 01: "First line: N, W and an initial number"
pub record FirstLine : Type 0 where
  pub n_digits : List ℕ
  pub n : ℕ
  pub n_number : Number n_digits n
  pub w_digits : List ℕ
  pub w : ℕ
  pub w_number : Number w_digits w
  pub initial_digits : List ℕ
  pub initial : ℕ
  pub initial_number : Number initial_digits initial

-- a whole text
pub record Text (d : ℕ) : Type 0 where
  pub first : FirstLine
  pub schedule : Schedule d

-- 01: "A group holds items, and so to eight deep"
abbrev pub deepest : ℕ
deepest = 8

-- The bytes.
unfoldable mutual
  pub item_bytes : {d : ℕ} → Item d → List ℕ
  item_bytes (marked ds p c m n k) = ds ++ c ∷ []
  item_bytes (offer ds p c ks v n k w) = ds ++ c ∷ ks
  item_bytes (group ds n a k ok o i g z t u) = ds ++ a ∷ (items_bytes i ++ (g ++ z ∷ []))

  pub items_bytes : {d : ℕ} → Items d → List ℕ
  items_bytes (item l i) = lead_bytes l ++ item_bytes i

  pub lead_bytes : {d : ℕ} → Lead d → List ℕ
  lead_bytes (fresh g t) = g
  lead_bytes (apart i c g k t) = items_bytes i ++ c ∷ g

unfoldable pub schedule_bytes : {d : ℕ} → Schedule d → List ℕ
schedule_bytes (empty g t) = g
schedule_bytes (items i g t) = items_bytes i ++ g

-- 01: "one space between, then a line feed"
unfoldable pub first_bytes : FirstLine → List ℕ
first_bytes f = f.n_digits ++ space ∷ (f.w_digits ++ space ∷ (f.initial_digits ++ line_feed ∷ []))

unfoldable pub bytes : {d : ℕ} → Text d → List ℕ
bytes t = first_bytes t.first ++ schedule_bytes t.schedule

-- What they say.
-- 01: "carried out that many times"
unfoldable pub times : {A : Type 0} → ℕ → List A → List A
times zero es = []
times (suc n) es = es ++ times n es

unfoldable mutual
  pub item_says : {d : ℕ} → Item d → List Entry
  item_says (marked ds p c m n k) = entry_of m p ∷ []
  item_says (offer ds p c ks v n k w) = StartSc p v ∷ []
  item_says (group ds n a k ok o i g z t u) = times n (items_say i)

  pub items_say : {d : ℕ} → Items d → List Entry
  items_say (item l i) = lead_says l ++ item_says i

  pub lead_says : {d : ℕ} → Lead d → List Entry
  lead_says (fresh g t) = []
  lead_says (apart i c g k t) = items_say i

unfoldable pub schedule_says : {d : ℕ} → Schedule d → List Entry
schedule_says (empty g t) = []
schedule_says (items i g t) = items_say i

-- what a text says: the numbers of its first line and its entries, groups expanded
pub record Said : Type 0 where
  pub n : ℕ
  pub w : ℕ
  pub initial : ℕ
  pub entries : List Entry

unfoldable pub says : {d : ℕ} → Text d → Said
says t = record { n = t.first.n; w = t.first.w; initial = t.first.initial; entries = schedule_says t.schedule }

-- Where they stand: for each entry, the place of the first byte of the item that says it, the text's first byte being
-- at place 0.
-- The items of a group are in one place each, however often they are carried out.
unfoldable mutual
  -- of an item that begins at `at`
  pub item_places : {d : ℕ} → ℕ → Item d → List ℕ
  item_places at (marked ds p c m n k) = at ∷ []
  item_places at (offer ds p c ks v n k w) = at ∷ []
  item_places at (group ds n a k ok o i g z t u) = times n (items_places (at + length ds + 1) i)

  pub items_places : {d : ℕ} → ℕ → Items d → List ℕ
  items_places at (item l i) = lead_places at l ++ item_places (at + length (lead_bytes l)) i

  pub lead_places : {d : ℕ} → ℕ → Lead d → List ℕ
  lead_places at (fresh g t) = []
  lead_places at (apart i c g k t) = items_places at i

unfoldable pub schedule_places : {d : ℕ} → ℕ → Schedule d → List ℕ
schedule_places at (empty g t) = []
schedule_places at (items i g t) = items_places at i

-- one place for each entry that a text says, in the order of the entries
unfoldable pub places : {d : ℕ} → Text d → List ℕ
places t = schedule_places (length (first_bytes t.first)) t.schedule
