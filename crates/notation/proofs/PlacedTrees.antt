-- The places that the grammar gives are those that `locate` finds, and each entry has one.
use Prim.Native.Nat.{ℕ, suc, ◌+◌, ◌*◌}
use mathlib.Core.Path.{◌≡◌, refl, sym, ap, ◌∙◌}
use mathlib.Core.List.{List, [], ◌∷◌, ◌++◌, append_assoc, append-nil}
use mathlib.Core.Bool.{Bool, true, false, cond, true≢false}
use native.Mathlib.Omega.{arith}
use borrow.Author.Tests.{eqb-true}
use lib.Dec.{eqb}
use lib.ListN.{length, length-append}
use Rattle.notation.specs.declared.Kind.{Kind}
use Rattle.notation.specs.declared.Kind.TheVariants.{Digit, Close}
use Rattle.notation.specs.Bytes.{space, line_feed, kind_of, is_digit}
use Rattle.notation.specs.Grammar as G
use Rattle.notation.specs.Grammar.{Byte, Number, Gaps, Item, Items, Lead, Schedule, FirstLine, Text, times}
use Rattle.notation.specs.Grammar.{item_bytes, items_bytes, lead_bytes, schedule_bytes, first_bytes, bytes}
use Rattle.notation.specs.Grammar.{item_says, items_say, lead_says, schedule_says, says}
use Rattle.notation.specs.Grammar.{item_places, items_places, lead_places, schedule_places, places}
use Rattle.notation.specs.Places.{Part, fore, head, tail, Level, stride, locate, locate_text}
use Rattle.notation.proofs.ListedLaws.{length_times}

-- a place that is written in two ways
placed : {at at' : ℕ} (l : List ℕ) (m : Part) (stack : List Level) (os : List ℕ) → at ≡ at' → locate l at m stack os ≡ locate l at' m stack os
placed l m stack os e = ap (λ (x : ℕ). locate l x m stack os) e

-- a byte of a known kind
byte : {c : ℕ} {k : Kind} (l : List ℕ) (at : ℕ) (m : Part) (stack : List Level) (os : List ℕ) → Byte c k
    → locate (c ∷ l) at m stack os ≡ stride (locate l (suc at)) at m k stack os
unfolding locate
byte l at m stack os e = ap (λ (x : Kind). stride (locate l (suc at)) at m x stack os) e.is

number_placed : {ds : List ℕ} {v : ℕ} → Number ds v → (l : List ℕ) (at : ℕ) (stack : List Level) (os : List ℕ)
    → locate (ds ++ l) at fore stack os ≡ locate l (at + length ds) (head at v) stack os
unfolding stride
number_placed (G.digit {d = d} e) l at stack os = byte l at fore stack os e ∙ placed l (head at d) stack os (omega arith)
number_placed (G.more {ds = ds} {v = v} {c = c} {d = d} n e fits) l at stack os =
    let next : suc (at + length ds) ≡ at + length (ds ++ c ∷ []) = omega (arith, length-append ds (c ∷ [])) in
    ap (λ (x : List ℕ). locate x at fore stack os) (append_assoc ds (c ∷ []) l) ∙ number_placed n (c ∷ l) at stack os
    ∙ byte l (at + length ds) (head at v) stack os e ∙ placed l (head at (v * 10 + d)) stack os next

-- the number after an `s`
offer_placed : {ds : List ℕ} {v : ℕ} → Number ds v → (l : List ℕ) (at : ℕ) (stack : List Level) (os : List ℕ)
    → locate (ds ++ l) at tail stack os ≡ locate l (at + length ds) tail stack os
unfolding stride
offer_placed (G.digit e) l at stack os = byte l at tail stack os e ∙ placed l tail stack os (omega arith)
offer_placed (G.more {ds = ds} {c = c} n e fits) l at stack os =
    let next : suc (at + length ds) ≡ at + length (ds ++ c ∷ []) = omega (arith, length-append ds (c ∷ [])) in
    ap (λ (x : List ℕ). locate x at tail stack os) (append_assoc ds (c ∷ []) l) ∙ offer_placed n (c ∷ l) at stack os
    ∙ byte l (at + length ds) tail stack os e ∙ placed l tail stack os next

gaps_placed : {g : List ℕ} → Gaps g → (l : List ℕ) (at : ℕ) (stack : List Level) (os : List ℕ)
    → locate (g ++ l) at fore stack os ≡ locate l (at + length g) fore stack os
unfolding stride
gaps_placed G.none l at stack os = placed l fore stack os (omega arith)
gaps_placed (G.gap {g = g} h t) l at stack os =
    byte (g ++ l) at fore stack os h ∙ gaps_placed t l (suc at) stack os ∙ placed l fore stack os (omega arith)

-- behind the last item: gaps, and the end of the group or of the text
close_placed : {g : List ℕ} {z : ℕ} → Gaps g → Byte z Close → (f : Level) (l : List ℕ) (at : ℕ) (stack : List Level) (os : List ℕ)
    → locate (g ++ z ∷ l) at tail (f ∷ stack) os ≡ locate l (at + length g + 1) tail stack (f.outer ++ times f.count os)
unfolding stride
close_placed G.none e f l at stack os = byte l at tail (f ∷ stack) os e ∙ placed l tail stack (f.outer ++ times f.count os) (omega arith)
close_placed {z = z} (G.gap {g = g} h t) e f l at stack os =
    byte (g ++ z ∷ l) at tail (f ∷ stack) os h ∙ gaps_placed t (z ∷ l) (suc at) (f ∷ stack) os
    ∙ byte l (suc at + length g) fore (f ∷ stack) os e ∙ placed l tail stack (f.outer ++ times f.count os) (omega arith)

end_placed : {g : List ℕ} → Gaps g → (at : ℕ) (os : List ℕ) → locate g at tail [] os ≡ os
unfolding locate stride
end_placed G.none at os = refl
end_placed (G.gap {g = g} h t) at os =
    byte g at tail [] os h ∙ ap (λ (x : List ℕ). locate x (suc at) fore [] os) (sym (append-nil g)) ∙ gaps_placed t [] (suc at) [] os

mutual
  unfolding stride item_bytes item_places

  item_placed : {d : ℕ} (i : Item d) (l : List ℕ) (at : ℕ) (stack : List Level) (os : List ℕ)
      → locate (item_bytes i ++ l) at fore stack os ≡ locate l (at + length (item_bytes i)) tail stack (os ++ item_places at i)
  item_placed (G.marked ds p c m n h) l at stack os =
      let next : suc (at + length ds) ≡ at + length (ds ++ c ∷ []) = omega (arith, length-append ds (c ∷ [])) in
      ap (λ (x : List ℕ). locate x at fore stack os) (append_assoc ds (c ∷ []) l) ∙ number_placed n (c ∷ l) at stack os
      ∙ byte l (at + length ds) (head at p) stack os h ∙ placed l tail stack (os ++ at ∷ []) next
  item_placed (G.offer ds p c ws v n h w) l at stack os =
      let next : suc (at + length ds) + length ws ≡ at + length (ds ++ c ∷ ws) = omega (arith, length-append ds (c ∷ ws)) in
      ap (λ (x : List ℕ). locate x at fore stack os) (append_assoc ds (c ∷ ws) l) ∙ number_placed n (c ∷ (ws ++ l)) at stack os
      ∙ byte (ws ++ l) (at + length ds) (head at p) stack os h ∙ offer_placed w l (suc (at + length ds)) stack (os ++ at ∷ [])
      ∙ placed l tail stack (os ++ at ∷ []) next
  item_placed (G.group ds n a k c h i g z t u) l at stack os =
      let f : Level = record { count = n; outer = os } in
      let body = at + length ds + 1 in
      let rest = items_bytes i ++ (g ++ z ∷ []) in
      let first : suc (at + length ds) ≡ body = omega arith in
      let whole : length (ds ++ a ∷ rest) ≡ length ds + suc (length (items_bytes i) + (length g + 1)) =
      omega (arith, length-append ds (a ∷ rest), length-append (items_bytes i) (g ++ z ∷ []), length-append g (z ∷ [])) in
      let last : body + length (items_bytes i) + length g + 1 ≡ at + length (ds ++ a ∷ rest) = omega (arith, whole) in
      ap (λ (x : List ℕ). locate x at fore stack os) (append_assoc ds (a ∷ rest) l) ∙ number_placed k (a ∷ (rest ++ l)) at stack os
      ∙ byte (rest ++ l) (at + length ds) (head at n) stack os h ∙ placed (rest ++ l) fore (f ∷ stack) [] first
      ∙ ap (λ (x : List ℕ). locate x body fore (f ∷ stack) []) (append_assoc (items_bytes i) (g ++ z ∷ []) l ∙ ap (λ (x : List ℕ). items_bytes i ++ x) (append_assoc g (z ∷ []) l))
      ∙ items_placed i (g ++ z ∷ l) body (f ∷ stack) []
      ∙ close_placed t u f l (body + length (items_bytes i)) stack (items_places body i)
      ∙ placed l tail stack (os ++ times n (items_places body i)) last

  items_placed : {d : ℕ} (i : Items d) (l : List ℕ) (at : ℕ) (stack : List Level) (os : List ℕ)
      → locate (items_bytes i ++ l) at fore stack os ≡ locate l (at + length (items_bytes i)) tail stack (os ++ items_places at i)
  items_placed (G.item p i) l at stack os =
      let here = at + length (lead_bytes p) in
      let next : here + length (item_bytes i) ≡ at + length (lead_bytes p ++ item_bytes i) = omega (arith, length-append (lead_bytes p) (item_bytes i)) in
      ap (λ (x : List ℕ). locate x at fore stack os) (append_assoc (lead_bytes p) (item_bytes i) l)
      ∙ lead_placed p (item_bytes i ++ l) at stack os ∙ item_placed i l here stack (os ++ lead_places at p)
      ∙ ap (λ (x : List ℕ). locate l (here + length (item_bytes i)) tail stack x) (append_assoc os (lead_places at p) (item_places here i))
      ∙ placed l tail stack (os ++ (lead_places at p ++ item_places here i)) next

  lead_placed : {d : ℕ} (p : Lead d) (l : List ℕ) (at : ℕ) (stack : List Level) (os : List ℕ)
      → locate (lead_bytes p ++ l) at fore stack os ≡ locate l (at + length (lead_bytes p)) fore stack (os ++ lead_places at p)
  lead_placed (G.fresh g t) l at stack os =
      gaps_placed t l at stack os ∙ ap (λ (x : List ℕ). locate l (at + length g) fore stack x) (sym (append-nil os))
  lead_placed (G.apart i c g h t) l at stack os =
      let ps = os ++ items_places at i in
      let end = at + length (items_bytes i) in
      let next : suc end + length g ≡ at + length (items_bytes i ++ c ∷ g) = omega (arith, length-append (items_bytes i) (c ∷ g)) in
      ap (λ (x : List ℕ). locate x at fore stack os) (append_assoc (items_bytes i) (c ∷ g) l) ∙ items_placed i (c ∷ (g ++ l)) at stack os
      ∙ byte (g ++ l) end tail stack ps h ∙ gaps_placed t l (suc end) stack ps ∙ placed l fore stack ps next

-- the items of a text
schedule_placed : {d : ℕ} (t : Schedule d) (at : ℕ) → locate (schedule_bytes t) at fore [] [] ≡ schedule_places at t
unfolding locate schedule_bytes schedule_places
schedule_placed (G.empty g t) at = ap (λ (x : List ℕ). locate x at fore [] []) (sym (append-nil g)) ∙ gaps_placed t [] at [] []
schedule_placed (G.items i g t) at = items_placed i g at [] [] ∙ end_placed t (at + length (items_bytes i)) (items_places at i)

-- a byte of the first line: a line feed, or another
pub digit_no_feed : (c d : ℕ) → kind_of c ≡ Digit d → eqb c line_feed ≡ false
unfolding kind_of
digit_no_feed c d e = pick (eqb c line_feed) refl
  where
    pick : (t : Bool) → eqb c line_feed ≡ t → t ≡ false
    pick true q = absurd (true≢false (sym (ap is_digit e) ∙ ap (λ (x : ℕ). is_digit (kind_of x)) (eqb-true c line_feed q)))
    pick false q = refl

other_byte : (c : ℕ) (l : List ℕ) (at : ℕ) → eqb c line_feed ≡ false → locate_text (c ∷ l) at ≡ locate_text l (suc at)
unfolding locate_text
other_byte c l at e = ap (λ (x : Bool). cond x (locate l (suc at) fore [] []) (locate_text l (suc at))) e

digits_passed : {ds : List ℕ} {v : ℕ} → Number ds v → (l : List ℕ) (at : ℕ) → locate_text (ds ++ l) at ≡ locate_text l (at + length ds)
digits_passed (G.digit {c = c} {d = d} e) l at =
    let next : suc at ≡ at + 1 = omega arith in
    other_byte c l at (digit_no_feed c d e.is) ∙ ap (locate_text l) next
digits_passed (G.more {ds = ds} {c = c} {d = d} n e fits) l at =
    let next : suc (at + length ds) ≡ at + length (ds ++ c ∷ []) = omega (arith, length-append ds (c ∷ [])) in
    ap (λ (x : List ℕ). locate_text x at) (append_assoc ds (c ∷ []) l) ∙ digits_passed n (c ∷ l) at
    ∙ other_byte c l (at + length ds) (digit_no_feed c d e.is) ∙ ap (locate_text l) next

first_passed : (f : FirstLine) (l : List ℕ) → locate_text (first_bytes f ++ l) 0 ≡ locate l (length (first_bytes f)) fore [] []
unfolding locate_text first_bytes
first_passed f l =
    let third = f.initial_digits ++ line_feed ∷ [] in
    let second = f.w_digits ++ space ∷ third in
    let a = 0 + length f.n_digits in
    let b = suc a + length f.w_digits in
    let c = suc b + length f.initial_digits in
    let whole : suc c ≡ length (f.n_digits ++ space ∷ second) =
    omega (arith, length-append f.n_digits (space ∷ second), length-append f.w_digits (space ∷ third), length-append f.initial_digits (line_feed ∷ [])) in
    ap (λ (x : List ℕ). locate_text x 0) (append_assoc f.n_digits (space ∷ second) l) ∙ digits_passed f.n_number (space ∷ (second ++ l)) 0
    ∙ ap (λ (x : List ℕ). locate_text x (suc a)) (append_assoc f.w_digits (space ∷ third) l) ∙ digits_passed f.w_number (space ∷ (third ++ l)) (suc a)
    ∙ ap (λ (x : List ℕ). locate_text x (suc b)) (append_assoc f.initial_digits (line_feed ∷ []) l) ∙ digits_passed f.initial_number (line_feed ∷ l) (suc b)
    ∙ placed l fore [] [] whole

-- what places a text has, its bytes tell
pub text_placed : {d : ℕ} (t : Text d) → locate_text (bytes t) 0 ≡ places t
unfolding bytes places
text_placed t = first_passed t.first (schedule_bytes t.schedule) ∙ schedule_placed t.schedule (length (first_bytes t.first))

-- as many places as entries
mutual
  unfolding item_says item_places

  item_even : {d : ℕ} (i : Item d) (at : ℕ) → length (item_places at i) ≡ length (item_says i)
  item_even (G.marked ds p c m n h) at = refl
  item_even (G.offer ds p c ws v n h w) at = refl
  item_even (G.group ds n a k c h i g z t u) at =
      let body = at + length ds + 1 in
      length_times n (items_places body i) ∙ ap (λ (x : ℕ). n * x) (items_even i body) ∙ sym (length_times n (items_say i))

  items_even : {d : ℕ} (i : Items d) (at : ℕ) → length (items_places at i) ≡ length (items_say i)
  items_even (G.item p i) at =
      let here = at + length (lead_bytes p) in
      omega (arith, length-append (lead_places at p) (item_places here i), length-append (lead_says p) (item_says i), lead_even p at, item_even i here)

  lead_even : {d : ℕ} (p : Lead d) (at : ℕ) → length (lead_places at p) ≡ length (lead_says p)
  lead_even (G.fresh g t) at = refl
  lead_even (G.apart i c g h t) at = items_even i at

schedule_even : {d : ℕ} (t : Schedule d) (at : ℕ) → length (schedule_places at t) ≡ length (schedule_says t)
unfolding schedule_places schedule_says
schedule_even (G.empty g t) at = refl
schedule_even (G.items i g t) at = items_even i at

pub text_even : {d : ℕ} (t : Text d) → length (places t) ≡ length (says t).entries
unfolding places says
text_even t = schedule_even t.schedule (length (first_bytes t.first))
